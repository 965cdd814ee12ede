-- How the work area holds the facts of the lines: one after another, each as its constant and then its coefficients.
use Rattle.std.specs.Prelude.{◌≡◌, ℕ, ◌+◌, ◌-◌, ◌*◌, ◌<◌, ℤ, List, [], ◌∷◌, ◌++◌, map, take, drop, length, All, Option}
use Rattle.std.specs.List.{range_with_len}
use Rattle.bk_lin.specs.declared.fact.Fact.{Fact}
use Rattle.bk_lin.specs.declared.fact.Line.{Line}
use Rattle.bk_lin.specs.declared.fact.CertFault.{CertFault}
use Rattle.bk_lin.specs.declared.fact.CertFault.TheVariants.{BadLine, Negative, TooWide, NotClosed}
use Rattle.bk_lin.specs.declared.standing.Standing.{Standing}
use Rattle.bk_lin.specs.Inequality.{Inequality, zero_of}
use Rattle.bk_lin.specs.Certificate.{inequalities, line_fault}

-- a fact that the code reads
abbrev pub shown : List ℤ → ℤ → Inequality
shown coefs constant = record { coefs = coefs; constant = constant }

-- the fact that a piece of the work area holds
abbrev pub held_in : List ℤ → Inequality
held_in [] = zero_of 0
held_in (constant ∷ coefs) = record { coefs = coefs; constant = constant }

-- the fact of line k + 1, where each takes `size` numbers
abbrev pub held_at : ℕ → List ℤ → ℕ → Inequality
held_at size made k = held_in (take size (drop (k * size) made))

-- the given facts, and those of so many lines
abbrev pub standing_of : List Fact → ℕ → ℕ → List ℤ → List Inequality
standing_of given size lines made = inequalities given ++ map (held_at size made) (range_with_len 0 lines)

-- the facts that stand before a line
abbrev pub facts_of : Standing → List Inequality
facts_of s = standing_of s.given.now s.size s.lines s.made.now

-- what is wrong with the line that comes next
abbrev pub next_fault : Standing → Line → Option CertFault
next_fault s line = line_fault (s.size - 1) (s.lines + 1) (facts_of s) line

-- each fact has a coefficient less than the numbers it takes, and the lines' facts fill their part of the work area
pub record IsLaidOut (s : Standing) : Type 0 where
  pub has_constant : 0 < s.size
  pub given_width : All (λ f. length f.coefs.items + 1 ≡ s.size) s.given.now
  pub made_length : length s.made.now ≡ s.lines * s.size

-- the line that a fault names, and 0 where it names none
abbrev pub number_of : CertFault → ℕ
number_of (BadLine k) = k
number_of (Negative k) = k
number_of (TooWide k) = k
number_of NotClosed = 0
