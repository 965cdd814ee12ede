-- Multipliers that sum inequalities to a contradiction, and the inequalities over which one is always found.
use Rattle.std.specs.Prelude.{◌≡◌, ℕ, pos, ◌≤◌, ◌^◌, List, [], ◌∷◌, length, All}
use Rattle.std.specs.Int.RustNames.{unsigned_abs}
use Rattle.bk_lin.specs.Inequality.{Inequality, IsContradiction, zero_of, times, plus_all}

-- each inequality times its multiplier; one without a multiplier is left out
abbrev pub multiples : List ℕ → List Inequality → List Inequality
multiples [] ps = []
multiples (m ∷ ms) [] = []
multiples (m ∷ ms) (p ∷ ps) = times (pos m) p ∷ multiples ms ps

-- the multiples of inequalities over so many atoms add up to no atom and a negative constant
abbrev pub Refutes : ℕ → List Inequality → List ℕ → Type 0
Refutes width ps ms = IsContradiction (plus_all (zero_of width) (multiples ms ps))

-- its coefficients are at most 20, and its constant at most 2 ^ 40, in absolute value
pub record IsSmall (p : Inequality) : Type 0 where
  pub coefs : All (λ c. unsigned_abs c ≤ 20) p.coefs
  pub constant : unsigned_abs p.constant ≤ 2 ^ 40

-- at most 16 small inequalities over at most 4 atoms, each with a coefficient for each atom
pub record IsSmallSystem (width : ℕ) (ps : List Inequality) : Type 0 where
  pub few_atoms : width ≤ 4
  pub few : length ps ≤ 16
  pub one_width : All (λ p. length p.coefs ≡ width) ps
  pub small : All IsSmall ps
