-- How terms are rewritten as they are read: what one term turns out to be is what another one does. The rewritings are those of the
-- B-Book and of the B Language Reference Manual.
use Rattle.std.specs.Prelude.{◌≡◌, ◌++◌, ℕ, ℤ, pos, neg_ℤ, []}
use Rattle.bk_raw.specs.declared.operator.InfixOp.TheVariants.{And, Equal, NotEqual, Less, AtMost, Greater, AtLeast, Member, NotMember}
use Rattle.bk_raw.specs.declared.operator.InfixOp.TheVariants.{Subset, NotSubset, StrictSubset, Union, Maplet, Interval, Plus, Minus}
use Rattle.bk_raw.specs.declared.operator.WordOp.TheVariants.{Not, Succ, Pred, Pow, Pow1, Fin, Fin1}
use Rattle.bk_raw.specs.declared.operator.Constant.TheVariants.{Int, Nat, Nat1, MaxInt, MinInt}
use Rattle.bk_raw.specs.Trees.RawTree.{RawTree, raw, raw_number, raw_constant, raw_word, raw_infix}
use Rattle.bk_raw.specs.Trees.RawTree.{raw_pair, raw_extension, RawTrees, no_trees, tree_and}
use Rattle.bk_raw.specs.Meaning.Names.{Names}
use Rattle.bk_raw.specs.Meaning.TermReading.{place_of, stricts, reading}
use Rattle.bk_raw.specs.Meaning.GivesTakes.{expression}

-- under all names and for each MAXINT the terms turn out to be the same
abbrev pub MeanAlike : RawTree → RawTree → Type 0
MeanAlike s t = (max : ℤ) (names : Names) → (reading max names s).outcome ≡ (reading max names t).outcome

-- not(P) at a byte
abbrev pub negation_at : ℕ → RawTree → RawTree
negation_at at p = raw at (raw_word Not p)

-- POW(D)
abbrev pub power_set : RawTree → RawTree
power_set d = raw (place_of d) (raw_word Pow d)

-- {E}
abbrev pub single_set : RawTree → RawTree
single_set e = raw (place_of e) (raw_extension (tree_and e no_trees))

-- S \/ {a} \/ {b} .., from left to right
abbrev pub united : ℕ → RawTree → RawTrees → RawTree
united at s no_trees = s
united at s (tree_and t ts) = united at (raw at (raw_infix Union s (single_set t))) ts

-- the interval from one number to another
abbrev pub between : ℕ → ℤ → ℤ → RawTree
between at a b = raw at (raw_infix Interval (raw at (raw_number a)) (raw at (raw_number b)))

-- forms of the notation that mean what another form means
pub record Rewritings : Type 0 where
  -- a /= b is not(a = b), a /: b is not(a : b), and a /<: b is not(a <: b)
  pub unequal : (at : ℕ) (a b : RawTree) → MeanAlike (raw at (raw_infix NotEqual a b)) (negation_at at (raw at (raw_infix Equal a b)))
  pub no_member : (at : ℕ) (a b : RawTree) → MeanAlike (raw at (raw_infix NotMember a b)) (negation_at at (raw at (raw_infix Member a b)))
  pub no_subset : (at : ℕ) (a b : RawTree) → MeanAlike (raw at (raw_infix NotSubset a b)) (negation_at at (raw at (raw_infix Subset a b)))
  -- E <: D is E : POW(D)
  pub subset : (at : ℕ) (a b : RawTree) → MeanAlike (raw at (raw_infix Subset a b)) (raw at (raw_infix Member a (power_set b)))
  -- S <<: T is S : POW(T) & not(S = T), where no <<: stands within S or T
  pub strict_subset : (at : ℕ) (a b : RawTree) → stricts a ++ stricts b
      ≡ [] → MeanAlike (raw at (raw_infix StrictSubset a b))
      (raw at (raw_infix And (raw at (raw_infix Member a (power_set b))) (negation_at at (raw at (raw_infix Equal a b)))))
  -- a > b is b < a, and a >= b is b <= a
  pub greater : (at : ℕ) (a b : RawTree) → MeanAlike (raw at (raw_infix Greater a b)) (raw at (raw_infix Less b a))
  pub at_least : (at : ℕ) (a b : RawTree) → MeanAlike (raw at (raw_infix AtLeast a b)) (raw at (raw_infix AtMost b a))
  -- succ(E) is E + 1, and pred(E) is E - 1
  pub successor : (at there : ℕ) (a : RawTree) →
      MeanAlike (raw at (raw_word Succ a)) (raw at (raw_infix Plus a (raw there (raw_number (pos 1)))))
  pub predecessor : (at there : ℕ) (a : RawTree) →
      MeanAlike (raw at (raw_word Pred a)) (raw at (raw_infix Minus a (raw there (raw_number (pos 1)))))
  -- FIN is POW, and FIN1 is POW1
  pub finite_sets : (at : ℕ) (a : RawTree) → MeanAlike (raw at (raw_word Fin a)) (raw at (raw_word Pow a))
  pub finite_nonempty_sets : (at : ℕ) (a : RawTree) → MeanAlike (raw at (raw_word Fin1 a)) (raw at (raw_word Pow1 a))
  -- MAXINT and MININT are literals; INT, NAT and NAT1 are intervals of literals
  pub greatest : (at : ℕ) (max : ℤ) (names : Names) →
      (reading max names (raw at (raw_constant MaxInt))).outcome ≡ (reading max names (raw at (raw_number max))).outcome
  pub least : (at : ℕ) (max : ℤ) (names : Names) → (reading max names (raw at (raw_constant MinInt))).outcome
      ≡ (reading max names (raw at (raw_number (neg_ℤ max)))).outcome
  pub integers : (at : ℕ) (max : ℤ) (names : Names) →
      (reading max names (raw at (raw_constant Int))).outcome ≡ (reading max names (between at (neg_ℤ max) max)).outcome
  pub naturals : (at : ℕ) (max : ℤ) (names : Names) →
      (reading max names (raw at (raw_constant Nat))).outcome ≡ (reading max names (between at (pos 0) max)).outcome
  pub positives : (at : ℕ) (max : ℤ) (names : Names) →
      (reading max names (raw at (raw_constant Nat1))).outcome ≡ (reading max names (between at (pos 1) max)).outcome
  -- {a, b, c} is ({a} \/ {b}) \/ {c}, and (a, b) is a |-> b
  pub extension : (at : ℕ) (t : RawTree) (ts : RawTrees) (max : ℤ) (names : Names) →
      expression max names (raw at (raw_extension (tree_and t ts)))
      ≡ expression max names (united at (single_set t) ts)
  pub pair : (at : ℕ) (a b : RawTree) → MeanAlike (raw at (raw_pair a b)) (raw at (raw_infix Maplet a b))
