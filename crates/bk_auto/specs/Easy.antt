-- Easy sequents: those for which rules are always found.
-- Source: this project's; linear arithmetic after Schrijver, Theory of Linear and Integer Programming.
use Rattle.std.specs.Prelude.{◌≡◌, ◌⊎◌, ℕ, zero, suc, ◌+◌, ◌≤◌, max, true, List, [], ◌∷◌, ◌++◌, map, length, All, Some, is_none, cond}
use Rattle.bk_val.specs.ValueType.{ValueType, int_type, pair_type, set_type}
use Rattle.bk_form.specs.Table.{Table}
use Rattle.bk_form.specs.Wider.{IsWider}
use Rattle.bk_form.specs.Formula.{Formula, empty_set, bfalse, unary, binary, for_all, for_some, comprehension, lambda}
use Rattle.bk_form.specs.Formula.{Formulas, no_formulas, formula_and, formula_size, formula_height}
use Rattle.bk_form.specs.Role.{role, gives}
use Rattle.bk_form.specs.declared.operator.BinOp.{BinOp}
use Rattle.bk_form.specs.declared.operator.BinOp.TheVariants.{And, Imp, Eq, Lt, Le, In, Range}
use Rattle.bk_bind.specs.Opening.{opened}
use Rattle.bk_seq.specs.Sequents.{Sequent}
use Rattle.bk_lin.specs.Inequality.{Inequality}
use Rattle.bk_elim.specs.Refutation.{IsSmall, Refutes}
use Rattle.bk_arith.specs.Comparison.{terms_of_hypothesis}
use Rattle.bk_arith.specs.Reading.{atoms_of}
use Rattle.bk_arith.specs.Decision.{terms_of, readings}
use Rattle.bk_kernel.specs.Naming.{names_of, are_fresh}
use Rattle.bk_kernel.specs.Obvious.{is_obvious}

-- ---- facts that contradict each other
-- the hypotheses that linear arithmetic reads, in order
abbrev pub comparisons : List Formula → List Formula
comparisons [] = []
comparisons (h ∷ hs) = cond (is_none (terms_of_hypothesis h)) (comparisons hs) (h ∷ comparisons hs)

-- the facts of all hypotheses that are read, and that of the denied goal, each as a term that is at least 0
abbrev pub terms_read : List Formula → Formula → List Formula
terms_read hyps goal = terms_of (comparisons hyps) goal

-- facts, read as linear forms over their atoms: at most 16, with at most 4 atoms; their coefficients are at most 20 and their constants
-- at most 2 ^ 40 in absolute value; and some multipliers that are not negative sum them to no atom and a negative constant
pub record AreContradictory (terms : List Formula) : Type 0 where
  pub facts : List Inequality
  pub multipliers : List ℕ
  pub read : readings terms ≡ map Some facts
  pub few : length facts ≤ 16
  pub few_atoms : length (atoms_of terms) ≤ 4
  pub small : All IsSmall facts
  pub sum : Refutes (length (atoms_of terms)) facts multipliers

-- ---- easy by the shape of the goal
-- the parts of a conjunction: both sides, then their own parts
abbrev pub parts : Formula → List Formula
parts (binary And p q) = p ∷ q ∷ parts p ++ parts q
parts _ = []

-- the hypotheses, then p and its parts
abbrev pub supposed : List Formula → Formula → List Formula
supposed hyps p = hyps ++ p ∷ parts p

-- goals of two sides, where Easy says which sequents are easy already
abbrev pub EasyOf : (Table → List Formula → Formula → Type 0) → Table → BinOp → List Formula → Formula → Formula → Type 0
-- `P & Q`: P and Q are
EasyOf Easy table And hyps p q = Easy table hyps p × Easy table hyps q
-- `P => Q`: Q is, where P and its parts are hypotheses too
EasyOf Easy table Imp hyps p q = Easy table (supposed hyps p) q
-- `a : l .. h`: `l <= a` and `a <= h` are
EasyOf Easy table In hyps a (binary Range l h) = Easy table hyps (binary Le l a) × Easy table hyps (binary Le a h)
-- `a = b` on integers: `a <= b` and `b <= a` are
EasyOf Easy table Eq hyps a b = (role table [] a ≡ gives int_type) × Easy table hyps (binary Le a b) × Easy table hyps (binary Le b a)
-- `a <= b` and `a < b`: the facts contradict each other
EasyOf Easy table Le hyps a b = AreContradictory (terms_read hyps (binary Le a b))
EasyOf Easy table Lt hyps a b = AreContradictory (terms_read hyps (binary Lt a b))
EasyOf Easy table _ hyps a b = ⊥

-- any goal
abbrev pub EasyBy : (Table → List Formula → Formula → Type 0) → Table → List Formula → Formula → Type 0
EasyBy Easy table hyps (binary o p q) = EasyOf Easy table o hyps p q
-- `!`: its body is, for all new variables over a table that has them
EasyBy Easy table hyps (for_all ts body) = (wide : Table) → IsWider table wide → (ns : List ℕ) →
    are_fresh wide (hyps, for_all ts body) ts ns ≡ true → Easy wide hyps (opened (names_of ns) body)
EasyBy Easy table hyps bfalse = AreContradictory (terms_read hyps bfalse)
EasyBy Easy table hyps _ = ⊥

-- by so many steps at most: obvious, or easy by the shape of the goal
abbrev pub IsEasyIn : ℕ → Table → List Formula → Formula → Type 0
IsEasyIn zero table hyps goal = ⊥
IsEasyIn (suc n) table hyps goal = (is_obvious hyps goal ≡ true) ⊎ EasyBy (IsEasyIn n) table hyps goal

-- ---- sizes
-- how many nodes lie on a type's longest way down
abbrev pub type_height : ValueType → ℕ
type_height (pair_type s t) = max (type_height s) (type_height t) + 1
type_height (set_type t) = type_height t + 1
type_height _ = 1

-- the height of the highest type of a list; 0 where there is none
abbrev pub highest : List ValueType → ℕ
highest [] = 0
highest (t ∷ ts) = max (type_height t) (highest ts)

abbrev mutual
  -- the height of the highest type that a formula holds; 0 where it holds none
  pub height_of_types : Formula → ℕ
  height_of_types (empty_set t) = type_height t
  height_of_types (unary o a) = height_of_types a
  height_of_types (binary o a b) = max (height_of_types a) (height_of_types b)
  height_of_types (for_all ts p) = max (highest ts) (height_of_types p)
  height_of_types (for_some ts p) = max (highest ts) (height_of_types p)
  height_of_types (comprehension rs p) = max (heights_of_types rs) (height_of_types p)
  height_of_types (lambda rs p v) = max (heights_of_types rs) (max (height_of_types p) (height_of_types v))
  height_of_types _ = 0

  -- of several formulas
  pub heights_of_types : Formulas → ℕ
  heights_of_types no_formulas = 0
  heights_of_types (formula_and f fs) = max (height_of_types f) (heights_of_types fs)

-- at most 90,000 nodes, a height of at most 300, and no type of a height above 50
pub record IsModest (f : Formula) : Type 0 where
  pub nodes : formula_size f ≤ 90000
  pub height : formula_height f ≤ 300
  pub types : height_of_types f ≤ 50

-- ---- easy
-- easy by some number of steps, where no formula of the sequent is large
pub record IsEasy (table : Table) (s : Sequent) : Type 0 where
  pub steps : ℕ
  pub easy : IsEasyIn steps table s.0 s.1
  pub hyps : All IsModest s.0
  pub goal : IsModest s.1
