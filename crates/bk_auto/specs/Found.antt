-- What the functions of the search say of the rules that they add.
use Rattle.std.specs.Prelude.{◌≡◌, ℕ, zero, suc, ◌+◌, ◌≤◌, Bool, true, false, List, [], ◌∷◌, ◌++◌, map, length, All}
use Rattle.std.specs.Prelude.{Option, Some, None, is_none, cond}
use Rattle.std.specs.Global.{Vec}
use Rattle.std.specs.Option.{some_prefix}
use Rattle.std.specs.List.{Contains}
use Rattle.bk_val.specs.ValueType.{ValueType}
use Rattle.bk_form.specs.Table.{Table, SetEntry, VariableEntry, IsWellFormed}
use Rattle.bk_form.specs.Wider.{IsWider}
use Rattle.bk_form.specs.Each.{Each}
use Rattle.bk_form.specs.Formula.{Formula, binary, formula_size, formula_height}
use Rattle.bk_form.specs.declared.operator.BinOp.TheVariants.{And, Le}
use Rattle.bk_lin.specs.declared.fact.Fact.{Fact}
use Rattle.bk_lin.specs.Certificate.{inequality_of, inequalities}
use Rattle.bk_elim.specs.Refutation.{IsSmall}
use Rattle.bk_arith.specs.Comparison.{terms_of_hypothesis}
use Rattle.bk_arith.specs.Reading.{atoms_of}
use Rattle.bk_arith.specs.Decision.{terms_of, readings, facts_fault}
use Rattle.bk_seq.specs.Sequents.{Sequent, Types, IsWithin}
use Rattle.bk_kernel.specs.declared.rule.Rule.{Rule}
use Rattle.bk_kernel.specs.declared.rule.Rule.TheVariants.{Split, Law}
use Rattle.bk_kernel.specs.declared.rule.Place.TheVariants.{Goal}
use Rattle.bk_kernel.specs.Derivations.{Derives}
use Rattle.bk_auto.specs.Easy.{IsEasyIn, AreContradictory, terms_read, parts}
use Rattle.bk_auto.specs.NewVariables.{AreNew}
use Rattle.bk_auto.specs.Named.{IsBare, Brings}
pub use Rattle.bk_auto.specs.Named.{numbers_from}

-- ---- sequents
-- no formula is so large that a step could pass a limit
pub record IsShort (f : Formula) : Type 0 where
  pub nodes : formula_size f ≤ 90000
  pub height : formula_height f ≤ 300

-- the sequent is typed, and none of its formulas is large
pub record IsReady (table : Table) (s : Sequent) : Type 0 where
  pub well : IsWellFormed table
  pub types : Types table s
  pub hyps : Each IsShort s.0
  pub goal : IsShort s.1

-- the sequent is not easy
abbrev pub IsHard : Table → Sequent → Type 0
IsHard table s = (n : ℕ) → IsEasyIn n table s.0 s.1 → ⊥

-- ---- rules that were added
-- they derive the sequent, over the large table and over each wider one; and they bring its new variables
pub record Adds (small large : Table) (before after : List Rule) (s : Sequent) : Type 0 where
  pub more : List Rule
  pub same : after ≡ before ++ more
  pub derives : (wide : Table) → IsWellFormed wide → IsWider large wide → Derives wide more s
  pub brings : Brings small large s.1 more

-- they derive the sequent over each table over which it types, where it is within the limits
pub record Closes (before after : List Rule) (s : Sequent) : Type 0 where
  pub more : List Rule
  pub same : after ≡ before ++ more
  pub derives : (table : Table) → Types table s → IsWithin s → Derives table more s
  pub bare : Each IsBare more

-- they derive the goal so under any hypotheses
pub record ClosesAnywhere (before after : List Rule) (goal : Formula) : Type 0 where
  pub more : List Rule
  pub same : after ≡ before ++ more
  pub derives : (table : Table) (hyps : List Formula) → Types table (hyps, goal) → IsWithin (hyps, goal) → Derives table more (hyps, goal)
  pub bare : Each IsBare more

-- ---- answers
-- rules that derive the sequent over the large table were added, or the sequent is not easy over the small one
abbrev pub Told : Bool → Table → Table → List Rule → List Rule → Sequent → Type 0
Told true small large before after s = Adds small large before after s
Told false small large before after s = IsHard small s

-- the same of one goal, by arithmetic: the answer is the same over all tables
abbrev pub Settles : Bool → List Rule → List Rule → Sequent → Type 0
Settles true before after s = Closes before after s
Settles false before after s = AreContradictory (terms_read s.0 s.1) → ⊥

-- the same of an order: no number of steps makes it easy over any table
abbrev pub Orders : Bool → List Rule → List Rule → Sequent → Type 0
Orders true before after s = Closes before after s
Orders false before after s = (table : Table) → IsHard table s

-- rules that derive the first goal, and then rules that derive the second
pub record ClosesBoth (before after : List Rule) (hyps : List Formula) (p q : Formula) : Type 0 where
  pub first : List Rule
  pub second : List Rule
  pub same : after ≡ before ++ (first ++ second)
  pub derives_first : (table : Table) → Types table (hyps, p) → IsWithin (hyps, p) → Derives table first (hyps, p)
  pub derives_second : (table : Table) → Types table (hyps, q) → IsWithin (hyps, q) → Derives table second (hyps, q)
  pub bare : Each IsBare (first ++ second)

-- what an answer says of both
abbrev pub TellsBoth : Bool → List Rule → List Rule → List Formula → Formula → Formula → Type 0
TellsBoth true before after hyps p q = ClosesBoth before after hyps p q
TellsBoth false before after hyps p q = (n : ℕ) (table : Table) → IsEasyIn n table hyps p → IsEasyIn n table hyps q → ⊥

-- ---- arithmetic
-- the numbers of the hypotheses that linear arithmetic reads, where the first has this number
abbrev pub comparison_numbers : ℕ → List Formula → List ℕ
comparison_numbers n [] = []
comparison_numbers n (h ∷ hs) = cond (is_none (terms_of_hypothesis h)) (comparison_numbers (suc n) hs) (n ∷ comparison_numbers (suc n) hs)

-- the facts are those of the hypotheses and of the denied goal, all of which are read
pub record AreReadFrom (hyps : List Formula) (goal : Formula) (facts : List Fact) : Type 0 where
  pub read : inequalities facts ≡ some_prefix (readings (terms_of hyps goal))
  pub width : All (λ f. length f.coefs.items ≡ length (atoms_of (terms_of hyps goal))) facts
  pub right : facts_fault hyps goal ≡ None

-- a fact with at most 4 coefficients, and small
pub record IsSmallFact (f : Fact) : Type 0 where
  pub narrow : length f.coefs.items ≤ 4
  pub small : IsSmall (inequality_of f)

-- at most 16 of them
pub record AreWithinBounds (facts : List Fact) : Type 0 where
  pub few : length facts ≤ 16
  pub all : All IsSmallFact facts

-- the goal is `a <= b`
pub record IsOrder (goal : Formula) : Type 0 where
  pub left : Formula
  pub right : Formula
  pub is : binary Le left right ≡ goal

-- ---- implications
-- the rules that take the formula apart, which is the hypothesis at this index, where there are so many hypotheses
abbrev pub splits : ℕ → ℕ → Formula → List Rule
splits index count (binary And p q) =
    Split (suc index) ∷ splits count (suc (suc count)) p ++ splits (suc count) (suc (suc count) + length (parts p)) q
splits index count _ = []

-- the last rule is this law for these terms, at the whole goal
pub record IsLawOfGoal (before after : List Rule) (law : ℕ) (picks : List Formula) : Type 0 where
  pub terms : Vec Formula
  pub path : Vec ℕ
  pub same : after ≡ before ++ Law law terms (Goal path) ∷ []
  pub are_picks : terms.items ≡ picks
  pub whole : path.items ≡ []

-- ---- new variables
-- the table grew by new variables of these types
pub record GrewBy (small large : Table) (ts : List ValueType) : Type 0 where
  pub more : List VariableEntry
  pub made : large ≡ record small { variables = small.variables ++ more }
  pub new : AreNew small more
  pub types : map (λ v. v.of_type) more ≡ ts

-- the text is none of the set's
abbrev pub IsOutside : Option SetEntry → List ℕ → Type 0
IsOutside None text = Unit {0}
IsOutside (Some s) text = Contains (s.name ∷ s.elements) text → ⊥
