-- What holds of every formula that is built from some variables.
use Rattle.std.specs.Prelude.{◌≡◌, ℕ, ℤ, Bool, true, List, [], ◌∷◌}
use Rattle.bk_val.specs.ValueType.{ValueType}
use Rattle.bk_form.specs.Formula.{Formula, variable, bound, literal, truth_value, element, empty_set, named, btrue, bfalse}
use Rattle.bk_form.specs.Formula.{unary, binary, for_all, for_some, comprehension, lambda, Formulas, no_formulas, formula_and}
use Rattle.bk_form.specs.Replacement.{occurs}
use Rattle.bk_form.specs.declared.operator.UnOp.{UnOp}
use Rattle.bk_form.specs.declared.operator.BinOp.{BinOp}
use Rattle.bk_form.specs.declared.operator.Domain.{Domain}
use Rattle.bk_raw.specs.Meaning.Names.{Names, Meaning, global}
use Rattle.bk_raw.specs.Meaning.Outcome.{Partial, whole, hollow, single_of, pair_of, joint_of, Outcome, partial, ranging, holding, silent}

-- it holds of each of the formulas
abbrev pub EachHas : (Formula → Type 0) → Formulas → Type 0
EachHas P no_formulas = Unit {0}
EachHas P (formula_and f fs) = P f × EachHas P fs

-- it holds of all that has no parts, variables aside, and of what is made of parts of which it holds
pub record Builds (P : Formula → Type 0) : Type 0 where
  pub bounds : (i : ℕ) → P (bound i)
  pub literals : (z : ℤ) → P (literal z)
  pub truths : (b : Bool) → P (truth_value b)
  pub elements : (s i : ℕ) → P (element s i)
  pub empties : (t : ValueType) → P (empty_set t)
  pub names : (d : Domain) → P (named d)
  pub yes : P btrue
  pub no : P bfalse
  pub unaries : (o : UnOp) (f : Formula) → P f → P (unary o f)
  pub binaries : (o : BinOp) (f g : Formula) → P f → P g → P (binary o f g)
  pub alls : (ts : List ValueType) (f : Formula) → P f → P (for_all ts f)
  pub somes : (ts : List ValueType) (f : Formula) → P f → P (for_some ts f)
  pub comprehensions : (rs : Formulas) (f : Formula) → EachHas P rs → P f → P (comprehension rs f)
  pub lambdas : (rs : Formulas) (f g : Formula) → EachHas P rs → P f → P g → P (lambda rs f g)

-- it holds of the variable that a name stands for
abbrev pub MeaningHas : (Formula → Type 0) → Meaning → Type 0
MeaningHas P (global n t) = P (variable n)
MeaningHas P _ = Unit {0}

-- it holds of the names' variables
abbrev pub NamesHave : (Formula → Type 0) → Names → Type 0
NamesHave P [] = Unit {0}
NamesHave P (n ∷ ns) = MeaningHas P n.meaning × NamesHave P ns

-- it holds of the formulas that an expression is made of
abbrev pub PartialHas : (Formula → Type 0) → Partial → Type 0
PartialHas P (whole f t) = P f
PartialHas P hollow = Unit {0}
PartialHas P (single_of p) = PartialHas P p
PartialHas P (pair_of p q) = PartialHas P p × PartialHas P q
PartialHas P (joint_of j p q) = PartialHas P p × PartialHas P q

-- it holds of the formula that is told, or of those that it is made of
abbrev pub OutcomeHas : (Formula → Type 0) → Outcome → Type 0
OutcomeHas P (partial p) = PartialHas P p
OutcomeHas P (ranging f t there) = P f
OutcomeHas P (holding p) = P p
OutcomeHas P silent = Unit {0}

-- it names only variables that the test admits
abbrev pub IsVisible : (ℕ → Bool) → Formula → Type 0
IsVisible visible f = (n : ℕ) → occurs n f ≡ true → visible n ≡ true
