-- What the program's steps on operators are told by.
use Rattle.std.specs.Prelude.{◌≡◌, ℕ, Bool, true, false, List, [], ◌∷◌, ◌++◌, Option, None, Some}
use Rattle.bk_val.specs.ValueType.{ValueType, int_type}
use Rattle.bk_form.specs.Formula.{Formula, unary, binary}
use Rattle.bk_form.specs.declared.operator.UnOp.TheVariants.{Not}
use Rattle.bk_form.specs.declared.operator.BinOp.{BinOp}
use Rattle.bk_raw.specs.declared.operator.InfixOp.{InfixOp}
use Rattle.bk_raw.specs.declared.operator.InfixOp.TheVariants.{Relations, PartialFunctions, TotalFunctions, PartialInjections}
use Rattle.bk_raw.specs.declared.operator.InfixOp.TheVariants.{TotalInjections, PartialSurjections, TotalSurjections, Bijections}
use Rattle.bk_raw.specs.declared.operator.InfixOp.TheVariants.{Interval, Plus, Divide, Mod, Power, StrictSubset}
use Rattle.bk_raw.specs.Meaning.Outcome.{Partial, whole, Outcome, Asked, ask, whole_of, filled}
use Rattle.bk_raw.specs.Errors.Faults.{Fault, not_predicate}
use Rattle.bk_elab_terms.specs.declared.operator.Places.{Places}
use Rattle.bk_elab_terms.specs.declared.operator.Alike.{Alike}
use Rattle.bk_elab_terms.specs.declared.operator.Alike.TheVariants.{Both, Neither, Different}

-- not(P) where it is asked, else P
abbrev pub negated_by : Bool → Formula → Formula
negated_by true p = unary Not p
negated_by false p = p

-- an operator on two sides, the right one first where it is turned
abbrev pub compared_by : BinOp → Bool → Formula → Formula → Formula
compared_by o true f g = binary o g f
compared_by o false f g = binary o f g

-- the operators on domains and numbers that are taken together
abbrev pub is_arrow_or_number : InfixOp → Bool
is_arrow_or_number Relations = true
is_arrow_or_number PartialFunctions = true
is_arrow_or_number TotalFunctions = true
is_arrow_or_number PartialInjections = true
is_arrow_or_number TotalInjections = true
is_arrow_or_number PartialSurjections = true
is_arrow_or_number TotalSurjections = true
is_arrow_or_number Bijections = true
is_arrow_or_number Interval = true
is_arrow_or_number Plus = true
is_arrow_or_number Divide = true
is_arrow_or_number Mod = true
is_arrow_or_number Power = true
is_arrow_or_number _ = false

-- two answers, where both are there
abbrev pub both_answers : {A B : Type 0} → Option A → Option B → Option (A × B)
both_answers (Some x) (Some y) = Some (x, y)
both_answers _ _ = None

-- both sides as numbers, where they are
abbrev pub both_numbers : Places → Outcome → Outcome → Asked (Formula × Formula)
both_numbers at a b = record {
  answer = both_answers (ask at.left a int_type).answer (ask at.right b int_type).answer;
  faults = (ask at.left a int_type).faults ++ (ask at.right b int_type).faults;
}

-- whether an expression gives a number
abbrev pub gives_int : Partial → Bool
gives_int (whole f int_type) = true
gives_int _ = false

-- the right side taken with the left one's type, where the left gives; else the left with the right one's
abbrev pub IsAlikeBy : Alike → Option (Formula × ValueType) → Option (Formula × ValueType) → Partial → Partial → Type 0
IsAlikeBy (Both f g t) (Some v) w p q = (v ≡ (f, t)) × (filled q t ≡ Some g)
IsAlikeBy (Both f g t) None (Some w) p q = (w ≡ (g, t)) × (filled p t ≡ Some f)
IsAlikeBy (Both f g t) None None p q = ⊥
IsAlikeBy (Neither a b) None None p q = (a ≡ p) × (b ≡ q)
IsAlikeBy (Neither a b) _ _ p q = ⊥
IsAlikeBy Different (Some v) w p q = filled q v.1 ≡ None
IsAlikeBy Different None (Some w) p q = filled p w.1 ≡ None
IsAlikeBy Different None None p q = ⊥

-- what two sides of one type come to
abbrev pub IsAlike : Alike → Partial → Partial → Type 0
IsAlike a p q = IsAlikeBy a (whole_of p) (whole_of q) p q

-- the fault of an operator at a byte within a side of `<<:`, if it is one itself
abbrev pub strict_here : ℕ → InfixOp → List Fault
strict_here at StrictSubset = not_predicate at ∷ []
strict_here at _ = []
