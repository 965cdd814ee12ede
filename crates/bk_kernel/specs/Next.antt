-- Bodies of binders at one more than their innermost variable.
use Rattle.std.specs.Prelude.{◌≡◌, ℕ, nat_eq, ℤ, pos, ◌+ℤ◌, cond, [], ◌∷◌}
use Rattle.bk_val.specs.Value.{int}
use Rattle.bk_val.specs.ValueType.{int_type}
use Rattle.bk_form.specs.Table.{Table}
use Rattle.bk_form.specs.Formula.{Formula, bound, literal, binary}
use Rattle.bk_form.specs.declared.operator.BinOp.TheVariants.{Add}
use Rattle.bk_form.specs.Search.{Finder}
use Rattle.bk_form.specs.Environment.{State, under, at_state}
use Rattle.bk_form.specs.Meaning.{meaning}
use Rattle.bk_form.specs.Rebound.{rebound}

-- one more than the variable, in place of the bound number m that stands under k binders
abbrev pub raised : ℕ → ℕ → Formula
raised k m = cond (nat_eq m k) (binary Add (bound m) (literal (pos 1))) (bound m)

-- the body with one more than its innermost variable in the place of the variable
abbrev pub at_next : Formula → Formula
at_next p = rebound raised 0 p

-- such a body means at a number what the body means at the next number
abbrev pub NextMeans : Type 0
NextMeans = (find : Finder) (table : Table) (st : State) (z : ℤ) (p : Formula) →
    meaning find (under (at_state table st) (int_type ∷ []) (int z ∷ [])) (at_next p) ≡
    meaning find (under (at_state table st) (int_type ∷ []) (int (z +ℤ pos 1) ∷ [])) p
