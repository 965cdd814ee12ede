-- Chk(E) is true exactly where E fits the machine.
use Rattle.std.proofs.Common.{◌≡◌, ◌↔◌, List, refl, true}
use Rattle.std.specs.Prelude.{Option, Some, None}
use Rattle.bk_val.specs.Value.{MathValue}
use Rattle.bk_val.specs.ValueType.{ValueType, are_of_types}
use Rattle.bk_form.specs.Table.{set_size}
use Rattle.bk_form.specs.ArrayTable.{ArrayTable}
use Rattle.bk_form.specs.Formula.{Formula, unary, binary, for_all, for_some}
use Rattle.bk_form.specs.Search.{Finder, IsSearch}
use Rattle.bk_form.specs.Environment.{Environment, under}
use Rattle.bk_form.specs.Meaning.{truth, value}
use Rattle.bk_form.specs.Defined.{Fits, LeftToRight, array_of, is_index, is_in_indices, binary_fits}
use Rattle.bk_form.specs.declared.operator.BinOp.{BinOp}
use Rattle.bk_form.specs.declared.operator.BinOp.TheVariants.{And, Or, Imp, Add, Sub, Mul, Div, Mod, Apply}
use Rattle.bk_form.specs.declared.arrays.ArrayRow.{ArrayRow}
use Rattle.bk_form.specs.declared.arrays.ArrayDomain.{ArrayDomain}
use Rattle.bk_form.specs.declared.arrays.ArrayDomain.TheVariants.{Interval}
use Rattle.bk_wd.specs.Joining.{both, all_over}
use Rattle.bk_wd.specs.Operands.{right_met, sides_asked}
use Rattle.bk_wd.specs.Checked.{in_domain, index_check, checked_own, checked}
use Rattle.bk_wd.specs.Laws.{CheckedIsExact}
use Rattle.bk_wd.proofs.Conditions.{all_over-so, three-so, true-so, false-so}

module _ (find : Finder) (arrays : ArrayTable) where
  domain-so : (e : Environment) (d : ArrayDomain) (i : Formula) → truth find e (in_domain d i) ≡ is_in_indices d (value find e i)
  domain-so e (Interval low high) i = refl
  domain-so e _ i = refl

  pub index-so : (e : Environment) (o : Option ArrayRow) (i : Formula) → truth find e (index_check o i) ≡ is_index o (value find e i)
  index-so e (Some row) i = domain-so e row.domain i
  index-so e None i = refl

  own-so : (e : Environment) (o : BinOp) (a b : Formula) → truth find e (checked_own arrays o a b) ≡ binary_fits arrays o a (value find e a) (value find e b) (value find e (binary o a b))
  own-so e Add a b = refl
  own-so e Sub a b = refl
  own-so e Mul a b = refl
  own-so e Div a b = refl
  own-so e Mod a b = refl
  own-so e Apply a b = index-so e (array_of arrays a) b
  own-so e _ a b = refl

  binary-so : (e : Environment) (o : BinOp) (a b p q : Formula) (A B : Type 0) → (truth find e p ≡ true) ↔ A → (truth find e q ≡ true) ↔ B →
      (truth find e (both (sides_asked (right_met o) a p q) (checked_own arrays o a b)) ≡ true) ↔ LeftToRight o (truth find e a) A B (binary_fits arrays o a (value find e a) (value find e b) (value find e (binary o a b)))
  binary-so e And a b p q A B f g = true-so find e a p q A B f g
  binary-so e Imp a b p q A B f g = true-so find e a p q A B f g
  binary-so e Or a b p q A B f g = false-so find e a p q A B f g
  binary-so e o a b p q A B f g = three-so find e (binary_fits arrays o a (value find e a) (value find e b) (value find e (binary o a b))) p q (checked_own arrays o a b) A B f g (own-so e o a b)

  over-so : IsSearch find → (e : Environment) (ts : List ValueType) (p : Formula) (X : List MathValue → Type 0) → ((vs : List MathValue) → (truth find (under e ts vs) p ≡ true) ↔ X vs) → (truth find e (all_over ts p) ≡ true) ↔ ((vs : List MathValue) → are_of_types (set_size e.table) ts vs ≡ true → X vs)
  over-so law e ts p X q = let a = all_over-so find e law ts p in ((λ h vs o. (q vs).0 (a.0 h vs o)), (λ h. a.1 (λ vs o. (q vs).1 (h vs o))))

  pub fits-so : IsSearch find → (e : Environment) (f : Formula) → (truth find e (checked arrays f) ≡ true) ↔ Fits find e arrays f
  fits-so law e (unary o a) = fits-so law e a
  fits-so law e (binary o a b) = binary-so e o a b (checked arrays a) (checked arrays b) (Fits find e arrays a) (Fits find e arrays b) (fits-so law e a) (fits-so law e b)
  fits-so law e (for_all ts p) = over-so law e ts (checked arrays p) (λ vs. Fits find (under e ts vs) arrays p) (λ vs. fits-so law (under e ts vs) p)
  fits-so law e (for_some ts p) = over-so law e ts (checked arrays p) (λ vs. Fits find (under e ts vs) arrays p) (λ vs. fits-so law (under e ts vs) p)
  fits-so law e _ = ((λ h. tt), (λ h. refl))

pub checked_is_exact : CheckedIsExact
checked_is_exact find law arrays e f = fits-so find arrays law e f
