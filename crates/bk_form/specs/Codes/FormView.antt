-- The formula that parts make, and what holds of a formula's fields.
use Rattle.std.specs.Prelude.{◌≡◌, IsTrue}
use Rattle.bk_form.specs.Formula.{Formula, variable, bound, literal, truth_value, element, empty_set, named, btrue, bfalse, unary}
use Rattle.bk_form.specs.Formula.{binary, for_all, for_some, comprehension, lambda, formulas_of, formula_size, formula_height}
use Rattle.bk_form.specs.Storable.{is_storable}
use Rattle.bk_form.specs.declared.form.Part.{Part}
use Rattle.bk_form.specs.declared.form.Part.TheVariants.{Var, Bound, Int, Bool, Elem, Empty, Name, True}
use Rattle.bk_form.specs.declared.form.Part.TheVariants.{False, Un, Bin, All, Some, Compr, Lam}
use Rattle.bk_form.specs.declared.form.Form.TheInside.{Inside}

-- the formula of these parts
abbrev pub made : Part → Formula
made (Var n) = variable n
made (Bound n) = bound n
made (Int z) = literal z
made (Bool b) = truth_value b
made (Elem s n) = element s n
made (Empty t) = empty_set t
made (Name d) = named d
made True = btrue
made False = bfalse
made (Un o a) = unary o a
made (Bin o a b) = binary o a b
made (All ts p) = for_all ts.items p
made (Some ts p) = for_some ts.items p
made (Compr rs p) = comprehension (formulas_of rs.items) p
made (Lam rs p v) = lambda (formulas_of rs.items) p v

-- the stored numbers are those of the formula, and its own numbers fit the program's
pub record IsStored (f : Inside) : Type 0 where
  pub nodes : f.shared.value.nodes ≡ formula_size (made f.shared.value.part)
  pub height : f.shared.value.height ≡ formula_height (made f.shared.value.part)
  pub storable : IsTrue (is_storable (made f.shared.value.part))
