use Rattle.std.proofs.Common.{IsTrue, take}
use Rattle.bk_form.specs.Formula.{formulas_of}
use Rattle.bk_form.specs.Storable.{are_storable}
use Rattle.bk_form.proofs.form.Form.all_numbers_fit.Given as goal

abbrev pub invariant-loop-form : goal.invariant-loop-form
invariant-loop-form l = IsTrue (are_storable (formulas_of (take l.form-index l.forms)))
