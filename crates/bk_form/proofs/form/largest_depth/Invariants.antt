use Rattle.std.proofs.Common.{◌≡◌, take}
use Rattle.bk_form.specs.Formula.{formulas_height, formulas_of}
use Rattle.bk_form.proofs.form.largest_depth.Given as goal

abbrev pub invariant-loop-form : goal.invariant-loop-form
invariant-loop-form l = l.largest ≡ formulas_height (formulas_of (take l.form-index l.forms))
