use Rattle.std.proofs.Common.{◌≡◌, take}
use Rattle.bk_form.specs.Formula.{formulas_size, formulas_of}
use Rattle.bk_form.proofs.form.sum_of_nodes.Given as goal

abbrev pub invariant-loop-form : goal.invariant-loop-form
invariant-loop-form l = l.total ≡ formulas_size (formulas_of (take l.form-index l.forms))
