use Rattle.std.proofs.Common.{◌≡◌, ◌+◌, ◌*◌, drop}
use Rattle.bk_form.specs.Formula.{formula_size, formulas_size, formulas_of}
use Rattle.bk_form.specs.Replacement.{any_occurs}
use Rattle.bk_bind.proofs.occurrence.+occurs.Given as goal

abbrev pub decreases-free_in : goal.decreases-free_in
decreases-free_in l = 2 * formula_size l.form.now

abbrev pub decreases-free_in_any : goal.decreases-free_in_any
decreases-free_in_any l = 2 * formulas_size (formulas_of l.forms.now) + 1

abbrev pub invariant-free_in_any-loop-form : goal.invariant-free_in_any-loop-form
invariant-free_in_any-loop-form l = any_occurs l.variable (formulas_of (drop l.form-index l.forms)) ≡ any_occurs l.variable (formulas_of l.forms)
