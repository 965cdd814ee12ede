use Rattle.std.proofs.Common.{◌≡◌, ◌+◌, ◌*◌, ◌++◌, drop}
use Rattle.bk_form.specs.Formula.{formula_size, formulas_size, formulas_of}
use Rattle.bk_gsl.specs.Reads.{all_variables_of}
use Rattle.bk_gsl.proofs.variables.+variables.Given as goal

abbrev pub decreases-add_variables : goal.decreases-add_variables
decreases-add_variables l = 2 * formula_size l.form.now

abbrev pub decreases-add_all_variables : goal.decreases-add_all_variables
decreases-add_all_variables l = 2 * formulas_size (formulas_of l.forms.now) + 1

abbrev pub invariant-add_all_variables-loop-form : goal.invariant-add_all_variables-loop-form
invariant-add_all_variables-loop-form l = l.found.items ++ all_variables_of (formulas_of (drop l.form-index l.forms)) ≡ l.initial.found.items ++ all_variables_of (formulas_of l.forms)
