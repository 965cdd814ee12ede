use Rattle.std.proofs.Common.{◌+◌, ◌*◌}
use Rattle.bk_form.specs.Formula.{formula_size, formulas_size, formulas_of}
use Rattle.bk_wd.proofs.definedness.+defining.Given as goal

abbrev pub decreases-defined_under : goal.decreases-defined_under
decreases-defined_under l = 2 * formula_size l.form.now

abbrev pub decreases-all_defined : goal.decreases-all_defined
decreases-all_defined l = 2 * formulas_size (formulas_of l.forms.now) + 1
