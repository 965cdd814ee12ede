use Rattle.bk_form.specs.Formula.{formula_size}
use Rattle.bk_tests_sessions.proofs.runs.+value.Given as goal

abbrev pub decreases-value : goal.decreases-value
decreases-value l = formula_size l.form.now
