use Rattle.bk_form.specs.Formula.{formula_size}
use Rattle.bk_arith.proofs.multiplying.+read.Given as goal

abbrev pub decreases-read : goal.decreases-read
decreases-read l = formula_size l.form.now
