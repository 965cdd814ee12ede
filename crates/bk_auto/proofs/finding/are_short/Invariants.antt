use Rattle.std.proofs.Common.{ℕ, ◌<◌, get_or}
use Rattle.bk_form.specs.Formula.{Formula}
use Rattle.bk_auto.specs.Found.{IsShort}
use Rattle.bk_auto.proofs.finding.are_short.Given as goal

abbrev pub invariant-loop-form : goal.invariant-loop-form
invariant-loop-form l = (k : ℕ) (d : Formula) → k < l.form-index → IsShort (get_or l.forms k d)
