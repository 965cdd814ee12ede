use Rattle.std.proofs.Common.{ℕ, ◌<◌, get_or}
use Rattle.bk_form.specs.Formula.{Formula}
use Rattle.bk_bind.specs.Limits.{IsWithinLimits}
use Rattle.bk_reasons.proofs.within.are_within.Given as goal

abbrev pub invariant-loop-form : goal.invariant-loop-form
invariant-loop-form l = (k : ℕ) (d : Formula) → k < l.form-index → IsWithinLimits (get_or l.forms k d)
