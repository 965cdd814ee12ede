use Rattle.std.proofs.Common.{◌∙◌}
use Rattle.bk_kernel.proofs.Denials.{no-denial, denial}
use Rattle.bk_kernel.proofs.closing.is_denial.Goals as goal

pub returns-in_default : goal.returns-in_default
returns-in_default c = no-denial c.args.form.now c.args.other.now c.in_default.ensures

pub returns : goal.returns
returns c = c.same.ensures ∙ denial c.args.form.now c.args.other.now c.in-Some.inner.now c.in-Some.ensures
