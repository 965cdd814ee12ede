use Rattle.bk_kernel.proofs.Verdicts.{one-verdict}
use Rattle.bk_kernel.proofs.soundness.one_verdict.Goals as goal

pub returns : goal.returns
returns c = one-verdict
