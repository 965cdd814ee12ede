use Rattle.bk_kernel.proofs.NextMeaning.{next_means}
use Rattle.bk_kernel.proofs.soundness.next_means.Goals as goal

pub returns : goal.returns
returns c = next_means
