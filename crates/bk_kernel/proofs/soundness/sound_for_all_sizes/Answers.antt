use Rattle.bk_kernel.proofs.SizedRules.{sound_for_all_sizes}
use Rattle.bk_kernel.proofs.soundness.sound_for_all_sizes.Goals as goal

pub returns : goal.returns
returns c = sound_for_all_sizes
