use Rattle.bk_kernel.proofs.SizedRules.{obvious_for_all_sizes}
use Rattle.bk_kernel.proofs.laws.obvious_for_all_sizes.Goals as goal

pub returns : goal.returns
returns c = obvious_for_all_sizes
