use Rattle.bk_kernel.proofs.Validity.{obvious_is_valid}
use Rattle.bk_kernel.proofs.laws.obvious_is_valid.Goals as goal

pub returns : goal.returns
returns c = obvious_is_valid
