use Rattle.bk_kernel.proofs.DerivedValid.{derived-is-valid, derived-wider-is-valid}
use Rattle.bk_kernel.proofs.soundness.derived_is_valid.Goals as goal

pub returns-clause-alone : goal.returns-clause-alone
returns-clause-alone c = derived-is-valid

pub returns-clause-wider : goal.returns-clause-wider
returns-clause-wider c = derived-wider-is-valid
