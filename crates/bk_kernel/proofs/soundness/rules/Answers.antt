use Rattle.bk_kernel.proofs.SoundRules.{rules-are-functions, rules-are-sound}
use Rattle.bk_kernel.proofs.soundness.rules.Goals as goal

pub returns-clause-functions : goal.returns-clause-functions
returns-clause-functions c = rules-are-functions

pub returns-clause-sound : goal.returns-clause-sound
returns-clause-sound c = rules-are-sound
