use Rattle.bk_program.proofs.Built.{built_images_run}
use Rattle.bk_program.proofs.laws.built_images_run.Goals as goal

pub returns : goal.returns
returns c = built_images_run
