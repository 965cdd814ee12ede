use Rattle.bk_form.proofs.Replaced.{meaning-replaced}
use Rattle.bk_form.proofs.laws.replacement_means.Goals as goal

pub returns : goal.returns
returns c = meaning-replaced
