use Rattle.bk_form.proofs.Forms.{meaning_is_known}
use Rattle.bk_form.proofs.laws.known_meanings.Goals as goal

pub returns : goal.returns
returns c = meaning_is_known
