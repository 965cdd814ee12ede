use Rattle.bk_form.proofs.Valued.{sound_typing}
use Rattle.bk_form.proofs.laws.typing_is_sound.Goals as goal

pub returns : goal.returns
returns c = sound_typing
