use Rattle.bk_form.proofs.Valued.{sound_typing}
use Rattle.bk_types.proofs.typing.typed_have_values.Goals as goal

pub returns : goal.returns
returns c = sound_typing.typed
