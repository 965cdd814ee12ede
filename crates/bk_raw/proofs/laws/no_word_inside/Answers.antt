use Rattle.bk_raw.proofs.Insides.{no-word-inside}
use Rattle.bk_raw.proofs.laws.no_word_inside.Goals as goal

pub returns : goal.returns
returns c = no-word-inside
