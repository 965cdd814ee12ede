use Rattle.bk_raw.proofs.ReadingRight.{reading-right}
use Rattle.bk_raw.proofs.readings.readings_are_right.Goals as goal

pub returns : goal.returns
returns c = λ int_max table around names h t. reading-right int_max table t names around h
