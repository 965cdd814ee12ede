use Rattle.bk_raw.specs.Meaning.Built.{IsVisible}
use Rattle.bk_raw.proofs.ReadingBuilt.{reading-has, visible-built}
use Rattle.bk_raw.proofs.readings.readings_name_visible.Goals as goal

pub returns : goal.returns
returns c = λ int_max visible names h t. reading-has int_max (IsVisible visible) (visible-built visible) t names h
