use Rattle.bk_raw.proofs.ReadingClean.{reading-clean}
use Rattle.bk_raw.proofs.ReadingFits.{reading-speaks}
use Rattle.bk_raw.proofs.readings.readings_speak.Goals as goal

pub returns-clause-speak : goal.returns-clause-speak
returns-clause-speak c = λ int_max names h t. reading-speaks int_max t names h

pub returns-clause-silent : goal.returns-clause-silent
returns-clause-silent c = λ int_max names t. reading-clean int_max t names
