use Rattle.bk_sim.proofs.Carried.{counter_is_carried, counter_ends}
use Rattle.bk_sim.proofs.Ten.{translation_follows}
use Rattle.bk_sim.proofs.Nine.{nine_does_not_follow}
use Rattle.bk_sim.proofs.laws.counter.Goals as goal

pub returns : goal.returns
returns c = record { carried = counter_is_carried; translation = translation_follows; ends = counter_ends; nine = nine_does_not_follow }
