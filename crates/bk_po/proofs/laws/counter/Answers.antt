use Rattle.bk_po.proofs.Counters.{counter_has_these, counter_is_valid}
use Rattle.bk_po.proofs.laws.counter.Goals as goal

pub returns : goal.returns
returns c = record { names = counter_has_these; valid = counter_is_valid }
