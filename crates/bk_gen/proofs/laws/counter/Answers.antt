use Rattle.std.specs.Prelude.{refl}
use Rattle.bk_gen.proofs.Counters.{counter_in_b0}
use Rattle.bk_gen.proofs.laws.counter.Goals as goal

pub returns : goal.returns
returns c = record { code = refl; in_b0 = counter_in_b0 }
