use Rattle.std.specs.Prelude.{refl}
use Rattle.bk_gen.proofs.Counters.{adder_in_b0}
use Rattle.bk_gen.proofs.laws.adder.Goals as goal

pub returns : goal.returns
returns c = record { code = refl; in_b0 = adder_in_b0 }
