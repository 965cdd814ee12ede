use Rattle.std.specs.Prelude.{refl}
use Rattle.bk_gen.proofs.laws.small_cases.Goals as goal

pub returns : goal.returns
returns c = record { tests = record { both = refl; either = refl; branches = refl }; repeats = refl }
