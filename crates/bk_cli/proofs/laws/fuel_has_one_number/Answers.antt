use Rattle.std.proofs.Common.{refl}
use Rattle.std.specs.Fmt.{digits}
use Rattle.bk_cli.proofs.laws.fuel_has_one_number.Goals as goal

pub returns : goal.returns
unfolding digits
returns c = refl
