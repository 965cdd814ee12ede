use Rattle.std.proofs.Common.{refl}
use Rattle.bk_laws_fun.specs.Rows.{rows}
use Rattle.bk_laws_fun.proofs.table.all_laws.Goals as goal

pub returns : goal.returns
unfolding rows
returns c = refl
