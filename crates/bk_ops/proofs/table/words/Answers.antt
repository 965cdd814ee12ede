use Rattle.std.proofs.Common.{refl}
use Rattle.bk_ops.proofs.Rows.{texts_differ}
use Rattle.bk_ops.proofs.table.words.Goals as goal

pub returns-clause-texts : goal.returns-clause-texts
returns-clause-texts c = texts_differ _ refl
