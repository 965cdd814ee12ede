use Rattle.bk_raw.proofs.ScriptOne.{one-file-of}
use Rattle.bk_raw.proofs.laws.scripts_are_one.Goals as goal

pub returns : goal.returns
returns c = one-file-of
