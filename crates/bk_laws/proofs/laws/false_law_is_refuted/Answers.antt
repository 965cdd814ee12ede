use Rattle.bk_laws.proofs.Refuted.{not-left-alone}
use Rattle.bk_laws.proofs.laws.false_law_is_refuted.Goals as goal

pub returns : goal.returns
returns c = not-left-alone
