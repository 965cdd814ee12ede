use Rattle.bk_scope.proofs.TermsSeen.{same-by}
use Rattle.bk_elab_level.proofs.elaborated.is_same.Goals as goal

pub returns : goal.returns
returns c = same-by c.equal.result c.args.one.now c.args.other.now c.equal.ensures
