use Rattle.bk_elab_terms.proofs.Same.{same-by}
use Rattle.bk_elab_terms.proofs.partial.is_same.Goals as goal

pub returns : goal.returns
returns c = same-by c.equal.result c.args.given.now c.args.asked.now c.equal.ensures
