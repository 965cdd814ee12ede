use Rattle.bk_p_expr.proofs.Choices.{if_some}
use Rattle.bk_p_proof.proofs.Names.{part_longest}
use Rattle.bk_p_proof.proofs.name.part.Goals as goal

pub returns-clause-found : goal.returns-clause-found
returns-clause-found c = part_longest c.args.tokens.now c.in-Some.rest.now c.in-Some.first.now c.in-Some-2.part c.in-Some.ensures (if_some _ _ _ _ c.in_ok-part.ensures c.in-Some-2.is)
