use Rattle.bk_p_expr.proofs.Choices.{if_some}
use Rattle.bk_p_proof.proofs.Tokens.{declared_longest}
use Rattle.bk_p_proof.proofs.token.declared.Goals as goal

pub returns-clause-found : goal.returns-clause-found
returns-clause-found c = declared_longest c.args.tokens.now c.in-Some.rest.now c.in-Some.first.now c.in-Some-2.text c.in-Some.ensures (if_some _ _ _ _ c.in_ok-text.ensures c.in-Some-2.is)
