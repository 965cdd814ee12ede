use Rattle.bk_p_expr.proofs.Choices.{if_some}
use Rattle.bk_p_expr.proofs.Begun.{typed_empty_opens}
use Rattle.bk_p_expr.proofs.opening.typed_empty.Goals as goal

pub returns-clause-found : goal.returns-clause-found
returns-clause-found c = typed_empty_opens c.args.at c.args.tokens.now c.in-Some.field-0-0.now c.in-Some.rest.now c.in-Some-2.ty c.in-Some-2.rest.now c.in-Some-after_sign.field-0-0.now c.in-Some-after_sign.rest.now c.in_ok-set.set c.in-Some.ensures.found c.in-Some.ensures.shorter (if_some _ _ _ _ c.in_ok-ty.ensures.found c.in-Some-2.is) c.in-Some-after_sign.ensures.found c.in_ok-set.ensures
