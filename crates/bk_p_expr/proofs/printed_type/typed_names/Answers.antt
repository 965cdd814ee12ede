use Rattle.std.proofs.Common.{sym, subst}
use Rattle.bk_p_expr.proofs.Choices.{if_some}
use Rattle.bk_p_expr.proofs.Lists.{BoundsSoFar, bounds_goes_on}
use Rattle.bk_p_expr.proofs.printed_type.typed_names.Goals as goal

pub loop-all-preserved : goal.loop-all-preserved
loop-all-preserved c = subst (λ xs. BoundsSoFar c.args.tokens.now xs c.in-Some-after_sign.more.now) (sym c.in_ok-push.ensures.items) (bounds_goes_on c.args.tokens.now c.loop-all.all.items c.loop-all.rest.now c.in-Some.bound c.in-Some.after.now c.in-Some-after_sign.field-0-0.now c.in-Some-after_sign.more.now c.loop-all.invariant (if_some _ _ _ _ c.in_ok-bound.ensures.found c.in-Some.is) (if_some _ _ _ _ c.in_ok-bound.ensures.shorter c.in-Some.is) c.in-Some-after_sign.ensures.begins c.in-Some-after_sign.ensures.found c.in-Some-after_sign.ensures.shorter)
