use Rattle.std.proofs.Common.{◌++◌, [], ◌∷◌, ap, sym, subst, ◌∙◌}
use Rattle.bk_p_expr.proofs.Choices.{if_none, if_some}
use Rattle.bk_p_proof.proofs.Names.{NameSoFar, name_none, name_begins, name_goes_on, name_ends, name_ends_before}
use Rattle.bk_p_proof.proofs.name.name.Goals as goal

pub returns-in_default-clause-found : goal.returns-in_default-clause-found
returns-in_default-clause-found c = name_none c.args.tokens.now (if_none _ _ _ c.in_ok-first.ensures.found c.in_default.is)

pub loop-behind-init : goal.loop-behind-init
loop-behind-init c = subst (λ xs. NameSoFar c.args.tokens.now xs c.in-Some.after.now) (sym (c.in_ok-push.ensures.items ∙ ap (λ xs. xs ++ c.in-Some.first ∷ []) c.new-all.ensures.items)) (name_begins c.args.tokens.now c.in-Some.after.now c.in-Some.first (if_some _ _ _ _ c.in_ok-first.ensures.found c.in-Some.is) (if_some _ _ _ _ c.in_ok-first.ensures.shorter c.in-Some.is))

pub loop-behind-preserved : goal.loop-behind-preserved
loop-behind-preserved c = subst (λ xs. NameSoFar c.args.tokens.now xs c.in-Some-2.after.now) (sym c.in_ok-push-2.ensures.items) (name_goes_on c.args.tokens.now c.loop-behind.rest.now c.in-Some-after_sign.behind.now c.in-Some-2.after.now c.loop-behind.all.items c.in-Some-2.part c.loop-behind.invariant c.in-Some-after_sign.ensures.found (if_some _ _ _ _ c.in_ok-part.ensures.found c.in-Some-2.is) (if_some _ _ _ _ c.in_ok-part.ensures.shorter c.in-Some-2.is))

pub returns-in_default-2-clause-found : goal.returns-in_default-2-clause-found
returns-in_default-2-clause-found c = name_ends_before c.args.tokens.now c.loop-behind.rest.now c.in-Some-after_sign.behind.now c.loop-behind.all.items c.loop-behind.invariant c.in-Some-after_sign.ensures.found (if_none _ _ _ c.in_ok-part.ensures.found c.in_default-2.is)

pub returns-clause-found : goal.returns-clause-found
returns-clause-found c = name_ends c.args.tokens.now c.loop-behind.rest.now c.loop-behind.all.items c.loop-behind.invariant c.in_default-after_sign.ensures.found

pub returns-in_default-2-clause-shorter : goal.returns-in_default-2-clause-shorter
returns-in_default-2-clause-shorter c = c.loop-behind.invariant.shorter

pub returns-clause-shorter : goal.returns-clause-shorter
returns-clause-shorter c = c.loop-behind.invariant.shorter
