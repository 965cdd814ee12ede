use Rattle.std.proofs.Common.{◌++◌, [], ◌∷◌, ap, sym, subst, ◌∙◌}
use Rattle.bk_p_proof.proofs.Certificates.{SumSoFar, sum_none, sum_begins, sum_goes_on, sum_ends, sum_ends_before}
use Rattle.bk_p_proof.proofs.certificate.multiples.Goals as goal

pub returns-in_default-clause-found : goal.returns-in_default-clause-found
returns-in_default-clause-found c = sum_none c.args.tokens.now c.in_default.ensures.found

pub loop-behind-init : goal.loop-behind-init
loop-behind-init c = subst (λ xs. SumSoFar c.args.tokens.now xs c.in-Some.after.now) (sym (c.in_ok-push.ensures.items ∙ ap (λ xs. xs ++ c.in-Some.first ∷ []) c.new-all.ensures.items)) (sum_begins c.args.tokens.now c.in-Some.after.now c.in-Some.first c.in-Some.ensures.found c.in-Some.ensures.shorter)

pub loop-behind-preserved : goal.loop-behind-preserved
loop-behind-preserved c = subst (λ xs. SumSoFar c.args.tokens.now xs c.in-Some-multiple.after.now) (sym c.in_ok-push-2.ensures.items) (sum_goes_on c.args.tokens.now c.loop-behind.rest.now c.in-Some-after_sign.behind.now c.in-Some-multiple.after.now c.loop-behind.all.items c.in-Some-multiple.multiple c.loop-behind.invariant c.in-Some-after_sign.ensures.found c.in-Some-multiple.ensures.found c.in-Some-multiple.ensures.shorter)

pub returns-in_default-multiple-clause-found : goal.returns-in_default-multiple-clause-found
returns-in_default-multiple-clause-found c = sum_ends_before c.args.tokens.now c.loop-behind.rest.now c.in-Some-after_sign.behind.now c.loop-behind.all.items c.loop-behind.invariant c.in-Some-after_sign.ensures.found c.in_default-multiple.ensures.found

pub returns-clause-found : goal.returns-clause-found
returns-clause-found c = sum_ends c.args.tokens.now c.loop-behind.rest.now c.loop-behind.all.items c.loop-behind.invariant c.in_default-after_sign.ensures.found

pub returns-in_default-multiple-clause-shorter : goal.returns-in_default-multiple-clause-shorter
returns-in_default-multiple-clause-shorter c = c.loop-behind.invariant.shorter

pub returns-clause-shorter : goal.returns-clause-shorter
returns-clause-shorter c = c.loop-behind.invariant.shorter
