use Rattle.std.proofs.Common.{◌++◌, [], ◌∷◌, ap, sym, subst, ◌∙◌, arith}
use Rattle.bk_ops.specs.declared.sign.TheConstants.{COMMA}
use Rattle.bk_raw.specs.Grammar.Pieces.{AnyDivided, Digits}
use Rattle.bk_p_expr.specs.Fronts.{Longest}
use Rattle.bk_p_proof.proofs.Certificates.{FactsSoFar, facts_none, facts_begin, facts_go_on, facts_end, facts_end_before}
use Rattle.bk_p_proof.proofs.certificate.facts.Goals as goal

pub returns-in_default-clause-found : goal.returns-in_default-clause-found
returns-in_default-clause-found c = subst (λ ns. Longest (AnyDivided COMMA Digits) c.args.tokens.now ns c.args.tokens.now) (sym c.new-all.ensures.items) (facts_none c.args.tokens.now c.in_default.ensures.found)

pub loop-behind-init : goal.loop-behind-init
loop-behind-init c = subst (λ xs. FactsSoFar c.args.tokens.now xs c.in-Some.after.now) (sym (c.in_ok-push.ensures.items ∙ ap (λ xs. xs ++ c.in-Some.first ∷ []) c.new-all.ensures.items)) (facts_begin c.args.tokens.now c.in-Some.after.now c.in-Some.first c.in-Some.ensures.found c.in-Some.ensures.shorter)

pub loop-behind-preserved : goal.loop-behind-preserved
loop-behind-preserved c = subst (λ xs. FactsSoFar c.args.tokens.now xs c.in-Some-digits.after.now) (sym c.in_ok-push-2.ensures.items) (facts_go_on c.args.tokens.now c.loop-behind.rest.now c.in-Some-after_sign.behind.now c.in-Some-digits.after.now c.loop-behind.all.items c.in-Some-digits.number c.loop-behind.invariant c.in-Some-after_sign.ensures.found c.in-Some-digits.ensures.found c.in-Some-digits.ensures.shorter)

pub returns-in_default-digits-clause-found : goal.returns-in_default-digits-clause-found
returns-in_default-digits-clause-found c = facts_end_before c.args.tokens.now c.loop-behind.rest.now c.in-Some-after_sign.behind.now c.loop-behind.all.items c.loop-behind.invariant c.in-Some-after_sign.ensures.found c.in_default-digits.ensures.found

pub returns-clause-found : goal.returns-clause-found
returns-clause-found c = facts_end c.args.tokens.now c.loop-behind.rest.now c.loop-behind.all.items c.loop-behind.invariant c.in_default-after_sign.ensures.found

pub returns-in_default-digits-clause-shorter : goal.returns-in_default-digits-clause-shorter
returns-in_default-digits-clause-shorter c = omega (arith, c.loop-behind.invariant.shorter)

pub returns-clause-shorter : goal.returns-clause-shorter
returns-clause-shorter c = omega (arith, c.loop-behind.invariant.shorter)
