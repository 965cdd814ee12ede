use Rattle.std.proofs.Common.{◌++◌, [], ◌∷◌, ap, sym, subst, ◌∙◌, false}
use Rattle.bk_p_expr.proofs.Choices.{if_none, if_some}
use Rattle.bk_p_proof.proofs.ScriptRead.{RulesSoFar, RulesRead, rules_none, rules_begin, rules_go_on_high, rules_go_on_low, rules_end, rules_end_before}
use Rattle.bk_p_proof.proofs.script.rules.Goals as goal

pub returns-in_default-clause-found : goal.returns-in_default-clause-found
returns-in_default-clause-found c = subst (λ qs. RulesRead c.args.tokens.now qs false c.args.tokens.now) (sym c.new-all.ensures.items) (rules_none c.args.tokens.now (if_none _ _ _ c.in_ok-first.ensures.found c.in_default.is))

pub loop-behind-init : goal.loop-behind-init
loop-behind-init c =
    let f = if_some _ _ _ _ c.in_ok-first.ensures.found c.in-Some.is in
    subst (λ qs. RulesSoFar c.args.tokens.now qs c.in-Some.first_is_high c.in-Some.after.now) (sym (c.in_ok-push.ensures.items ∙ ap (λ qs. qs ++ c.in-Some.first ∷ []) c.new-all.ensures.items)) (rules_begin c.args.tokens.now c.in-Some.after.now f.0 c.in-Some.first c.in-Some.first_is_high f.1 f.2 (if_some _ _ _ _ c.in_ok-first.ensures.shorter c.in-Some.is))

pub returns-in_default-2-clause-found : goal.returns-in_default-2-clause-found
returns-in_default-2-clause-found c = rules_end_before c.args.tokens.now c.loop-behind.rest.now c.in-Some-after_sign.behind.now c.loop-behind.all.items c.loop-behind.is_high c.loop-behind.invariant c.in-Some-after_sign.ensures.found (if_none _ _ _ c.in_ok-rule.ensures.found c.in_default-2.is)

pub loop-behind-preserved-then-is_high : goal.loop-behind-preserved-then-is_high
loop-behind-preserved-then-is_high c =
    let f = if_some _ _ _ _ c.in_ok-rule.ensures.found c.in-Some-2.is in
    subst (λ qs. RulesSoFar c.args.tokens.now qs c.loop-behind.is_high c.in-Some-2.after.now) (sym c.in_ok-push-2.ensures.items) (rules_go_on_high c.args.tokens.now c.loop-behind.rest.now c.in-Some-after_sign.behind.now c.in-Some-2.after.now c.loop-behind.all.items f.0 c.in-Some-2.rule c.loop-behind.is_high c.in-Some-2.one_is_high c.if-is_high.true c.loop-behind.invariant c.in-Some-after_sign.ensures.found f.1 f.2 (if_some _ _ _ _ c.in_ok-rule.ensures.shorter c.in-Some-2.is))

pub loop-behind-preserved : goal.loop-behind-preserved
loop-behind-preserved c =
    let f = if_some _ _ _ _ c.in_ok-rule.ensures.found c.in-Some-2.is in
    subst (λ qs. RulesSoFar c.args.tokens.now qs c.in-Some-2.one_is_high c.in-Some-2.after.now) (sym c.in_ok-push-2.ensures.items) (rules_go_on_low c.args.tokens.now c.loop-behind.rest.now c.in-Some-after_sign.behind.now c.in-Some-2.after.now c.loop-behind.all.items f.0 c.in-Some-2.rule c.loop-behind.is_high c.in-Some-2.one_is_high c.if-is_high.false c.loop-behind.invariant c.in-Some-after_sign.ensures.found f.1 f.2 (if_some _ _ _ _ c.in_ok-rule.ensures.shorter c.in-Some-2.is))

pub returns-clause-found : goal.returns-clause-found
returns-clause-found c = rules_end c.args.tokens.now c.loop-behind.rest.now c.loop-behind.all.items c.loop-behind.is_high c.loop-behind.invariant c.in_default-after_sign.ensures.found
