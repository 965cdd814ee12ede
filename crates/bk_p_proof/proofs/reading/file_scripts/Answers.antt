use Rattle.std.proofs.Common.{rules, sym, subst}
use Rattle.bk_p_expr.proofs.Choices.{if_none, if_some}
use Rattle.bk_p_proof.proofs.FileRead.{ScriptsSoFar, unopened_at, unended_at, scripts_go_on_high, scripts_go_on_low}
use Rattle.bk_p_proof.proofs.reading.file_scripts.Goals as goal

pub returns-in_default-clause-fault : goal.returns-in_default-clause-fault
returns-in_default-clause-fault c = unopened_at c.args.tokens.now c.loop-rest.rest.now c.loop-rest.scripts.items c.loop-rest.is_high c.loop-rest.invariant (search rules) (if_none _ _ _ c.in_ok-script.ensures.found c.in_default.is)

pub returns-in_default-after_name-clause-fault : goal.returns-in_default-after_name-clause-fault
returns-in_default-after_name-clause-fault c =
    let f = if_some _ _ _ _ c.in_ok-script.ensures.found c.in-Some.is in
    unended_at c.args.tokens.now c.loop-rest.rest.now c.in-Some.behind.now c.loop-rest.scripts.items f.0 c.loop-rest.is_high c.loop-rest.invariant (if_some _ _ _ _ c.in_ok-script.ensures.shorter c.in-Some.is) f.1 c.in_default-after_name.ensures.found

pub loop-rest-preserved-then-is_high : goal.loop-rest-preserved-then-is_high
loop-rest-preserved-then-is_high c =
    let f = if_some _ _ _ _ c.in_ok-script.ensures.found c.in-Some.is in
    subst (λ rs. ScriptsSoFar c.args.tokens.now rs c.loop-rest.is_high c.in-Some-after_name.after.now) (sym c.in_ok-push.ensures.items) (scripts_go_on_high c.args.tokens.now c.loop-rest.rest.now c.in-Some.behind.now c.in-Some-after_name.after.now c.loop-rest.scripts.items f.0 c.in-Some.script c.loop-rest.is_high c.in-Some.one_is_high c.if-is_high.true c.loop-rest.invariant f.1 f.2 c.in-Some-after_name.ensures.found)

pub loop-rest-preserved : goal.loop-rest-preserved
loop-rest-preserved c =
    let f = if_some _ _ _ _ c.in_ok-script.ensures.found c.in-Some.is in
    subst (λ rs. ScriptsSoFar c.args.tokens.now rs c.in-Some.one_is_high c.in-Some-after_name.after.now) (sym c.in_ok-push.ensures.items) (scripts_go_on_low c.args.tokens.now c.loop-rest.rest.now c.in-Some.behind.now c.in-Some-after_name.after.now c.loop-rest.scripts.items f.0 c.in-Some.script c.loop-rest.is_high c.in-Some.one_is_high c.if-is_high.false c.loop-rest.invariant f.1 f.2 c.in-Some-after_name.ensures.found)
