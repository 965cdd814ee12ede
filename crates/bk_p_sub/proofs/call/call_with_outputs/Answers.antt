use Rattle.std.proofs.Common.{subst}
use Rattle.bk_raw.specs.Grammar.Spelling.{Names}
use Rattle.bk_raw.specs.Trees.SubTree.{sub, sub_call}
use Rattle.bk_p_expr.specs.Fronts.{Longest}
use Rattle.bk_p_expr.proofs.Choices.{if_none, if_some}
use Rattle.bk_p_sub.specs.Found.{FoundApplication}
use Rattle.bk_p_sub.specs.Statements.{IsStatement}
use Rattle.bk_p_sub.proofs.Calls.{with_outputs_found, with_outputs_none, with_outputs_none_inside, with_outputs_none_sign}
use Rattle.bk_p_sub.proofs.call.call_with_outputs.Goals as goal

pub returns-in_default-clause-found : goal.returns-in_default-clause-found
returns-in_default-clause-found c = with_outputs_none c.args.tokens.now (if_none _ _ _ c.in_ok-outputs.ensures.found c.in_default.is)

pub returns-in_default-after_sign-clause-found : goal.returns-in_default-after_sign-clause-found
returns-in_default-after_sign-clause-found c =
    let n : Longest Names c.args.tokens.now c.in-Some.outputs.items c.in-Some.behind.now = if_some _ _ _ _ c.in_ok-outputs.ensures.found c.in-Some.is in
    with_outputs_none_sign c.args.tokens.now c.in-Some.behind.now c.in-Some.outputs.items n c.in_default-after_sign.ensures.found

pub returns-in_default-2-clause-found : goal.returns-in_default-2-clause-found
returns-in_default-2-clause-found c =
    let n : Longest Names c.args.tokens.now c.in-Some.outputs.items c.in-Some.behind.now = if_some _ _ _ _ c.in_ok-outputs.ensures.found c.in-Some.is in
    with_outputs_none_inside c.args.tokens.now c.in-Some.behind.now c.in-Some-after_sign.inside.now c.in-Some.outputs.items n c.in-Some-after_sign.ensures.found (if_none _ _ _ c.in_ok-operation.ensures.found c.in_default-2.is)

pub returns-clause-found : goal.returns-clause-found
returns-clause-found c =
    let n : Longest Names c.args.tokens.now c.in-Some.outputs.items c.in-Some.behind.now = if_some _ _ _ _ c.in_ok-outputs.ensures.found c.in-Some.is in
    let a : FoundApplication c.in-Some-after_sign.inside.now c.in-Some-2.operation c.in-Some-2.arguments c.in-Some-2.rest.now = if_some _ _ _ _ c.in_ok-operation.ensures.found c.in-Some-2.is in (
      (c.in-Some.outputs.items, (c.in-Some-2.operation, a.0)),
      with_outputs_found c.args.tokens.now c.in-Some.behind.now c.in-Some-after_sign.inside.now c.in-Some-2.rest.now c.in-Some.outputs.items (c.in-Some-2.operation, a.0) n c.in-Some-after_sign.ensures.found a.1,
      subst (λ at. IsStatement (sub at (sub_call c.in-Some.outputs.items c.in-Some-2.operation a.0)) c.in_ok-statement.statement) c.start_of-at.ensures (c.in_ok-statement.ensures a.0 a.2),
    )
