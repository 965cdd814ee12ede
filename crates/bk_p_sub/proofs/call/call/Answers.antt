use Rattle.std.proofs.Common.{[], subst}
use Rattle.bk_raw.specs.Grammar.Reading.{start}
use Rattle.bk_raw.specs.Trees.SubTree.{sub, sub_call}
use Rattle.bk_p_expr.proofs.Choices.{if_none, if_some}
use Rattle.bk_p_sub.specs.Found.{CallWithOutputs, FoundApplication, FoundCall}
use Rattle.bk_p_sub.specs.Statements.{IsStatement}
use Rattle.bk_p_sub.proofs.Calls.{call_none, call_with_outputs, call_without}
use Rattle.bk_p_sub.proofs.call.call.Goals as goal

pub returns-in-Some-clause-found : goal.returns-in-Some-clause-found
returns-in-Some-clause-found c =
    let f : FoundCall CallWithOutputs c.args.tokens.now c.in-Some.statement c.in-Some.rest.now = if_some _ _ _ _ c.in_ok-statement.ensures.found c.in-Some.is in
    (f.0, call_with_outputs c.args.tokens.now c.in-Some.rest.now f.0 f.1, f.2)

pub returns-in_default-2-clause-found : goal.returns-in_default-2-clause-found
returns-in_default-2-clause-found c = call_none c.args.tokens.now (if_none _ _ _ c.in_ok-statement.ensures.found c.in_default.is) (if_none _ _ _ c.in_ok-operation.ensures.found c.in_default-2.is)

pub returns-clause-found : goal.returns-clause-found
returns-clause-found c =
    let a : FoundApplication c.args.tokens.now c.in-Some-2.operation c.in-Some-2.arguments c.in-Some-2.rest.now = if_some _ _ _ _ c.in_ok-operation.ensures.found c.in-Some-2.is in
    let built : IsStatement (sub (start c.args.tokens.now) (sub_call c.new-none.result.items c.in-Some-2.operation a.0)) c.in_ok-statement-2.statement = subst (λ at. IsStatement (sub at (sub_call c.new-none.result.items c.in-Some-2.operation a.0)) c.in_ok-statement-2.statement) c.start_of-at.ensures (c.in_ok-statement-2.ensures a.0 a.2) in (
      ([], (c.in-Some-2.operation, a.0)),
      call_without c.args.tokens.now c.in-Some-2.rest.now (c.in-Some-2.operation, a.0) (if_none _ _ _ c.in_ok-statement.ensures.found c.in_default.is) a.1,
      subst (λ xs. IsStatement (sub (start c.args.tokens.now) (sub_call xs c.in-Some-2.operation a.0)) c.in_ok-statement-2.statement) c.new-none.ensures.items built,
    )
