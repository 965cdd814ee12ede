use Rattle.std.proofs.Common.{◌≡◌, Some, rules}
use Rattle.bk_raw.specs.Grammar.Reading.{name}
use Rattle.bk_raw.specs.Trees.RawTree.{no_trees}
use Rattle.bk_p_expr.proofs.Choices.{if_none, if_some}
use Rattle.bk_p_sub.specs.Found.{FoundArguments}
use Rattle.bk_p_sub.proofs.Fronts.{name_longest, name_nothing}
use Rattle.bk_p_sub.proofs.Calls.{application_found, application_alone, application_none}
use Rattle.bk_p_sub.proofs.call.application.Goals as goal

pub returns-in_default-clause-found : goal.returns-in_default-clause-found
returns-in_default-clause-found c = application_none c.args.tokens.now (name_nothing c.args.tokens.now (if_none _ _ _ c.in_ok-operation.ensures.found c.in_default.is))

pub returns-in_default-2-clause-found : goal.returns-in_default-2-clause-found
returns-in_default-2-clause-found c =
    let f : name c.args.tokens.now ≡ Some (c.in-Some.operation, c.in-Some.behind.now) = if_some _ _ _ _ c.in_ok-operation.ensures.found c.in-Some.is in
    (no_trees, application_alone c.args.tokens.now c.in-Some.behind.now c.in-Some.operation (name_longest c.args.tokens.now c.in-Some.behind.now c.in-Some.operation f) (if_none _ _ _ c.in_ok-arguments.ensures.found c.in_default-2.is), search rules)

pub returns-clause-found : goal.returns-clause-found
returns-clause-found c =
    let f : name c.args.tokens.now ≡ Some (c.in-Some.operation, c.in-Some.behind.now) = if_some _ _ _ _ c.in_ok-operation.ensures.found c.in-Some.is in
    let a : FoundArguments c.in-Some.behind.now c.in-Some-2.arguments c.in-Some-2.rest.now = if_some _ _ _ _ c.in_ok-arguments.ensures.found c.in-Some-2.is in
    (a.0, application_found c.args.tokens.now c.in-Some.behind.now c.in-Some-2.rest.now c.in-Some.operation a.0 (name_longest c.args.tokens.now c.in-Some.behind.now c.in-Some.operation f) a.1, a.2)
