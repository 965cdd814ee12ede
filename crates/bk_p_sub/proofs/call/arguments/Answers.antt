use Rattle.bk_p_expr.proofs.Choices.{if_none, if_some}
use Rattle.bk_p_sub.specs.Found.{FoundTerms}
use Rattle.bk_p_sub.proofs.Calls.{arguments_found, arguments_none, arguments_none_inside, arguments_none_last}
use Rattle.bk_p_sub.proofs.call.arguments.Goals as goal

pub returns-in_default-clause-found : goal.returns-in_default-clause-found
returns-in_default-clause-found c = arguments_none c.args.tokens.now c.in_default.ensures.found

pub returns-in_default-2-clause-found : goal.returns-in_default-2-clause-found
returns-in_default-2-clause-found c = arguments_none_inside c.args.tokens.now c.in-Some.inside.now c.in-Some.ensures.found (if_none _ _ _ c.in_ok-terms.ensures.found c.in_default-2.is)

pub returns-in_default-after_sign-clause-found : goal.returns-in_default-after_sign-clause-found
returns-in_default-after_sign-clause-found c =
    let f : FoundTerms c.in-Some.inside.now c.in-Some-2.terms c.in-Some-2.behind.now = if_some _ _ _ _ c.in_ok-terms.ensures.found c.in-Some-2.is in
    arguments_none_last c.args.tokens.now c.in-Some.inside.now c.in-Some-2.behind.now f.0 c.in-Some.ensures.found f.1 c.in_default-after_sign.ensures.found

pub returns-clause-found : goal.returns-clause-found
returns-clause-found c =
    let f : FoundTerms c.in-Some.inside.now c.in-Some-2.terms c.in-Some-2.behind.now = if_some _ _ _ _ c.in_ok-terms.ensures.found c.in-Some-2.is in
    (f.0, arguments_found c.args.tokens.now c.in-Some.inside.now c.in-Some-2.behind.now c.in-Some-after_sign.rest.now f.0 c.in-Some.ensures.found f.1 c.in-Some-after_sign.ensures.found, f.2)
