use Rattle.std.proofs.Common.{[], rules}
use Rattle.bk_p_expr.proofs.Choices.{if_none, if_some}
use Rattle.bk_p_proof.proofs.TermLists.{picked_no_parenthesis, picked_empty, picked_none, no_terms_closed, terms_not_closed, picked_found}
use Rattle.bk_p_proof.proofs.law.picked.Goals as goal

pub returns-in_default-clause-found : goal.returns-in_default-clause-found
returns-in_default-clause-found c = ([], picked_no_parenthesis c.args.tokens.now c.in_default.ensures.found, search rules)

pub returns-in-Some-after_sign-clause-found : goal.returns-in-Some-after_sign-clause-found
returns-in-Some-after_sign-clause-found c = ([], picked_empty c.args.tokens.now c.in-Some.inside.now c.in-Some-after_sign.rest.now c.in-Some.ensures.found c.in-Some-after_sign.ensures.found, search rules)

pub returns-in_default-2-clause-found : goal.returns-in_default-2-clause-found
returns-in_default-2-clause-found c = ([], picked_none c.args.tokens.now c.in-Some.inside.now c.in-Some.ensures.found c.in_default-after_sign.ensures.found (no_terms_closed c.in-Some.inside.now (if_none _ _ _ c.in_ok-all.ensures.found c.in_default-2.is)), search rules)

pub returns-in_default-after_sign-2-clause-found : goal.returns-in_default-after_sign-2-clause-found
returns-in_default-after_sign-2-clause-found c =
    let f = if_some _ _ _ _ c.in_ok-all.ensures.found c.in-Some-2.is in
    ([], picked_none c.args.tokens.now c.in-Some.inside.now c.in-Some.ensures.found c.in_default-after_sign.ensures.found (terms_not_closed c.in-Some.inside.now c.in-Some-2.behind.now f.0 f.1 c.in_default-after_sign-2.ensures.found), search rules)

pub returns-clause-found : goal.returns-clause-found
returns-clause-found c =
    let f = if_some _ _ _ _ c.in_ok-all.ensures.found c.in-Some-2.is in
    (f.0, picked_found c.args.tokens.now c.in-Some.inside.now c.in-Some-2.behind.now c.in-Some-after_sign-2.rest.now f.0 c.in-Some.ensures.found c.in_default-after_sign.ensures.found f.1 c.in-Some-after_sign-2.ensures.found, f.2)
