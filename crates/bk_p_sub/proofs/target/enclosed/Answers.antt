use Rattle.bk_raw.specs.Trees.RawTree.{RawTree}
use Rattle.bk_raw.specs.Grammar.Spelling.{Spells}
use Rattle.bk_p_expr.specs.Fronts.{Longest}
use Rattle.bk_p_expr.proofs.Choices.{if_none, if_some}
use Rattle.bk_p_sub.specs.Statements.{IsTerm}
use Rattle.bk_p_sub.proofs.Targets.{enclosed_found, enclosed_none, enclosed_none_inside, enclosed_none_last}
use Rattle.bk_p_sub.proofs.target.enclosed.Goals as goal

pub returns-in_default-clause-found : goal.returns-in_default-clause-found
returns-in_default-clause-found c = enclosed_none c.args.tokens.now c.in_default.ensures.found

pub returns-in_default-2-clause-found : goal.returns-in_default-2-clause-found
returns-in_default-2-clause-found c = enclosed_none_inside c.args.tokens.now c.in-Some.inside.now c.in-Some.ensures.found (if_none _ _ _ c.in_ok-term.ensures.found c.in_default-2.is)

pub returns-in_default-after_sign-clause-found : goal.returns-in_default-after_sign-clause-found
returns-in_default-after_sign-clause-found c =
    let f : (t : RawTree) × Longest Spells c.in-Some.inside.now t c.in-Some-2.behind.now × IsTerm t c.in-Some-2.term = if_some _ _ _ _ c.in_ok-term.ensures.found c.in-Some-2.is in
    enclosed_none_last c.args.tokens.now c.in-Some.inside.now c.in-Some-2.behind.now f.0 c.in-Some.ensures.found f.1 c.in_default-after_sign.ensures.found

pub returns-clause-found : goal.returns-clause-found
returns-clause-found c =
    let f : (t : RawTree) × Longest Spells c.in-Some.inside.now t c.in-Some-2.behind.now × IsTerm t c.in-Some-2.term = if_some _ _ _ _ c.in_ok-term.ensures.found c.in-Some-2.is in
    (f.0, enclosed_found c.args.tokens.now c.in-Some.inside.now c.in-Some-2.behind.now c.in-Some-after_sign.rest.now f.0 c.in-Some.ensures.found f.1 c.in-Some-after_sign.ensures.found, f.2)
