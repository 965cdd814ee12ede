use Rattle.std.proofs.Common.{false}
use Rattle.bk_raw.specs.Grammar.ComponentSpelling.{Operation}
use Rattle.bk_raw.specs.Grammar.SubSpelling.{Sub}
use Rattle.bk_raw.specs.Trees.SubTree.{SubTree}
use Rattle.bk_p_expr.specs.Fronts.{Longest}
use Rattle.bk_p_expr.proofs.Choices.{if_none, if_some}
use Rattle.bk_p_sub.specs.Longest.{Left}
use Rattle.bk_p_sub.specs.Statements.{IsStatement}
use Rattle.bk_p_comp.specs.Entries.{Bodied, titled}
use Rattle.bk_p_comp.proofs.Singles.{operation_found, operation_none_body, operation_none_sign}
use Rattle.bk_p_comp.proofs.entries.operation.Goals as goal

pub returns-in_default-clause-found : goal.returns-in_default-clause-found
returns-in_default-clause-found c = if_none _ _ _ c.in_ok-title.ensures.found c.in_default.is

pub returns-in_default-after_sign-clause-found : goal.returns-in_default-after_sign-clause-found
returns-in_default-after_sign-clause-found c =
    let l : Left Operation c.args.tokens.now Bodied c.in-Some.behind.now (titled c.in-Some.title) = if_some _ _ _ _ c.in_ok-title.ensures.found c.in-Some.is in
    operation_none_sign c.args.tokens.now c.in-Some.behind.now (titled c.in-Some.title) l c.in_default-after_sign.ensures.found

pub returns-in_default-2-clause-found : goal.returns-in_default-2-clause-found
returns-in_default-2-clause-found c =
    let l : Left Operation c.args.tokens.now Bodied c.in-Some.behind.now (titled c.in-Some.title) = if_some _ _ _ _ c.in_ok-title.ensures.found c.in-Some.is in
    operation_none_body c.args.tokens.now c.in-Some.behind.now c.in-Some-after_sign.behind.now (titled c.in-Some.title) l c.in-Some-after_sign.ensures.found (if_none _ _ _ c.in_ok-body.ensures.found c.in_default-2.is)

pub returns-clause-found : goal.returns-clause-found
returns-clause-found c =
    let l : Left Operation c.args.tokens.now Bodied c.in-Some.behind.now (titled c.in-Some.title) = if_some _ _ _ _ c.in_ok-title.ensures.found c.in-Some.is in
    let b : (s : SubTree) × Longest (λ (s : SubTree). Sub false s 1) c.in-Some-after_sign.behind.now s c.in-Some-2.rest.now × IsStatement s c.in-Some-2.body = if_some _ _ _ _ c.in_ok-body.ensures.found c.in-Some-2.is in
    (b.0, operation_found c.args.tokens.now c.in-Some.behind.now c.in-Some-after_sign.behind.now c.in-Some-2.rest.now (titled c.in-Some.title) b.0 l c.in-Some-after_sign.ensures.found b.1, b.2)
