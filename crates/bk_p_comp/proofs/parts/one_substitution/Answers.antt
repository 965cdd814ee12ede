use Rattle.std.proofs.Common.{false, ◌∙◌, ap, arith, subst}
use Rattle.bk_raw.specs.Trees.ComponentTree.{clause_sub}
use Rattle.bk_raw.specs.Grammar.SubSpelling.{Sub}
use Rattle.bk_raw.specs.Trees.SubTree.{SubTree}
use Rattle.bk_p_expr.specs.Fronts.{Longest}
use Rattle.bk_p_expr.proofs.Choices.{if_none, if_some}
use Rattle.bk_p_sub.specs.Statements.{IsStatement}
use Rattle.bk_p_comp.proofs.Standings.{no_sub, sub_stands}
use Rattle.bk_p_comp.proofs.parts.one_substitution.Goals as goal

pub returns-in_default-clause-found : goal.returns-in_default-clause-found
returns-in_default-clause-found c = no_sub c.args.tokens.now (if_none _ _ _ c.in_ok-statement.ensures.found c.in_default.is)

pub returns-in-Built-clause-found : goal.returns-in-Built-clause-found
returns-in-Built-clause-found c =
    let f : (s : SubTree) × Longest (λ (s : SubTree). Sub false s 0) c.args.tokens.now s c.in-Some.rest.now × IsStatement s c.in-Some.statement = if_some _ _ _ _ c.in_ok-statement.ensures.found c.in-Some.is in
    let k = subst (λ p. IsStatement f.0 p) c.in-Built.is f.2 in
    (clause_sub f.0, sub_stands c.args.tokens.now c.in-Some.rest.now f.0 f.1, (ap clause_sub (c.into_inner-sub.ensures ∙ k.0), omega (arith, k.1, k.2)))

pub returns-in-High-clause-found : goal.returns-in-High-clause-found
returns-in-High-clause-found c =
    let f : (s : SubTree) × Longest (λ (s : SubTree). Sub false s 0) c.args.tokens.now s c.in-Some.rest.now × IsStatement s c.in-Some.statement = if_some _ _ _ _ c.in_ok-statement.ensures.found c.in-Some.is in
    (clause_sub f.0, sub_stands c.args.tokens.now c.in-Some.rest.now f.0 f.1, subst (λ p. IsStatement f.0 p) c.in-High.is f.2)
