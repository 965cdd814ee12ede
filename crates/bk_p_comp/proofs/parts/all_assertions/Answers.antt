use Rattle.std.proofs.Common.{List, ap, arith, subst}
use Rattle.bk_ops.specs.declared.sign.TheConstants.{SEMICOLON}
use Rattle.bk_raw.specs.Trees.ComponentTree.{clause_terms}
use Rattle.bk_raw.specs.Grammar.Pieces.{Divided}
use Rattle.bk_raw.specs.Trees.RawTree.{RawTree, trees_of}
use Rattle.bk_raw.specs.Grammar.Spelling.{Term}
use Rattle.bk_p_expr.specs.Fronts.{Longest}
use Rattle.bk_p_expr.specs.Pieces.{IsTerms}
use Rattle.bk_p_expr.proofs.Choices.{if_none, if_some}
use Rattle.bk_p_comp.proofs.Standings.{no_terms, same_terms, terms_height, terms_stand}
use Rattle.bk_p_comp.proofs.parts.all_assertions.Goals as goal

pub returns-in_default-clause-found : goal.returns-in_default-clause-found
returns-in_default-clause-found c = no_terms c.args.tokens.now (if_none _ _ _ c.in_ok-all.ensures.found c.in_default.is)

pub returns-in-Built-clause-found : goal.returns-in-Built-clause-found
returns-in-Built-clause-found c =
    let f : (ts : List RawTree) × Longest (Divided SEMICOLON (λ t. Term t 0)) c.args.tokens.now ts c.in-Some.rest.now × IsTerms (trees_of ts) c.in-Some.all = if_some _ _ _ _ c.in_ok-all.ensures.found c.in-Some.is in
    let k = subst (λ p. IsTerms (trees_of f.0) p) c.in-Built.is f.2 in
    (clause_terms f.0, terms_stand c.args.tokens.now c.in-Some.rest.now f.0 f.1, (ap clause_terms (same_terms c.in-Built.all.items f.0 k.0), omega (arith, k.1, k.2, terms_height f.0)))

pub returns-clause-found : goal.returns-clause-found
returns-clause-found c =
    let f : (ts : List RawTree) × Longest (Divided SEMICOLON (λ t. Term t 0)) c.args.tokens.now ts c.in-Some.rest.now × IsTerms (trees_of ts) c.in-Some.all = if_some _ _ _ _ c.in_ok-all.ensures.found c.in-Some.is in
    let k = subst (λ p. IsTerms (trees_of f.0) p) c.in-High.is f.2 in
    (clause_terms f.0, terms_stand c.args.tokens.now c.in-Some.rest.now f.0 f.1, omega (arith, k.0, terms_height f.0))
