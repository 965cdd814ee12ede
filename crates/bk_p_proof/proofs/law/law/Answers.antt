use Rattle.bk_p_expr.proofs.Choices.{if_some}
use Rattle.bk_p_proof.proofs.TermLists.{law_found}
use Rattle.bk_p_proof.proofs.law.law.Goals as goal

pub returns-clause-found : goal.returns-clause-found
returns-clause-found c =
    let f = c.in_ok-terms.ensures.found in
    (f.0, law_found c.args.tokens.now c.in-Some.behind.now c.in_ok-terms.rest.now c.in-Some-2.name f.0 (c.in-Some.first.now, c.in-Some.ensures, if_some _ _ _ _ c.in_ok-name.ensures c.in-Some-2.is) f.1, f.2)
