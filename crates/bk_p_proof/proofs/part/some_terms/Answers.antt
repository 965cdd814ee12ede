use Rattle.bk_raw.specs.Trees.ScriptTree.{part_terms}
use Rattle.bk_p_expr.proofs.Choices.{if_none, if_some}
use Rattle.bk_p_proof.proofs.PartKinds.{terms_found, terms_nothing}
use Rattle.bk_p_proof.proofs.part.some_terms.Goals as goal

pub returns-in_default-clause-found : goal.returns-in_default-clause-found
returns-in_default-clause-found c = terms_nothing c.args.tokens.now (if_none _ _ _ c.in_ok-terms.ensures.found c.in_default.is)

pub returns-clause-found : goal.returns-clause-found
returns-clause-found c =
    let f = if_some _ _ _ _ c.in_ok-terms.ensures.found c.in-Some.is in
    (part_terms f.0, terms_found c.args.tokens.now c.in-Some.rest.now f.0 f.1, c.terms_part-part.ensures f.0 f.2)
