use Rattle.bk_raw.specs.Trees.ScriptTree.{part_term}
use Rattle.bk_p_expr.proofs.Choices.{if_none, if_some}
use Rattle.bk_p_proof.proofs.PartKinds.{term_found, term_nothing}
use Rattle.bk_p_proof.proofs.part.one_term.Goals as goal

pub returns-in_default-clause-found : goal.returns-in_default-clause-found
returns-in_default-clause-found c = term_nothing c.args.tokens.now (if_none _ _ _ c.in_ok-term.ensures.found c.in_default.is)

pub returns-clause-found : goal.returns-clause-found
returns-clause-found c =
    let f = if_some _ _ _ _ c.in_ok-term.ensures.found c.in-Some.is in
    (part_term f.0, term_found c.args.tokens.now c.in-Some.rest.now f.0 f.1, c.term_part-part.ensures f.0 f.2)
