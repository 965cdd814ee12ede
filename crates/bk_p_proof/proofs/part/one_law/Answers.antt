use Rattle.bk_raw.specs.Trees.ScriptTree.{part_law}
use Rattle.bk_p_expr.proofs.Choices.{if_none, if_some}
use Rattle.bk_p_proof.proofs.PartKinds.{law_part_found, law_nothing}
use Rattle.bk_p_proof.proofs.part.one_law.Goals as goal

pub returns-in_default-clause-found : goal.returns-in_default-clause-found
returns-in_default-clause-found c = law_nothing c.args.tokens.now (if_none _ _ _ c.in_ok-name.ensures.found c.in_default.is)

pub returns-clause-found : goal.returns-clause-found
returns-clause-found c =
    let f = if_some _ _ _ _ c.in_ok-name.ensures.found c.in-Some.is in
    (part_law c.in-Some.name f.0, law_part_found c.args.tokens.now c.in-Some.rest.now c.in-Some.name f.0 f.1, c.law_part-part.ensures f.0 f.2)
