use Rattle.std.proofs.Common.{rules}
use Rattle.bk_raw.specs.Trees.ScriptTree.{part_certificate}
use Rattle.bk_p_expr.proofs.Choices.{if_none, if_some}
use Rattle.bk_p_proof.proofs.PartKinds.{certificate_part_found, certificate_nothing}
use Rattle.bk_p_proof.proofs.part.one_certificate.Goals as goal

pub returns-in_default-clause-found : goal.returns-in_default-clause-found
returns-in_default-clause-found c = certificate_nothing c.args.tokens.now (if_none _ _ _ c.in_ok-facts.ensures.found c.in_default.is)

pub returns-clause-found : goal.returns-clause-found
returns-clause-found c = (part_certificate _ _, certificate_part_found c.args.tokens.now c.in-Some.rest.now _ _ (if_some _ _ _ _ c.in_ok-facts.ensures.found c.in-Some.is), search rules)
