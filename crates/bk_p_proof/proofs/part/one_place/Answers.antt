use Rattle.std.proofs.Common.{rules}
use Rattle.bk_raw.specs.Trees.ScriptTree.{part_place}
use Rattle.bk_p_expr.proofs.Choices.{if_none, if_some}
use Rattle.bk_p_proof.proofs.PartKinds.{place_found, place_nothing}
use Rattle.bk_p_proof.proofs.part.one_place.Goals as goal

pub returns-in_default-clause-found : goal.returns-in_default-clause-found
returns-in_default-clause-found c = place_nothing c.args.tokens.now (if_none _ _ _ c.in_ok-place.ensures.found c.in_default.is)

pub returns-clause-found : goal.returns-clause-found
returns-clause-found c = (part_place _, place_found c.args.tokens.now c.in-Some.rest.now _ (if_some _ _ _ _ c.in_ok-place.ensures.found c.in-Some.is), search rules)
