use Rattle.std.proofs.Common.{rules}
use Rattle.bk_raw.specs.Trees.ScriptTree.{part_place, part_no_place}
use Rattle.bk_p_expr.proofs.Choices.{if_none, if_some}
use Rattle.bk_p_proof.proofs.PartKinds.{perhaps_found, perhaps_none}
use Rattle.bk_p_proof.proofs.part.perhaps_place.Goals as goal

pub returns-in_default-clause-found : goal.returns-in_default-clause-found
returns-in_default-clause-found c = (part_no_place, perhaps_none c.args.tokens.now (if_none _ _ _ c.in_ok-place.ensures.found c.in_default.is), search rules)

pub returns-clause-found : goal.returns-clause-found
returns-clause-found c = (part_place _, perhaps_found c.args.tokens.now c.in-Some.rest.now _ (if_some _ _ _ _ c.in_ok-place.ensures.found c.in-Some.is) (if_some _ _ _ _ c.in_ok-place.ensures.shorter c.in-Some.is), search rules)
