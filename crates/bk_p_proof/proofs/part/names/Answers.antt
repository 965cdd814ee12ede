use Rattle.std.proofs.Common.{rules}
use Rattle.bk_raw.specs.Trees.ScriptTree.{part_typed}
use Rattle.bk_p_expr.proofs.Choices.{if_none, if_some}
use Rattle.bk_p_proof.proofs.PartKinds.{typed_found, typed_nothing}
use Rattle.bk_p_proof.proofs.part.names.Goals as goal

pub returns-in_default-clause-found : goal.returns-in_default-clause-found
returns-in_default-clause-found c = typed_nothing c.args.tokens.now (if_none _ _ _ c.in_ok-names.ensures.found c.in_default.is)

pub returns-clause-found : goal.returns-clause-found
returns-clause-found c = (part_typed _, typed_found c.args.tokens.now c.in-Some.rest.now _ (if_some _ _ _ _ c.in_ok-names.ensures.found c.in-Some.is), search rules)
