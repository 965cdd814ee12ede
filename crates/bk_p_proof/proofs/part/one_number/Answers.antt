use Rattle.std.proofs.Common.{rules}
use Rattle.bk_raw.specs.Trees.ScriptTree.{part_number}
use Rattle.bk_p_proof.proofs.PartKinds.{number_found, number_nothing}
use Rattle.bk_p_proof.proofs.part.one_number.Goals as goal

pub returns-in_default-clause-found : goal.returns-in_default-clause-found
returns-in_default-clause-found c = number_nothing c.args.tokens.now c.in_default.ensures.found

pub returns-clause-found : goal.returns-clause-found
returns-clause-found c = (part_number c.in-Some.number, number_found c.args.tokens.now c.in-Some.rest.now c.in-Some.number c.in-Some.ensures.found, search rules)
