use Rattle.std.proofs.Common.{refl, arith}
use Rattle.bk_raw.specs.Trees.ComponentTree.{clause_names}
use Rattle.bk_p_expr.proofs.Choices.{if_none, if_some}
use Rattle.bk_p_comp.proofs.Standings.{names_stand, no_names}
use Rattle.bk_p_comp.proofs.parts.listed.Goals as goal

pub returns-in_default-clause-found : goal.returns-in_default-clause-found
returns-in_default-clause-found c = no_names c.args.tokens.now (if_none _ _ _ c.in_ok-all.ensures.found c.in_default.is)

pub returns-clause-found : goal.returns-clause-found
returns-clause-found c = (clause_names c.in-Some.all.items, names_stand c.args.tokens.now c.in-Some.rest.now c.in-Some.all.items (if_some _ _ _ _ c.in_ok-all.ensures.found c.in-Some.is), (refl, omega arith))
