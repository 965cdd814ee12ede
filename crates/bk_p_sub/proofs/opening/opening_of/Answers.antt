use Rattle.std.proofs.Common.{sym, subst}
use Rattle.bk_p_sub.specs.Found.{Begins}
use Rattle.bk_p_sub.proofs.Words.{no_atom_by, no_atom_in_none}
use Rattle.bk_p_sub.proofs.opening.opening_of.Goals as goal

pub returns-in_default-clause-found : goal.returns-in_default-clause-found
returns-in_default-clause-found c = no_atom_in_none c.args.calls c.args.tokens.now c.in_default.ensures

pub named-requires : goal.named-requires
named-requires c = (_, c.in-Some.rest.now, (c.in-Some.first.now, c.in-Some.ensures, c.in-Name.is))

pub returns-in-Word-clause-found : goal.returns-in-Word-clause-found
returns-in-Word-clause-found c = subst (λ ts. Begins c.args.calls ts c.opening_by.result) (sym c.in-Some.ensures) (c.opening_by.ensures.found c.args.calls)

pub returns-in_default-kind-clause-found : goal.returns-in_default-kind-clause-found
returns-in_default-kind-clause-found c = no_atom_by c.args.calls c.args.tokens.now c.in-Some.rest.now c.in-Some.first.now c.in-Some.ensures c.in_default-kind.not-Name c.in_default-kind.not-Word
