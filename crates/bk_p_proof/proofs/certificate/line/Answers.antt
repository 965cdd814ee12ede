use Rattle.bk_p_expr.proofs.Choices.{if_none, if_some}
use Rattle.bk_p_proof.proofs.Certificates.{line_quotient, line_sum, line_none}
use Rattle.bk_p_proof.proofs.certificate.line.Goals as goal

pub returns-in-Some-clause-found : goal.returns-in-Some-clause-found
returns-in-Some-clause-found c = line_quotient c.args.tokens.now c.in-Some.rest.now c.in-Some.fact c.in-Some.by c.in-Some.ensures.found

pub returns-in_default-2-clause-found : goal.returns-in_default-2-clause-found
returns-in_default-2-clause-found c = line_none c.args.tokens.now c.in_default.ensures.found (if_none _ _ _ c.in_ok-multiples.ensures.found c.in_default-2.is)

pub returns-clause-found : goal.returns-clause-found
returns-clause-found c = line_sum c.args.tokens.now c.in-Some-2.rest.now c.in-Some-2.multiples.items c.in_default.ensures.found (if_some _ _ _ _ c.in_ok-multiples.ensures.found c.in-Some-2.is)
