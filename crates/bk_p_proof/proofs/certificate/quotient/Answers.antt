use Rattle.bk_p_proof.proofs.Certificates.{quotient_found, quotient_no_first, quotient_no_second}
use Rattle.bk_p_proof.proofs.certificate.quotient.Goals as goal

pub returns-in_default-clause-found : goal.returns-in_default-clause-found
returns-in_default-clause-found c = quotient_no_first c.args.tokens.now c.in_default.ensures.found

pub returns-in_default-digits-clause-found : goal.returns-in_default-digits-clause-found
returns-in_default-digits-clause-found c = quotient_no_second c.args.tokens.now c.in-Some.behind.now c.in-Some-after_sign.behind.now c.in-Some.fact c.in-Some.ensures.found c.in-Some-after_sign.ensures.found c.in_default-digits.ensures.found

pub returns-clause-found : goal.returns-clause-found
returns-clause-found c = quotient_found c.args.tokens.now c.in-Some.behind.now c.in-Some-after_sign.behind.now c.in-Some-digits.rest.now c.in-Some.fact c.in-Some-digits.by c.in-Some.ensures.found c.in-Some-after_sign.ensures.found c.in-Some-digits.ensures.found
