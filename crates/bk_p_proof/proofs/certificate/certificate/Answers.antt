use Rattle.std.proofs.Common.{map}
use Rattle.bk_raw.specs.Codes.ScriptView.{line_of}
use Rattle.bk_p_expr.proofs.Choices.{if_none, if_some}
use Rattle.bk_p_proof.proofs.Certificates.{certificate_found, certificate_no_sign, certificate_no_lines}
use Rattle.bk_p_proof.proofs.certificate.certificate.Goals as goal

pub returns-in_default-clause-found : goal.returns-in_default-clause-found
returns-in_default-clause-found c = certificate_no_sign c.args.tokens.now c.in_ok-facts.behind.now c.in_ok-facts.facts.items c.in_ok-facts.ensures.found c.in_default.ensures.found

pub returns-in_default-2-clause-found : goal.returns-in_default-2-clause-found
returns-in_default-2-clause-found c = certificate_no_lines c.args.tokens.now c.in_ok-facts.behind.now c.in-Some.behind.now c.in_ok-facts.facts.items c.in_ok-facts.ensures.found c.in-Some.ensures.found (if_none _ _ _ c.in_ok-lines.ensures.found c.in_default-2.is)

pub returns-clause-found : goal.returns-clause-found
returns-clause-found c = certificate_found c.args.tokens.now c.in_ok-facts.behind.now c.in-Some.behind.now c.in-Some-2.rest.now c.in_ok-facts.facts.items (map line_of c.in-Some-2.lines.items) c.in_ok-facts.ensures.found c.in-Some.ensures.found (if_some _ _ _ _ c.in_ok-lines.ensures.found c.in-Some-2.is)
