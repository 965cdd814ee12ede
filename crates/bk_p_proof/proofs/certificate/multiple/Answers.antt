use Rattle.std.proofs.Common.{rules, ◌≡◌, to_z, of_z, sym, subst}
use Rattle.std.specs.Int.{w128}
use Rattle.bk_raw.specs.Grammar.ScriptSpelling.{Multiple}
use Rattle.bk_p_expr.specs.Fronts.{Longest}
use Rattle.bk_p_proof.proofs.Certificates.{multiple_found, multiple_no_first, multiple_no_second}
use Rattle.bk_p_proof.proofs.certificate.multiple.Goals as goal

pub returns-in_default-clause-found : goal.returns-in_default-clause-found
returns-in_default-clause-found c = multiple_no_first c.args.tokens.now c.in_default.ensures.found

pub returns-in_default-digits-clause-found : goal.returns-in_default-digits-clause-found
returns-in_default-digits-clause-found c = multiple_no_second c.args.tokens.now c.in-Some.behind.now c.in-Some-after_sign.behind.now c.in-Some.multiplier c.in-Some.ensures.found c.in-Some-after_sign.ensures.found c.in_default-digits.ensures.found

pub returns-clause-found : goal.returns-clause-found
returns-clause-found c =
    let z = c.in-Some.multiplier in
    let same : to_z w128 (of_z w128 z) ≡ z = search rules in
    subst (λ m. Longest Multiple c.args.tokens.now (record { multiplier = m; fact = c.in-Some-digits.fact }) c.in-Some-digits.rest.now) (sym same)
    (multiple_found c.args.tokens.now c.in-Some.behind.now c.in-Some-after_sign.behind.now c.in-Some-digits.rest.now z c.in-Some-digits.fact c.in-Some.ensures.found c.in-Some-after_sign.ensures.found c.in-Some-digits.ensures.found)
