use Rattle.std.proofs.Common.{rules, ◌≡◌, ◌-ℤ◌, neg_ℤ, pos, to_z, of_z, sym, subst}
use Rattle.std.specs.Int.{w128}
use Rattle.bk_raw.specs.Grammar.Pieces.{Literal}
use Rattle.bk_p_expr.specs.Fronts.{Longest}
use Rattle.bk_p_proof.proofs.Certificates.{literal_plain, literal_minus, literal_none, literal_none_behind}
use Rattle.bk_p_proof.proofs.certificate.literal.Goals as goal

pub returns-in_default-natural-clause-found : goal.returns-in_default-natural-clause-found
returns-in_default-natural-clause-found c = literal_none_behind c.args.tokens.now c.in-Some.behind.now c.in-Some.ensures.found c.in_default-natural.ensures.found

pub returns-in-Some-clause-found : goal.returns-in-Some-clause-found
returns-in-Some-clause-found c =
    let number = c.in-Some-natural.number in
    let same : to_z w128 (of_z w128 (pos 0 -ℤ to_z w128 (of_z w128 number))) ≡ neg_ℤ number = search rules in
    literal_minus c.args.tokens.now c.in-Some.behind.now c.in-Some-natural.rest.now number (to_z w128 (of_z w128 (pos 0 -ℤ to_z w128 (of_z w128 number)))) c.in-Some.ensures.found c.in-Some-natural.ensures.found same

pub returns-in_default-natural-2-clause-found : goal.returns-in_default-natural-2-clause-found
returns-in_default-natural-2-clause-found c = literal_none c.args.tokens.now c.in_default.ensures.found c.in_default-natural-2.ensures.found

pub returns-clause-found : goal.returns-clause-found
returns-clause-found c =
    let number = c.in-Some-natural-2.number in
    let same : to_z w128 (of_z w128 number) ≡ number = search rules in
    subst (λ z. Longest (λ y. Literal y 0) c.args.tokens.now z c.in-Some-natural-2.rest.now) (sym same) (literal_plain c.args.tokens.now c.in-Some-natural-2.rest.now number c.in-Some-natural-2.ensures.found)
