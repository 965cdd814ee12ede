use Rattle.std.proofs.Common.{◌≡◌, ℕ, ◌+◌, ◌<◌, length, sym, ap, subst, ◌∙◌, arith, refl, true, false, ◌==◌}
use Rattle.std.proofs.lemmas.Bool.Decides.{nat_tests}
use Rattle.bk_lin.specs.Inequality.{Inequality, IsContradiction}
use Rattle.bk_lin.specs.Certificate.{inequalities, width_of, facts_after, fact_at, IsClosed}
use Rattle.bk_lin.specs.Layout.{shown}
use Rattle.bk_lin.proofs.Held.{last_fact}
use Rattle.bk_lin.proofs.Verdict.{at_closed, at_open, at_empty, at_passed_on}
use Rattle.bk_lin.proofs.certificate.check.Goals as goal

none : (n : ℕ) → true ≡ (n == 0) → n ≡ 0
none n h = grind (arith, nat_tests)

some : (n : ℕ) → false ≡ (n == 0) → 0 < n
some n h = grind (arith, nat_tests)

pub returns-then-is_contradiction : goal.returns-then-is_contradiction
returns-then-is_contradiction c =
    let any : 0 < length c.args.cert.now = some (length c.args.cert.now) c.if-is_empty.ensures in
    let row : Inequality = shown c.row_of_line.result.coefs.now c.row_of_line.result.constant in
    let last : Inequality = fact_at (facts_after (width_of c.args.facts.now) (inequalities c.args.facts.now) c.args.cert.now) (length c.args.facts.now + length c.args.cert.now) in
    let same : last ≡ row =
    ap (λ st. fact_at st (length c.args.facts.now + length c.args.cert.now)) c.in_ok-make_facts.ensures.made
    ∙ last_fact c.args.facts.now (c.width-size.result + 1) (length c.args.cert.now) c.make_facts.new.work any
    ∙ sym c.row_of_line.ensures.fact in
    let closed : IsClosed c.args.facts.now c.args.cert.now =
    (any, subst (λ p. IsContradiction p) (sym same) (c.if-is_contradiction.ensures.0 refl)) in
    let a = at_closed c.args.facts.now c.args.cert.now c.in_ok-make_facts.ensures.right closed in
    record { ok = a.ok; bad_line = a.bad_line; negative = a.negative; too_wide = a.too_wide; not_closed = a.not_closed; answer = a.answer; sound = a.sound }

no_truth : false ≡ true → ⊥
no_truth h = cc

pub returns-else-is_contradiction : goal.returns-else-is_contradiction
returns-else-is_contradiction c =
    let any : 0 < length c.args.cert.now = some (length c.args.cert.now) c.if-is_empty.ensures in
    let row : Inequality = shown c.row_of_line.result.coefs.now c.row_of_line.result.constant in
    let last : Inequality = fact_at (facts_after (width_of c.args.facts.now) (inequalities c.args.facts.now) c.args.cert.now) (length c.args.facts.now + length c.args.cert.now) in
    let same : last ≡ row =
    ap (λ st. fact_at st (length c.args.facts.now + length c.args.cert.now)) c.in_ok-make_facts.ensures.made
    ∙ last_fact c.args.facts.now (c.width-size.result + 1) (length c.args.cert.now) c.make_facts.new.work any
    ∙ sym c.row_of_line.ensures.fact in
    let a = at_open c.args.facts.now c.args.cert.now c.in_ok-make_facts.ensures.right
    (λ closed. no_truth (c.if-is_contradiction.ensures.1 (subst (λ p. IsContradiction p) same closed.1))) in
    record { ok = a.ok; bad_line = a.bad_line; negative = a.negative; too_wide = a.too_wide; not_closed = a.not_closed; answer = a.answer; sound = a.sound }

pub returns-in_err-make_facts : goal.returns-in_err-make_facts
returns-in_err-make_facts c =
    let a = at_passed_on c.args.facts.now c.args.cert.now c.from_residual.result c.in_err-make_facts.field-0.0 c.from_residual.ensures.1 c.in_err-make_facts.ensures.fault in
    record { ok = a.ok; bad_line = a.bad_line; negative = a.negative; too_wide = a.too_wide; not_closed = a.not_closed; answer = a.answer; sound = a.sound }

pub returns-then-is_empty : goal.returns-then-is_empty
returns-then-is_empty c =
    let a = at_empty c.args.facts.now c.args.cert.now (none (length c.args.cert.now) c.if-is_empty.ensures) in
    record { ok = a.ok; bad_line = a.bad_line; negative = a.negative; too_wide = a.too_wide; not_closed = a.not_closed; answer = a.answer; sound = a.sound }
