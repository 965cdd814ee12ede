use Rattle.std.proofs.Common.{◌≡◌, true, length, take, subst, sym, ◌∙◌, IsUtf8}
use Rattle.std.specs.Prelude.{take_while}
use Rattle.bk_lex.specs.Lexis.{is_digit}
use Rattle.bk_lex.specs.Parts.{IsRun, begins}
use Rattle.bk_lex.proofs.Runs.{run_at, digits_boundary, first_numeral, begins_at}
use Rattle.bk_lex.proofs.part.first_numeral.Goals as goal

pub split_at-requires : goal.split_at-requires
split_at-requires c =
    let n = c.digits_in_front.result in
    let text = c.args.text.now in
    let e : n ≡ length (take_while is_digit text) = subst (λ t. n ≡ length (take_while is_digit t)) c.as_bytes-2.ensures.value c.digits_in_front.ensures in
    digits_boundary text n (subst IsUtf8 c.as_bytes.ensures.value c.as_bytes.ensures.utf8) e

pub returns : goal.returns
returns c =
    let n = c.digits_in_front.result in
    let text = c.args.text.now in
    let e : n ≡ length (take_while is_digit text) = subst (λ t. n ≡ length (take_while is_digit t)) c.as_bytes-2.ensures.value c.digits_in_front.ensures in
    let yes : is_digit c.in_ok-first.field-0.now ≡ true = sym c.is_digit.ensures ∙ c.if-not-is_digit.false in
    let here : begins is_digit text ≡ true = subst (λ t. begins is_digit t ≡ true) c.as_bytes.ensures.value (begins_at is_digit c.as_bytes.result.now c.in_ok-first.field-0.now c.in_ok-first.ensures.value ∙ yes) in
    let run : IsRun is_digit text c.as_bytes-3.result.now c.split_at.result.1.now =
    subst (λ d. IsRun is_digit text d c.split_at.result.1.now) (sym (c.as_bytes-3.ensures.value ∙ c.split_at.ensures.front))
    (subst (λ r. IsRun is_digit text (take n text) r) (sym c.split_at.ensures.back) (run_at is_digit text n e)) in
    first_numeral text c.as_bytes-3.result.now c.split_at.result.1.now here run
