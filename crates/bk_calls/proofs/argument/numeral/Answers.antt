use Rattle.std.proofs.Common.{◌≡◌, subst, ◌<◌, ◌≤◌, ◌+◌, ◌*◌, ◌-◌, ◌^◌, get_or, arith}
use Rattle.bk_lex.specs.Lexis.{numeral_from}
use Rattle.bk_lex.proofs.Runs.{too_large, none_iff, ended}
use Rattle.bk_calls.proofs.argument.numeral.Goals as goal

pub returns-in_err-checked_mul : goal.returns-in_err-checked_mul
returns-in_err-checked_mul c =
    let digits = c.args.digits.now in
    let i = c.loop-digit.digit-index in
    let n = c.loop-digit.number in
    let big : 2 ^ 64 ≤ 10 * n + (get_or digits i 0 - 48) = omega (arith, c.in_err-checked_mul.ensures) in
    none_iff _ _ _ c.from_residual.ensures (too_large (2 ^ 64) digits n i (omega arith) c.loop-digit.invariant.0 big)

pub returns-in_err-number : goal.returns-in_err-number
returns-in_err-number c =
    let digits = c.args.digits.now in
    let i = c.loop-digit.digit-index in
    let n = c.loop-digit.number in
    let big : 2 ^ 64 ≤ 10 * n + (get_or digits i 0 - 48) = omega (arith, c.in_err-number.ensures, c.from.ensures, c.in_ok-checked_mul.ensures) in
    none_iff _ _ _ c.from_residual-in_err-number.ensures (too_large (2 ^ 64) digits n i (omega arith) c.loop-digit.invariant.0 big)

pub returns : goal.returns
returns c =
    let digits = c.args.digits.now in
    let same : c.loop-digit.number ≡ numeral_from 0 digits = ended c.loop-digit.number digits c.loop-digit.digit-index (omega arith) c.loop-digit.invariant.0 in
    let small : c.loop-digit.number < 2 ^ 64 = c.loop-digit.invariant.1 in
    (subst (λ n. n < 2 ^ 64) same small, same)
