use Rattle.std.proofs.Common.{◌≤◌, ◌+◌, ◌*◌, ◌-◌, ◌^◌, get_or, arith}
use Rattle.bk_lex.proofs.Runs.{too_large, none_iff}
use Rattle.bk_lex.proofs.number.number.Goals as goal

pub returns-in_err-checked_mul : goal.returns-in_err-checked_mul
returns-in_err-checked_mul c =
    let digits = c.args.digits.now in
    let i = c.loop-digit.digit-index in
    let n = c.loop-digit.number in
    let big : 2 ^ 127 ≤ 10 * n + (get_or digits i 0 - 48) = omega (arith, c.in_err-checked_mul.ensures) in
    none_iff _ _ _ c.from_residual.ensures (too_large (2 ^ 127) digits n i (omega arith) c.loop-digit.invariant big)

pub returns-in_err-number : goal.returns-in_err-number
returns-in_err-number c =
    let digits = c.args.digits.now in
    let i = c.loop-digit.digit-index in
    let n = c.loop-digit.number in
    let big : 2 ^ 127 ≤ 10 * n + (get_or digits i 0 - 48) = omega (arith, c.in_err-number.ensures, c.from.ensures, c.in_ok-checked_mul.ensures) in
    none_iff _ _ _ c.from_residual-in_err-number.ensures (too_large (2 ^ 127) digits n i (omega arith) c.loop-digit.invariant big)
