use Rattle.std.proofs.Common.{arith}
use Rattle.std.specs.Option.{option_copied}
use Rattle.bk_form.specs.Formula.{btrue}
use Rattle.bk_bind.specs.Limits.{IsWithinLimits}
use Rattle.bk_wd.specs.Joining.{both}
use Rattle.bk_wd.proofs.Within.{within_both_right}
use Rattle.bk_wp.specs.Guarded.{evaluated_term, evaluated_onto}
use Rattle.bk_wp.proofs.Guarding.{within_term}
use Rattle.bk_wp.proofs.evaluation.evaluated_terms.Goals as goal

pub returns-in_err-evaluated-clause-too_large : goal.returns-in_err-evaluated-clause-too_large
returns-in_err-evaluated-clause-too_large c = λ e w.
    let table = c.args.types.now in
    let arrays = option_copied c.args.arrays in
    let p = c.loop-variable-item.result in
    let k : IsWithinLimits (both c.loop-variable.so_far (evaluated_term table arrays p.0 p.1)) = within_term table arrays c.loop-variable.so_far c.args.terms.now c.loop-variable.variable-index p c.loop-variable-item.is (omega arith) (evaluated_onto table arrays btrue c.args.terms.now) c.loop-variable.invariant w in
    let l : IsWithinLimits (evaluated_term table arrays p.0 p.1) = within_both_right c.loop-variable.so_far (evaluated_term table arrays p.0 p.1) k in
    c.in_err-evaluated.ensures.too_large (grind arith) l

pub returns-in_err-so_far-2-clause-too_large : goal.returns-in_err-so_far-2-clause-too_large
returns-in_err-so_far-2-clause-too_large c = λ e w.
    let table = c.args.types.now in
    let arrays = option_copied c.args.arrays in
    let p = c.loop-variable-item.result in
    let k : IsWithinLimits (both c.loop-variable.so_far (evaluated_term table arrays p.0 p.1)) = within_term table arrays c.loop-variable.so_far c.args.terms.now c.loop-variable.variable-index p c.loop-variable-item.is (omega arith) (evaluated_onto table arrays btrue c.args.terms.now) c.loop-variable.invariant w in
    c.in_err-so_far-2.ensures.too_large (grind arith) (rw c.in_ok-evaluated.ensures.value k)
