use Rattle.std.proofs.Common.{ap, length, arith}
use Rattle.bk_code.specs.declared.image.CellKind.TheVariants.{Integer}
use Rattle.bk_calls.proofs.Outputs.{separator_is}
use Rattle.bk_calls.proofs.Lengths.{given_next}
use Rattle.bk_calls.proofs.room.outputs_room.Goals as goal

pub loop-i-preserved : goal.loop-i-preserved
loop-i-preserved c =
    let sign = ap length (separator_is c.loop-i.i c.separator.result.now c.separator.ensures.first c.separator.ensures.other) in
    let next = given_next c.args.image.now c.args.outputs.now c.loop-i.i record { kind = Integer; slot = 0 } (omega arith) in
    let before = c.loop-i.invariant in
    let first = c.in_ok-checked_add.ensures in
    let second = c.in_ok-room.ensures in
    omega arith
