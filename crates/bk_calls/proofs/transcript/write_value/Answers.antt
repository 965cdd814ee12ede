use Rattle.std.proofs.Common.{◌+◌, ◌≤◌, length, sym, subst, [], slice_index_or, arith}
use Rattle.bk_code.specs.declared.image.CellKind.{CellKind}
use Rattle.bk_calls.specs.Room.{longest_value}
use Rattle.bk_calls.proofs.Lengths.{number_within, element_within, value_length}
use Rattle.bk_calls.proofs.transcript.write_value.Goals as goal

pub write-requires : goal.write-requires
write-requires c =
    let line = c.args.line.now in
    let room = subst (λ (kind : CellKind). length line.bytes + length (longest_value c.args.image.now kind) ≤ line.room) c.in-Set.is c.requires in
    omega (arith, element_within (slice_index_or c.args.image.now.sets c.in-Set.set []) _ c.in-Some.name.now (sym c.in-Some.ensures))

pub write_integer-requires-in-None : goal.write_integer-requires-in-None
write_integer-requires-in-None c =
    let line = c.args.line.now in
    let room = subst (λ (kind : CellKind). length line.bytes + length (longest_value c.args.image.now kind) ≤ line.room) c.in-Set.is c.requires in
    omega (arith, number_within (slice_index_or c.args.image.now.sets c.in-Set.set []))

pub returns-in-Some-clause-short : goal.returns-in-Some-clause-short
returns-in-Some-clause-short c = value_length c.args.image.now c.args.kind c.args.value c.ranges.value

pub returns-in-None-clause-short : goal.returns-in-None-clause-short
returns-in-None-clause-short c = value_length c.args.image.now c.args.kind c.args.value c.ranges.value
