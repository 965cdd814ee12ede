use Rattle.std.proofs.Common.{◌≡◌, length, take}
use Rattle.bk_calls.specs.Room.{longest_given}
use Rattle.bk_calls.proofs.room.outputs_room.Given as goal

abbrev pub invariant-loop-i : goal.invariant-loop-i
invariant-loop-i l = l.room ≡ length (longest_given l.image (take l.i l.outputs))
