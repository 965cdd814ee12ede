use Rattle.std.proofs.Common.{◌≡◌, length, take}
use Rattle.bk_calls.specs.Room.{longest_of}
use Rattle.bk_calls.proofs.room.longest_name.Given as goal

abbrev pub invariant-loop-name : goal.invariant-loop-name
invariant-loop-name l = l.longest ≡ length (longest_of (take l.name-index l.names))
