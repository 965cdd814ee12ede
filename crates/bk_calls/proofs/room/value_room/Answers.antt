use Rattle.std.proofs.Common.{[], slice_index_or, arith}
use Rattle.bk_calls.specs.Room.{longest_number}
use Rattle.bk_calls.proofs.Lengths.{longest_more}
use Rattle.bk_calls.proofs.room.value_room.Goals as goal

pub returns-in-Set : goal.returns-in-Set
returns-in-Set c =
    rw c.in-Set.is (grind (arith, longest_more longest_number (slice_index_or c.args.image.now.sets c.in-Set.set [])))
