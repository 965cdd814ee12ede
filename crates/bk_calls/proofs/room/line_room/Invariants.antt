use Rattle.std.proofs.Common.{◌≡◌, [], ◌∷◌, ◌++◌, length, take, map}
use Rattle.std.specs.Prelude.{codes}
use Rattle.bk_calls.specs.Room.{longest_of, longest_closing, longest_stop, longest_reply}
use Rattle.bk_calls.proofs.room.line_room.Given as goal

abbrev pub invariant-loop-entry : goal.invariant-loop-entry
invariant-loop-entry l =
    l.room ≡ length (longest_of ((longest_closing ∷ (codes "initialisation" ++ longest_stop) ∷ []) ++ map (longest_reply l.image) (take l.entry-index l.image.ops)))
