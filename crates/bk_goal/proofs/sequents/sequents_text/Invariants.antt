use Rattle.std.proofs.Common.{length, map, take}
use Rattle.bk_seq.specs.Sequents.{sequent_of}
use Rattle.bk_goal.specs.Shown.{ShowsFrom}
use Rattle.bk_goal.proofs.sequents.sequents_text.Given as goal

abbrev pub invariant-loop-index : goal.invariant-loop-index
invariant-loop-index l = ShowsFrom l.table l.brought (length l.open) 1 (map sequent_of (take l.index l.open)) l.text.items
