use Rattle.std.proofs.Common.{◌≡◌, ◌+◌, length, drop}
use Rattle.bk_dev.specs.Flattened.{copied_in_levels}
use Rattle.bk_elab.proofs.room.behind_levels.Given as goal

abbrev pub invariant-loop-level : goal.invariant-loop-level
invariant-loop-level l = l.number + length (copied_in_levels (drop l.level-index l.levels)) ≡ l.first + length (copied_in_levels l.levels)
