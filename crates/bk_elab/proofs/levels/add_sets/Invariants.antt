use Rattle.std.proofs.Common.{◌≡◌, take}
use Rattle.bk_elab.specs.Answered.{with_sets}
use Rattle.bk_elab.proofs.levels.add_sets.Given as goal

abbrev pub invariant-loop-set : goal.invariant-loop-set
invariant-loop-set l = l.table ≡ with_sets l.fn.table (take l.set-index l.sets)
