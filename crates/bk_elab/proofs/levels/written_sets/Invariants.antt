use Rattle.std.proofs.Common.{◌≡◌, ◌++◌, drop}
use Rattle.bk_statics.specs.Plan.{entries_of}
use Rattle.bk_scope.specs.Shown.{refs}
use Rattle.bk_elab.proofs.levels.written_sets.Given as goal

abbrev pub invariant-loop-set : goal.invariant-loop-set
invariant-loop-set l = l.found.items ++ entries_of (refs (drop l.set-index l.sets)) ≡ entries_of (refs l.sets)
