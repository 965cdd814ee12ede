use Rattle.std.proofs.Common.{ℕ, ◌<◌}
use Rattle.std.specs.Prelude.{slice_get}
use Rattle.bk_auto.specs.Found.{IsOutside}
use Rattle.bk_auto.proofs.variables.is_of_set.Given as goal

abbrev pub invariant-loop-set : goal.invariant-loop-set
invariant-loop-set l = (k : ℕ) → k < l.set → IsOutside (slice_get l.table.sets k) l.text
