use Rattle.std.proofs.Common.{ℕ, ℤ, ◌<◌, ◌≤◌, get_or}
use Rattle.std.specs.Int.RustNames.{unsigned_abs}
use Rattle.bk_auto.proofs.arithmetic.are_at_most.Given as goal

abbrev pub invariant-loop-number : goal.invariant-loop-number
invariant-loop-number l = (k : ℕ) (d : ℤ) → k < l.number-index → unsigned_abs (get_or l.numbers k d) ≤ l.greatest
