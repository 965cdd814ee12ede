use Rattle.std.proofs.Common.{ℕ, ℤ, ◌<◌, get_or}
use Rattle.bk_print.specs.InScope.{MultipleFits}
use Rattle.bk_print.proofs.facts.multiples_in_range.Given as goal

abbrev pub invariant-loop-multiple : goal.invariant-loop-multiple
invariant-loop-multiple l = (k : ℕ) (d : ℤ × ℕ) → k < l.multiple-index → MultipleFits (get_or l.multiples k d)
