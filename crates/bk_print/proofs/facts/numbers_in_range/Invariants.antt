use Rattle.std.proofs.Common.{ℕ, ◌<◌, get_or}
use Rattle.bk_print.specs.Readable.{IsNumber}
use Rattle.bk_print.proofs.facts.numbers_in_range.Given as goal

abbrev pub invariant-loop-number : goal.invariant-loop-number
invariant-loop-number l = (k : ℕ) (d : ℕ) → k < l.number-index → IsNumber (get_or l.numbers k d)
