use Rattle.std.proofs.Common.{ℕ, ◌<◌, ◌≤◌}
use Rattle.bk_lex.specs.Parts.{NoSignOfLength}
use Rattle.bk_lex.proofs.part.first_sign.Given as goal

abbrev pub invariant-loop-length : goal.invariant-loop-length
invariant-loop-length l = (l.length ≤ 4) × ((k : ℕ) → l.length < k → k ≤ 4 → NoSignOfLength k l.text)

abbrev pub decreases-loop-length : goal.decreases-loop-length
decreases-loop-length l = l.length
