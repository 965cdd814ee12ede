use Rattle.std.proofs.Common.{◌≡◌, ◌≤◌, ◌-◌, false, drop, length}
use Rattle.bk_verbs.specs.Samples.{has_end_within}
use Rattle.bk_verbs.proofs.sample.last_line.Given as goal

-- no line ends within what stands from start on
abbrev pub invariant-loop-start : goal.invariant-loop-start
invariant-loop-start l = (l.start ≤ length l.text - 1) × (has_end_within (drop l.start l.text) ≡ false)

abbrev pub decreases-loop-start : goal.decreases-loop-start
decreases-loop-start l = l.start
