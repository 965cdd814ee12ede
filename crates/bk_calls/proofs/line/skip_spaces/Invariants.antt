use Rattle.std.proofs.Common.{◌≡◌, length}
use Rattle.bk_calls.specs.Reading.{skip_spaces}
use Rattle.bk_calls.proofs.line.skip_spaces.Given as goal

abbrev pub invariant-loop-behind : goal.invariant-loop-behind
invariant-loop-behind l = skip_spaces l.rest ≡ skip_spaces l.fn.text

abbrev pub decreases-loop-behind : goal.decreases-loop-behind
decreases-loop-behind l = length l.rest
