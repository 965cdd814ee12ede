use Rattle.std.proofs.Common.{◌≡◌, ◌+◌, ◌-◌, ◌≤◌, string_bytes}
use Rattle.bk_calls.specs.Sample as texts
use Rattle.bk_calls.proofs.sample_variables.ranges.Given as goal

abbrev pub invariant-loop-i : goal.invariant-loop-i
invariant-loop-i l = record { written : string_bytes l.list ≡ texts.ranges (l.i-counter - 1); within : l.i-counter ≤ l.n + 1 }
