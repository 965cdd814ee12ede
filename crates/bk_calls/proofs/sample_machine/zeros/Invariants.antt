use Rattle.std.proofs.Common.{◌≡◌, ◌+◌, ◌-◌, ◌≤◌, string_bytes}
use Rattle.bk_calls.specs.Sample as texts
use Rattle.bk_calls.proofs.sample_machine.zeros.Given as goal

abbrev pub invariant-loop-i : goal.invariant-loop-i
invariant-loop-i l = record { written : string_bytes l.list ≡ texts.zeros (l.i - 1); within : l.i ≤ l.n + 1 }
