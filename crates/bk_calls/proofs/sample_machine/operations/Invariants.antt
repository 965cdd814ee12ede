use Rattle.std.proofs.Common.{◌≡◌, ◌+◌, ◌-◌, ◌≤◌, codes, string_bytes}
use Rattle.bk_calls.specs.Sample as texts
use Rattle.bk_calls.proofs.sample_machine.operations.Given as goal

abbrev pub invariant-loop-i : goal.invariant-loop-i
invariant-loop-i l = record { written : string_bytes l.list ≡ texts.list texts.machine_operations (codes " ;\n") (l.i - 1); within : l.i ≤ l.n + 1 }
