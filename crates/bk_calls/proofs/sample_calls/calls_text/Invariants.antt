use Rattle.std.proofs.Common.{◌≡◌, ◌+◌, ◌-◌, ◌≤◌, string_bytes}
use Rattle.std.specs.List.{flat_map}
use Rattle.bk_calls.specs.Sample as texts
use Rattle.bk_calls.proofs.sample_calls.calls_text.Given as goal

abbrev pub invariant-loop-i : goal.invariant-loop-i
invariant-loop-i l = record { written : string_bytes l.text ≡ flat_map (texts.calls_of) (texts.numbers (l.i - 1)); within : l.i ≤ l.n + 1 }
