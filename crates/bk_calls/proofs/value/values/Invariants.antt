use Rattle.std.proofs.Common.{◌≡◌, map}
use Rattle.bk_calls.specs.Held.{held}
use Rattle.bk_calls.specs.Reading.{values_of}
use Rattle.bk_calls.proofs.Kept.{behind_numbers, values_from}
use Rattle.bk_calls.proofs.value.values.Given as goal

abbrev pub invariant-loop-i : goal.invariant-loop-i
invariant-loop-i l = behind_numbers l.values.items (values_from l.image l.i l.inputs l.arguments) ≡ values_of l.image l.inputs (map held l.arguments)
