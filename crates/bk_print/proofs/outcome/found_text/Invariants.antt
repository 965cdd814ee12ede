use Rattle.std.proofs.Common.{◌≡◌, take}
use Rattle.std.specs.List.{flat_map}
use Rattle.bk_print.specs.Found.{script_of}
use Rattle.bk_print.proofs.outcome.found_text.Given as goal

-- the scripts so far
abbrev pub invariant-loop-outcome : goal.invariant-loop-outcome
invariant-loop-outcome l = l.text.items ≡ flat_map script_of (take l.outcome-index l.outcomes)
