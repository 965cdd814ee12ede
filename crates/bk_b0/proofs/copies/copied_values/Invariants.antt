use Rattle.std.proofs.Common.{◌≡◌, take}
use Rattle.bk_b0.proofs.copies.copied_values.Given as goal

abbrev pub invariant-loop-constant : goal.invariant-loop-constant
invariant-loop-constant l = l.copies.items ≡ take l.constant-index l.values
