use Rattle.std.proofs.Common.{◌≡◌, drop}
use Rattle.bk_val.specs.Value.{values_of, are_storable}
use Rattle.bk_val.proofs.value.values_are_well_formed.Given as goal

abbrev pub invariant-loop-value : goal.invariant-loop-value
invariant-loop-value l = are_storable (values_of l.values) ≡ are_storable (values_of (drop l.value-index l.values))
