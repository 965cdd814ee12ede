use Rattle.std.proofs.Common.{◌≡◌, length, take}
use Rattle.bk_auto.specs.NewVariables.{HasNew}
use Rattle.bk_auto.specs.Found.{numbers_from, GrewBy}
use Rattle.bk_auto.proofs.variables.add_variables.Given as goal

abbrev pub invariant-loop-ty : goal.invariant-loop-ty
invariant-loop-ty l = record {
  new : HasNew l.fn.types l.types;
  grew : GrewBy l.fn.types l.types (take l.ty-index l.bound);
  numbers : l.names.items ≡ numbers_from (length l.fn.types.variables) l.ty-index;
}
