use Rattle.std.proofs.Common.{IsTrue, take}
use Rattle.bk_form.specs.Storable.{are_storable_types}
use Rattle.bk_form.proofs.ty.Ty.all_numbers_fit.Given as goal

abbrev pub invariant-loop-ty : goal.invariant-loop-ty
invariant-loop-ty l = IsTrue (are_storable_types (take l.ty-index l.types))
