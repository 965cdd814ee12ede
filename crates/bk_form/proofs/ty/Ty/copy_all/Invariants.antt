use Rattle.std.proofs.Common.{◌≡◌, take}
use Rattle.bk_form.proofs.ty.Ty.copy_all.Given as goal

abbrev pub invariant-loop-ty : goal.invariant-loop-ty
invariant-loop-ty l = l.copies.items ≡ take l.ty-index l.types
