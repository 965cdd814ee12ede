use Rattle.std.proofs.Common.{◌≡◌, take}
use Rattle.bk_form.proofs.ty.Ty.equal_all.Given as goal

abbrev pub invariant-loop-i : goal.invariant-loop-i
invariant-loop-i l = take l.i l.types ≡ take l.i l.others
