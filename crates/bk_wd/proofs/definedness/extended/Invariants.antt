use Rattle.std.proofs.Common.{◌≡◌, ◌++◌, drop}
use Rattle.bk_wd.proofs.definedness.extended.Given as goal

abbrev pub invariant-loop-ty : goal.invariant-loop-ty
invariant-loop-ty l = l.all.items ++ drop l.ty-index l.bound ≡ l.around ++ l.bound
