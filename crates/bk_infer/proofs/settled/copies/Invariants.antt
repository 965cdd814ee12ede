use Rattle.std.proofs.Common.{◌≡◌, ◌++◌, take, drop}
use Rattle.bk_infer.proofs.settled.copies.Given as goal

abbrev pub invariant-loop-ty : goal.invariant-loop-ty
invariant-loop-ty l = l.found.items ++ drop l.ty-index (take l.count l.typing.types.now) ≡ take l.count l.typing.types.now
