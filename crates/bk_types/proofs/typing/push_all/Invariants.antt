use Rattle.std.proofs.Common.{◌≡◌, ◌++◌, take}
use Rattle.bk_types.proofs.typing.push_all.Given as goal

abbrev pub invariant-loop-ty : goal.invariant-loop-ty
invariant-loop-ty l = l.around.items ≡ l.fn.around.items ++ take l.ty-index l.types
