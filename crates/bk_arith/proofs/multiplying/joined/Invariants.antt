use Rattle.std.proofs.Common.{◌≡◌, ◌++◌, take}
use Rattle.bk_arith.proofs.multiplying.joined.Given as goal

abbrev pub invariant-loop-form : goal.invariant-loop-form
invariant-loop-form l = l.list.items ≡ l.left ++ take l.form-index l.right
