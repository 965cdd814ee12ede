use Rattle.std.proofs.Common.{◌≡◌, ◌++◌, drop}
use Rattle.bk_statics.specs.SubFaults.{outside}
use Rattle.bk_check_subs.specs.Written.{writes_shown}
use Rattle.bk_check_subs.proofs.left.push_outside.Given as goal

abbrev pub invariant-loop-write : goal.invariant-loop-write
invariant-loop-write l = writes_shown l.found.items ++ outside l.own.first l.own.count (writes_shown (drop l.write-index l.inside)) ≡ writes_shown l.fn.found.items ++ outside l.own.first l.own.count (writes_shown l.inside)
