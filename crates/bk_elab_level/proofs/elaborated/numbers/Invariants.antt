use Rattle.std.proofs.Common.{◌≡◌, ◌+◌, ◌-◌, ◌++◌}
use Rattle.bk_statics.specs.Typings.{interval}
use Rattle.bk_elab_level.proofs.elaborated.numbers.Given as goal

abbrev pub invariant-loop-index : goal.invariant-loop-index
invariant-loop-index l = l.found.items ++ interval (l.first + l.index) (l.count - l.index) ≡ interval l.first l.count
