use Rattle.std.proofs.Common.{◌≡◌, ◌++◌, drop}
use Rattle.bk_scope.specs.Shown.{refs}
use Rattle.bk_infer.proofs.ways.references.Given as goal

abbrev pub invariant-loop-name : goal.invariant-loop-name
invariant-loop-name l = refs l.found.items ++ drop l.name-index l.names ≡ l.names
