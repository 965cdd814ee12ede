use Rattle.std.proofs.Common.{◌≡◌, ◌+◌, ◌++◌, drop}
use Rattle.bk_elab_terms.specs.Visible.{visible_names}
use Rattle.bk_statics.specs.Typings.{numbered}
use Rattle.bk_scope.proofs.plan.numbered.Given as goal

abbrev pub invariant-loop-index : goal.invariant-loop-index
invariant-loop-index l = visible_names l.found.items ++ numbered (l.first + l.index) (drop l.index l.names) ≡ numbered l.first l.names
