use Rattle.std.proofs.Common.{◌≡◌, ◌++◌, drop}
use Rattle.bk_elab_terms.specs.Visible.{typing_of, visible_names}
use Rattle.bk_statics.specs.LevelOf.{all_stated}
use Rattle.bk_scope.specs.Shown.{refs}
use Rattle.bk_elab_level.proofs.made.all_stated.Given as goal

abbrev pub invariant-loop-predicate : goal.invariant-loop-predicate
invariant-loop-predicate l = l.found.items ++ all_stated l.typing.max (typing_of l.typing.types.now) (visible_names l.names) (refs (drop l.predicate-index l.predicates)) ≡ all_stated l.typing.max (typing_of l.typing.types.now) (visible_names l.names) (refs l.predicates)
