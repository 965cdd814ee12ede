use Rattle.std.proofs.Common.{◌≡◌, ◌++◌, drop}
use Rattle.bk_elab_terms.specs.Visible.{typing_of, visible_names}
use Rattle.bk_statics.specs.LevelOf.{values_made}
use Rattle.bk_scope.specs.Shown.{refs}
use Rattle.bk_check_clauses.proofs.values.values_made.Given as goal

abbrev pub invariant-loop-entry : goal.invariant-loop-entry
invariant-loop-entry l = l.found.items ++ values_made l.typing.max (typing_of l.typing.types.now) (visible_names l.globals) (refs (drop l.entry-index l.values)) ≡ values_made l.typing.max (typing_of l.typing.types.now) (visible_names l.globals) (refs l.values)
