use Rattle.std.proofs.Common.{drop, ◌++◌, ◌≡◌}
use Rattle.bk_elab_terms.specs.Visible.{visible_names}
use Rattle.bk_scope.specs.Shown.{above_shown}
use Rattle.bk_raw.specs.Meaning.ScopeReading.{set_names}
use Rattle.bk_scope.proofs.above.Above.globals.Given as goal

abbrev pub invariant-loop-set : goal.invariant-loop-set
invariant-loop-set l = visible_names l.names.items ++ set_names l.set (drop l.set (above_shown l.self).table.sets) ≡ set_names 0 (above_shown l.self).table.sets
