use Rattle.std.proofs.Common.{drop, ◌+◌, ◌++◌, ◌≡◌}
use Rattle.bk_elab_terms.specs.Visible.{visible_names}
use Rattle.bk_statics.specs.Plan.{entries_of}
use Rattle.bk_scope.specs.Shown.{refs}
use Rattle.bk_raw.specs.Meaning.ScopeReading.{set_names}
use Rattle.bk_scope.proofs.above.push_written_sets.Given as goal

abbrev pub invariant-loop-index : goal.invariant-loop-index
invariant-loop-index l = visible_names l.names.items ++ set_names (l.first + l.index) (entries_of (refs (drop l.index l.sets))) ≡ visible_names l.fn.names.items ++ set_names l.first (entries_of (refs l.sets))
