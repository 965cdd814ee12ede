use Rattle.std.proofs.Common.{◌≡◌, ◌+◌, ◌++◌, map, drop}
use Rattle.bk_elab_terms.specs.Visible.{visible_names}
use Rattle.bk_statics.specs.Ways.{assigned_ways}
use Rattle.bk_scope.specs.Shown.{way_shown}
use Rattle.bk_infer.proofs.ways.push_assigned.Given as goal

abbrev pub invariant-loop-index : goal.invariant-loop-index
invariant-loop-index l = map way_shown l.found.items ++ assigned_ways (visible_names l.place.names.value.items) l.place.first l.sub (l.first + l.index) (drop l.index l.names) ≡ map way_shown l.fn.found.items ++ assigned_ways (visible_names l.place.names.value.items) l.place.first l.sub l.first l.names
