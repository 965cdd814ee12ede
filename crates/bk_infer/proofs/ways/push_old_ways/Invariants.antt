use Rattle.std.proofs.Common.{◌≡◌, ◌++◌, map, drop}
use Rattle.bk_elab_terms.specs.Visible.{visible_names}
use Rattle.bk_statics.specs.Ways.{old_ways}
use Rattle.bk_scope.specs.Shown.{way_shown}
use Rattle.bk_infer.proofs.ways.push_old_ways.Given as goal

abbrev pub invariant-loop-name : goal.invariant-loop-name
invariant-loop-name l = map way_shown l.found.items ++ old_ways (visible_names l.place.names.value.items) (drop l.name-index l.names) ≡ map way_shown l.fn.found.items ++ old_ways (visible_names l.place.names.value.items) l.names
