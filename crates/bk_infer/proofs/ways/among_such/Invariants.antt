use Rattle.std.proofs.Common.{◌≡◌, drop}
use Rattle.bk_form.specs.Role.{bind}
use Rattle.bk_elab_terms.specs.Visible.{visible_names}
use Rattle.bk_statics.specs.Typings.{numbered_old}
use Rattle.bk_statics.specs.Ways.{among_such}
use Rattle.bk_infer.proofs.ways.among_such.Given as goal

abbrev pub invariant-loop-name : goal.invariant-loop-name
invariant-loop-name l =
    among_such (visible_names l.place.names.value.items) (bind (numbered_old l.place.first l.names) (visible_names l.place.names.value.items)) l.variable (drop l.name-index l.names) l.predicate ≡ among_such (visible_names l.place.names.value.items) (bind (numbered_old l.place.first l.names) (visible_names l.place.names.value.items)) l.variable l.names l.predicate
