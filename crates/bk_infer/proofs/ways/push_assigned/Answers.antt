use Rattle.std.proofs.Common.{◌++◌, map}
use Rattle.bk_elab_terms.specs.Visible.{visible_names}
use Rattle.bk_statics.specs.Ways.{assigned_ways}
use Rattle.bk_scope.specs.Shown.{way_shown}
use Rattle.bk_infer.proofs.Assigned.{assigned-pushed, shown-or-nowhere}
use Rattle.bk_infer.proofs.ways.push_assigned.Goals as goal

pub loop-index-preserved : goal.loop-index-preserved
loop-index-preserved c =
    let names = visible_names c.args.place.now.names.value.items in
    let n = c.args.place.now.first in
    assigned-pushed names n c.args.sub.now c.args.first c.loop-index.index c.in_ok-variable.variable c.args.names.now c.loop-index.found.items c.push.new.self.items c.unwrap_or.result c.in_ok-way.way
    (map way_shown c.args.found.now.items ++ assigned_ways names n c.args.sub.now c.args.first c.args.names.now) c.loop-index-test.true c.in_ok-variable.ensures c.in_ok-push.ensures.items (shown-or-nowhere c.in_ok-way.way c.unwrap_or.result c.unwrap_or.ensures) c.in_ok-way.ensures c.loop-index.invariant
