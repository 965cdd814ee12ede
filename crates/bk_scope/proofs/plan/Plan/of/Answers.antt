use Rattle.std.proofs.Common.{map, refl, rules}
use Rattle.bk_scope.proofs.Planned.{is_plan}
use Rattle.bk_scope.specs.Shown.{above_shown, component_shown, headed_shown}
use Rattle.bk_scope.proofs.plan.Plan.of.Goals as goal

pub returns : goal.returns
returns c =
    is_plan (above_shown c.args.above) (component_shown c.args.component.now) _ c.in_ok-counts.counts (map headed_shown c.in_ok-headed.headed.items) c.in_ok-ahead.field-0 _
    c.in_ok-counts.ensures (search rules) (search rules)
    refl refl refl refl
    c.in_ok-upper.ensures (search rules) c.in_ok-globals.ensures c.in_ok-headed.ensures
    (search rules) c.in_ok-operations.ensures (search rules)
