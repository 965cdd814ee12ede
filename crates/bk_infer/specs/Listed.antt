-- Ways that are listed.
use Rattle.std.specs.Prelude.{◌≡◌, ◌++◌, List, map}
use Rattle.bk_dev.specs.Development.{Development}
use Rattle.bk_statics.specs.Ways.{Way as WayMeant}
use Rattle.bk_statics.specs.LevelOf.{all_ways}
use Rattle.bk_statics.specs.Plan.{plan as plan_of}
use Rattle.bk_scope.specs.declared.component.Component.{Component}
use Rattle.bk_scope.specs.declared.plan.Plan.{Plan}
use Rattle.bk_scope.specs.declared.way.Way.{Way}
use Rattle.bk_scope.specs.Shown.{component_shown, way_shown, IsPlanOf}

-- what was listed before, with more ways after it
abbrev pub ListsMore : List Way → List WayMeant → List Way → Type 0
ListsMore old more new = map way_shown new ≡ map way_shown old ++ more

-- the ways of all names that the component declares, where the plan is its plan, whatever it stands below
abbrev pub AreAllWays : Plan → Component → List Way → Type 0
AreAllWays p c ways = (above : Development) → IsPlanOf p above (component_shown c) →
    map way_shown ways ≡ all_ways (plan_of above (component_shown c)) (component_shown c)
