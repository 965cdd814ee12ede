use Rattle.std.proofs.Common.{◌≡◌, ◌++◌, [], ◌∙◌, cond, map, arith}
use Rattle.std.proofs.lemmas.Grind.{common_steps}
use Rattle.bk_statics.specs.Components.{is_machine, initialisation}
use Rattle.bk_statics.specs.LevelOf.{variable_ways, all_input_ways, all_output_ways, all_binder_ways}
use Rattle.bk_statics.specs.Plan.{fresh, scope}
use Rattle.bk_statics.specs.Ways.{ways_by, ways}
use Rattle.bk_scope.specs.Shown.{component_shown, plan_shown, placed_shown, way_shown}
use Rattle.bk_infer.proofs.AllWays.{all-ways, six-behind}
use Rattle.bk_infer.proofs.all_ways.all_ways.Goals as goal

pub returns : goal.returns
returns c = λ above h.
    let p = plan_shown c.args.plan.now in
    let parts = component_shown c.args.component.now in
    let os = map placed_shown c.args.plan.now.operations.items in
    let by_properties : map way_shown c.push_by.new.found.items ≡ [] ++ ways_by p.globals parts.properties parts.constants = grind (arith, common_steps) in
    let started : map way_shown c.push_ways.new.found.items ≡ map way_shown c.push_outputs.new.found.items ++ ways (scope p) p.binders_at (initialisation parts) = grind (arith, common_steps) in
    six-behind [] (ways_by p.globals parts.properties parts.constants) (variable_ways (p.upper ++ p.globals) parts.invariant (fresh p.upper parts.variables) 0 p.variables) (cond (is_machine parts.kind) (all_input_ways p os) []) (all_output_ways parts.kind p os) (ways (scope p) p.binders_at (initialisation parts)) (all_binder_ways p os)
    (map way_shown c.push_by.new.found.items) (map way_shown c.push_variables.new.found.items) (map way_shown c.push_new_inputs.new.found.items) (map way_shown c.push_outputs.new.found.items) (map way_shown c.push_ways.new.found.items) (map way_shown c.push_binders.new.found.items)
    by_properties c.in_ok-push_variables.ensures c.in_ok-push_new_inputs.ensures c.in_ok-push_outputs.ensures started c.in_ok-push_binders.ensures
    ∙ all-ways c.args.plan.now above parts h
