use Rattle.std.proofs.Common.{◌≡◌, ◌++◌, map, drop}
use Rattle.std.specs.Option.{option_map}
use Rattle.bk_scope.specs.Shown.{declared_shown, way_shown}
use Rattle.bk_infer.proofs.Members.{variable_members}
use Rattle.bk_infer.proofs.all_ways.push_variables.Given as goal

abbrev pub invariant-loop-variable : goal.invariant-loop-variable
invariant-loop-variable l = record {
  ways : map way_shown l.found.items ++ variable_members (option_map (λ g. g.value) l.group) l.place (map declared_shown (drop l.variable-index l.plan.variables.items)) ≡ map way_shown l.fn.found.items ++ variable_members (option_map (λ g. g.value) l.group) 0 (map declared_shown l.plan.variables.items);
  same : l.group ≡ l.initial.group;
}
