use Rattle.std.proofs.Common.{◌≡◌, ◌++◌, map, drop}
use Rattle.std.specs.Option.{option_map}
use Rattle.bk_scope.specs.Shown.{refs, way_shown}
use Rattle.bk_infer.proofs.Members.{members}
use Rattle.bk_infer.proofs.group.push_by.Given as goal

abbrev pub invariant-loop-place : goal.invariant-loop-place
invariant-loop-place l = record {
  ways : map way_shown l.found.items ++ members (option_map (λ g. g.value) l.initial.group) l.place (drop l.place (refs l.names)) ≡ map way_shown l.fn.found.items ++ members (option_map (λ g. g.value) l.initial.group) 0 (refs l.names);
  same : l.group ≡ l.initial.group;
}
