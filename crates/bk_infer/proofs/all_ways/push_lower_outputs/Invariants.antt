use Rattle.std.proofs.Common.{◌≡◌, ◌++◌, map, drop}
use Rattle.bk_elab_terms.specs.Visible.{visible_names}
use Rattle.bk_statics.specs.LevelOf.{lower_output_ways}
use Rattle.bk_scope.specs.Shown.{way_shown}
use Rattle.bk_infer.proofs.all_ways.push_lower_outputs.Given as goal

abbrev pub invariant-loop-output : goal.invariant-loop-output
invariant-loop-output l = map way_shown l.found.items ++ lower_output_ways (visible_names l.placed.machine_outputs.items) (drop l.output-index l.placed.operation.now.outputs) ≡ map way_shown l.fn.found.items ++ lower_output_ways (visible_names l.placed.machine_outputs.items) l.placed.operation.now.outputs
