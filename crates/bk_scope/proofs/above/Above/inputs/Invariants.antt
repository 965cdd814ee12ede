use Rattle.std.proofs.Common.{drop, ◌++◌, ◌≡◌}
use Rattle.bk_elab_terms.specs.Visible.{visible_names}
use Rattle.bk_statics.specs.Above.{inputs_named}
use Rattle.bk_scope.specs.Shown.{above_shown}
use Rattle.bk_scope.proofs.above.Above.inputs.Given as goal

abbrev pub invariant-loop-input : goal.invariant-loop-input
invariant-loop-input l = visible_names l.names.items ++ inputs_named (above_shown l.self).table (drop l.input-index l.inputs) ≡ inputs_named (above_shown l.self).table l.inputs
