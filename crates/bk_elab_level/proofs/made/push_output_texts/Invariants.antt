use Rattle.std.proofs.Common.{◌≡◌, ◌++◌, map, drop}
use Rattle.bk_statics.specs.LevelOf.{output_texts}
use Rattle.bk_scope.specs.Shown.{placed_shown}
use Rattle.bk_elab_level.proofs.made.push_output_texts.Given as goal

abbrev pub invariant-loop-placed : goal.invariant-loop-placed
invariant-loop-placed l = l.found.items ++ output_texts l.level (map (λ o. o.headed) (map placed_shown (drop l.placed-index l.operations))) ≡ l.fn.found.items ++ output_texts l.level (map (λ o. o.headed) (map placed_shown l.operations))
