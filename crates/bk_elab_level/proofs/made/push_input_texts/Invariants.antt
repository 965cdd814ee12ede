use Rattle.std.proofs.Common.{◌≡◌, ◌++◌, drop}
use Rattle.bk_statics.specs.LevelOf.{input_texts}
use Rattle.bk_scope.specs.Shown.{refs}
use Rattle.bk_elab_level.proofs.made.push_input_texts.Given as goal

abbrev pub invariant-loop-operation : goal.invariant-loop-operation
invariant-loop-operation l = l.found.items ++ input_texts (refs (drop l.operation-index l.component.operations.items)) ≡ l.fn.found.items ++ input_texts (refs l.component.operations.items)
