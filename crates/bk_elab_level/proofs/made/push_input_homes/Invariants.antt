use Rattle.std.proofs.Common.{◌≡◌, ◌++◌, drop}
use Rattle.bk_dev.specs.declared.kind.Home.TheVariants.{Input}
use Rattle.bk_statics.specs.LevelOf.{input_texts, homes_as}
use Rattle.bk_scope.specs.Shown.{refs}
use Rattle.bk_elab_level.proofs.made.push_input_homes.Given as goal

abbrev pub invariant-loop-operation : goal.invariant-loop-operation
invariant-loop-operation l = l.found.items ++ homes_as Input (input_texts (refs (drop l.operation-index l.component.operations.items))) ≡ l.fn.found.items ++ homes_as Input (input_texts (refs l.component.operations.items))
