use Rattle.std.proofs.Common.{◌∙◌, ap, List, ◌++◌, length, get_or, replicate, arith}
use Rattle.std.specs.Borrow.{Bor}
use Rattle.bk_dev.specs.declared.kind.Home.TheVariants.{Input}
use Rattle.bk_raw.specs.Trees.ComponentTree.{RawOperation}
use Rattle.bk_statics.specs.LevelOf.{input_texts, homes_as}
use Rattle.bk_scope.specs.Shown.{refs}
use Rattle.bk_scope.proofs.Making.{joined-more, inputs-home, inputs-replicated}
use Rattle.bk_elab_level.proofs.made.push_input_homes.Goals as goal

pub loop-operation-preserved : goal.loop-operation-preserved
loop-operation-preserved c =
    let os = c.args.component.now.operations.items in
    joined-more (λ (xs : List (Bor RawOperation)). homes_as Input (input_texts (refs xs))) (λ x xs. inputs-home x.now (refs xs)) os c.loop-operation.operation-index c.operation-item.result c.loop-operation.found.items (replicate c.len.result Input) c.push_homes.new.found.items
    (c.args.found.now.items ++ homes_as Input (input_texts (refs os)))
    (omega (arith, ap length c.deref-operation-items.ensures.value)) (c.operation-item.is ∙ ap (λ (xs : List (Bor RawOperation)). get_or xs c.loop-operation.operation-index c.operation-item.result) c.deref-operation-items.ensures.value)
    (inputs-replicated c.operation-item.result.now c.len.result (omega (arith, c.len.ensures, ap (λ (o : Bor RawOperation). length o.now.inputs) c.operation.view_is))) c.in_ok-push_homes.ensures c.loop-operation.invariant
