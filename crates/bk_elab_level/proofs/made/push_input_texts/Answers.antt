use Rattle.std.proofs.Common.{◌∙◌, ap, sym, List, ◌++◌, length, get_or, arith}
use Rattle.std.specs.Borrow.{Bor}
use Rattle.std.proofs.lemmas.List.{append-nil}
use Rattle.bk_raw.specs.Trees.ComponentTree.{RawOperation}
use Rattle.bk_raw.specs.declared.term.RawName.{RawName}
use Rattle.bk_statics.specs.Binders.{texts}
use Rattle.bk_statics.specs.LevelOf.{input_texts}
use Rattle.bk_scope.specs.Shown.{refs}
use Rattle.bk_scope.proofs.Making.{joined-more, inputs-first}
use Rattle.bk_elab_level.proofs.made.push_input_texts.Goals as goal

pub loop-operation-preserved : goal.loop-operation-preserved
loop-operation-preserved c =
    let os = c.args.component.now.operations.items in
    joined-more (λ (xs : List (Bor RawOperation)). input_texts (refs xs)) (λ x xs. inputs-first x.now (refs xs)) os c.loop-operation.operation-index c.operation-item.result c.loop-operation.found.items (texts c.deref.result.now) c.push_texts.new.found.items
    (c.args.found.now.items ++ input_texts (refs os))
    (omega (arith, ap length c.deref-operation-items.ensures.value)) (c.operation-item.is ∙ ap (λ (xs : List (Bor RawOperation)). get_or xs c.loop-operation.operation-index c.operation-item.result) c.deref-operation-items.ensures.value)
    (ap (λ (xs : List RawName). texts xs) (c.deref.ensures.value ∙ ap (λ (o : Bor RawOperation). o.now.inputs) c.operation.view_is) ∙ sym (append-nil (texts c.operation-item.result.now.inputs))) c.in_ok-push_texts.ensures c.loop-operation.invariant
