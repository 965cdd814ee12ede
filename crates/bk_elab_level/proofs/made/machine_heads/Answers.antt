use Rattle.std.proofs.Common.{ℕ, ◌∙◌, ap, [], ◌∷◌, ◌+◌, length, arith}
use Rattle.std.specs.Borrow.{Bor}
use Rattle.bk_raw.specs.Trees.ComponentTree.{RawOperation}
use Rattle.bk_statics.specs.Plan.{machine_heads}
use Rattle.bk_scope.specs.Shown.{refs}
use Rattle.bk_scope.proofs.Making.{heads-more}
use Rattle.bk_elab_level.proofs.made.machine_heads.Goals as goal

pub loop-operation-preserved : goal.loop-operation-preserved
loop-operation-preserved c =
    heads-more c.args.operations.now c.loop-operation.operation-index c.operation-item.result c.loop-operation.next c.in_ok-next.next c.loop-operation.found.items (c.in_ok-head_of.field-0 ∷ []) c.push.new.self.items (machine_heads c.args.first (refs c.args.operations.now))
    c.loop-operation-test.true c.operation-item.is (c.in_ok-next.ensures ∙ ap (λ (n : ℕ). c.loop-operation.next + n) (omega (arith, c.len.ensures, ap (λ (o : Bor RawOperation). length o.now.inputs) c.operation.view_is))) c.in_ok-head_of.ensures c.in_ok-push.ensures.items c.loop-operation.invariant
