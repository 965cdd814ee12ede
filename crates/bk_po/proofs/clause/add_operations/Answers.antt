use Rattle.std.proofs.Common.{◌<◌, ◌++◌, length, map, ap, subst, refl}
use Rattle.bk_po.specs.declared.clause.Clause.TheVariants.{Operation}
use Rattle.bk_po.proofs.Laying.{next_number, from_start}
use Rattle.bk_po.proofs.clause.add_operations.Goals as goal

pub loop-operation-preserved : goal.loop-operation-preserved
loop-operation-preserved c =
    let less : c.loop-operation.operation < length c.args.dev.now.heads = subst (λ n. c.loop-operation.operation < n) c.operations-operation-end.ensures c.loop-operation-test.true in
    next_number Operation _ _ _ _ (length c.args.dev.now.heads) _ less c.loop-operation.invariant c.in_ok-push.ensures.items refl

pub loop-operation-init : goal.loop-operation-init
loop-operation-init c = ap (λ ks. c.args.list.now.items ++ map Operation ks) (from_start (length c.args.dev.now.heads))
