use Rattle.std.proofs.Common.{◌≡◌, ◌-◌, ◌++◌, length, map}
use Rattle.bk_po.specs.Obligations.{numbers_below}
use Rattle.bk_po.specs.declared.clause.Clause.TheVariants.{OperationDefined}
use Rattle.bk_po.proofs.Laying.{from_on}
use Rattle.bk_po.proofs.clause.add_operations_defined.Given as goal

abbrev pub invariant-loop-operation : goal.invariant-loop-operation
invariant-loop-operation l = l.list.items ++ map OperationDefined (from_on l.operation (length l.dev.heads - l.operation)) ≡ l.initial.list.items ++ map OperationDefined (numbers_below (length l.dev.heads))
