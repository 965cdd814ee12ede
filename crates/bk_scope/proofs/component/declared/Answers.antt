use Rattle.std.proofs.Common.{arith, rules}
use Rattle.bk_scope.proofs.Declaring.{declared-step}
use Rattle.bk_scope.specs.Shown.{refs}
use Rattle.bk_scope.proofs.component.declared.Goals as goal

pub loop-clause-preserved : goal.loop-clause-preserved
loop-clause-preserved c =
    declared-step c.args.clauses.now c.loop-clause.clause-index c.clause-item.result
    (refs c.loop-clause.found.items) (refs c.push_sets.new.found.items) (refs c.push_all.new.found.items)
    (refs c.push_all-in-loop-clause.new.found.items) (refs c.push_all-in-loop-clause-2.new.found.items) _
    (omega arith) c.clause-item.is c.loop-clause.invariant
    (search rules) (search rules) (search rules) (search rules)
