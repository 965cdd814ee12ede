use Rattle.std.proofs.Common.{arith, rules}
use Rattle.bk_scope.specs.Shown.{above_shown}
use Rattle.bk_scope.proofs.StandsAbove.{types_step}
use Rattle.bk_scope.proofs.above.Above.types.Goals as goal

pub loop-number-preserved : goal.loop-number-preserved
loop-number-preserved c =
    types_step c.loop-number.number (above_shown c.args.self.now).table c.loop-number.types.items c.push.new.self.items c.in_ok-type_of.field-0
    (omega arith) c.loop-number.invariant (search rules) (search rules)
