use Rattle.std.proofs.Common.{drop, arith, rules}
use Rattle.bk_elab_terms.specs.Visible.{visible_names}
use Rattle.bk_scope.specs.Shown.{above_shown}
use Rattle.bk_scope.proofs.StandsAbove.{constants_step, constants_stop, constants_end}
use Rattle.bk_scope.proofs.above.Above.push_constants.Goals as goal

pub returns-in_default : goal.returns-in_default
returns-in_default c =
    constants_stop c.loop-number.number (above_shown c.args.self.now).homes (drop c.loop-number.number (above_shown c.args.self.now).table.variables) (visible_names c.loop-number.names.items) _ (search rules) c.loop-number.invariant

pub loop-number-preserved : goal.loop-number-preserved
loop-number-preserved c =
    constants_step c.loop-number.number (above_shown c.args.self.now).table (above_shown c.args.self.now).homes c.in-Some.home (visible_names c.loop-number.names.items) (visible_names c.push_constant.new.names.items) _
    (omega arith) (search rules) c.loop-number.invariant (search rules)

pub returns : goal.returns
returns c =
    constants_end c.loop-number.number (above_shown c.args.self.now).homes (above_shown c.args.self.now).table.variables (visible_names c.loop-number.names.items) _ (omega arith) c.loop-number.invariant
