use Rattle.bk_scope.proofs.FaultLists.{within-then, within-else}
use Rattle.bk_check_subs.proofs.left.Interval.has.Goals as goal

pub returns-then-number-self : goal.returns-then-number-self
returns-then-number-self c = within-then c.args.self.now.first c.args.self.now.count c.args.number c.if-number-self.true

pub returns-else-number-self : goal.returns-else-number-self
returns-else-number-self c = within-else c.args.self.now.first c.args.self.now.count c.args.number c.if-number-self.false
