use Rattle.std.proofs.Common.{Bool, Ok, ap}
use Rattle.bk_dev.specs.Flattened.{flattened}
use Rattle.bk_po.specs.Shown.{named_sequent}
use Rattle.bk_print.proofs.Steps.{read_fails}
use Rattle.bk_print.proofs.searching.trial_of.Goals as goal

pub returns-else-branch : goal.returns-else-branch
returns-else-branch c = λ text read. read_fails (flattened c.args.dev.now) (named_sequent c.args.obligation.now) text c.args.read.now read (c.in_ok-is_proved.ensures.other (ap (λ (b : Bool). Ok b) c.if-branch.false))
