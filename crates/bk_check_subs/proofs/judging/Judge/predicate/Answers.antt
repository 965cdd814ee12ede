use Rattle.bk_scope.proofs.FaultReadings.{predicate-told}
use Rattle.bk_check_subs.proofs.judging.Judge.predicate.Goals as goal

pub returns : goal.returns
returns c =
    predicate-told c.under.result c.args.self.now.typing.max c.args.names.now c.args.self.now.typing.types.now c.args.predicate.now c.in_ok-asked.asked.answer c.in_ok-asked.asked.fault
    c.under.ensures.max c.under.ensures.names c.under.ensures.types c.in_ok-asked.ensures
