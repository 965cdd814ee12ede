use Rattle.bk_scope.proofs.FaultReadings.{value-told}
use Rattle.bk_check_clauses.proofs.clause_fault.untyped_entry.Goals as goal

pub returns : goal.returns
returns c =
    value-told c.under.result c.args.typing.max c.args.globals.now c.args.typing.types.now c.args.entry.now.value c.in_ok-asked.asked.answer c.in_ok-asked.asked.fault c.under.ensures.max c.under.ensures.names c.under.ensures.types c.in_ok-asked.ensures
