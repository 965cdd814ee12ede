use Rattle.bk_status.specs.Rows.{HasRows}
use Rattle.bk_status.specs.declared.table.Table.{Table}
use Rattle.bk_prune.proofs.Ready.{has_same_rows, some_so}
use Rattle.bk_prune.proofs.states.have_same_rows.Goals as goal

pub returns-in-Some : goal.returns-in-Some
returns-in-Some c =
    let there = some_so (λ (table : Table). HasRows c.args.dev.now c.args.before.now table.rows.items) c.in_ok-old.field-0 c.in-Some.old c.in-Some.is c.in_ok-old.ensures in
    has_same_rows c.args.dev.now c.args.before.now c.args.after.now c.in-Some.old.rows.items c.deref.result.now c.deref.ensures.value there c.has_rows.result c.has_rows.ensures
