use Rattle.std.proofs.Common.{sym, ◌∙◌, subst}
use Rattle.bk_status.specs.Rows.{HasRows}
use Rattle.bk_status.specs.declared.table.Table.{Table}
use Rattle.bk_prune.proofs.Ready.{some_so}
use Rattle.bk_prune.proofs.states.has_rows.Goals as goal

pub returns-in-Some : goal.returns-in-Some
returns-in-Some c = λ yes.
    let there = some_so (λ (table : Table). HasRows c.args.dev.now c.args.list.now table.rows.items) c.in_ok-table.field-0 c.in-Some.table c.in-Some.is c.in_ok-table.ensures in
    subst (HasRows c.args.dev.now c.args.list.now) (sym (c.are_same.ensures yes ∙ c.deref.ensures.value)) there
