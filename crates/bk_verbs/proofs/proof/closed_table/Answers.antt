use Rattle.std.proofs.Common.{◌⊎◌, ◌∙◌, ap, sym}
use Rattle.std.specs.Option.{option_copied}
use Rattle.bk_status.proofs.Tables.{closed_tables_prove}
use Rattle.bk_verbs.specs.Stops.{IsOutside, StopsAtObligations}
use Rattle.bk_verbs.proofs.Stopping.{handed_on, past_limits}
use Rattle.bk_verbs.proofs.proof.closed_table.Goals as goal

pub returns-in_err-table-clause-cause : goal.returns-in_err-table-clause-cause
returns-in_err-table-clause-cause c =
    handed_on c.from_residual.result c.in_err-table.field-0.0
    (λ stop. IsOutside stop ⊎ StopsAtObligations c.args.name.now c.args.project.now.development c.args.project.now.scripts stop)
    c.from_residual.ensures.1
    (past_limits c.args.name.now c.args.project.now.development c.args.project.now.scripts c.in_err-table.field-0.0 c.in_err-table.ensures.cause)

pub returns-in-None-clause-ok : goal.returns-in-None-clause-ok
returns-in-None-clause-ok c =
    let dev = c.args.project.now.development in
    let scripts = c.args.project.now.scripts in
    record {
      within = c.in_ok-table.ensures.within;
      proved = closed_tables_prove dev scripts c.in_ok-table.table.rows.items c.in_ok-table.ensures.rows (sym c.first_open.ensures ∙ ap option_copied c.in-None.is);
    }
