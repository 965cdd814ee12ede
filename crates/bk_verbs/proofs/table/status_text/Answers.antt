use Rattle.std.proofs.Common.{◌≡◌, ◌⊎◌, ◌∙◌, refl, Some, ap}
use Rattle.bk_io.specs.Files.{Files}
use Rattle.bk_cli.specs.Tasks.{status_task}
use Rattle.bk_verbs.specs.Stops.{IsOutside, StopsTask}
use Rattle.bk_verbs.proofs.Stopping.{handed_on, at_reading, at_read}
use Rattle.bk_report.specs.Table.{table_text}
use Rattle.bk_verbs.proofs.table.status_text.Goals as goal

pub returns-in_err-read-clause-cause : goal.returns-in_err-read-clause-cause
returns-in_err-read-clause-cause g c =
    handed_on c.from_residual.result c.in_err-read.field-0.0
    (λ stop. (files : Files) → g.H.Shelf.files c.args.shelf.now ≡ Some files → IsOutside stop ⊎ StopsTask files (status_task c.args.project.now) stop)
    c.from_residual.ensures.1
    (λ files told. at_reading files c.args.project.now (status_task c.args.project.now) c.in_err-read.field-0.0 (c.in_err-read.ensures.cause files told))

pub returns-in_err-table-clause-cause : goal.returns-in_err-table-clause-cause
returns-in_err-table-clause-cause g c =
    handed_on c.from_residual-in_err-table.result c.in_err-table.field-0.0
    (λ stop. (files : Files) → g.H.Shelf.files c.args.shelf.now ≡ Some files → IsOutside stop ⊎ StopsTask files (status_task c.args.project.now) stop)
    c.from_residual-in_err-table.ensures.1
    (λ files told. at_read files c.args.project.now (status_task c.args.project.now) c.in_err-table.field-0.0 c.in_ok-read.read.development c.in_ok-read.read.scripts (c.in_ok-read.ensures.told files told) c.in_err-table.ensures.cause)

pub returns-clause-told : goal.returns-clause-told
returns-clause-told g c files told = record {
  dev = c.in_ok-read.read.development;
  scripts = c.in_ok-read.read.scripts;
  reads = c.in_ok-read.ensures.told files told;
  given = (
    refl,
    record {
      within = c.in_ok-table.ensures.within;
      rows = c.in_ok-table.table.rows.items;
      are = c.in_ok-table.ensures.rows;
      text_is = c.in_ok-text.ensures ∙ ap table_text c.deref.ensures.value;
    },
  );
}

pub returns-clause-suits : goal.returns-clause-suits
returns-clause-suits g c files told = tt
