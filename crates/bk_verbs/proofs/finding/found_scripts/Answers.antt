use Rattle.std.proofs.Common.{◌≡◌, ◌⊎◌, refl, Some, List, sym, subst}
use Rattle.bk_io.specs.Files.{Files}
use Rattle.bk_status.specs.declared.table.Row.{Row}
use Rattle.bk_status.specs.Rows.{HasRows}
use Rattle.bk_cli.specs.Tasks.{find_task}
use Rattle.bk_verbs.specs.Stops.{IsOutside, StopsTask}
use Rattle.bk_verbs.proofs.Stopping.{handed_on, at_reading, at_read}
use Rattle.bk_verbs.proofs.finding.found_scripts.Goals as goal

pub returns-in_err-read-clause-cause : goal.returns-in_err-read-clause-cause
returns-in_err-read-clause-cause g c =
    handed_on c.from_residual.result c.in_err-read.field-0.0
    (λ stop. (files : Files) → g.H.Shelf.files c.args.shelf.now ≡ Some files → IsOutside stop ⊎ StopsTask files (find_task c.args.project.now) stop)
    c.from_residual.ensures.1
    (λ files told. at_reading files c.args.project.now (find_task c.args.project.now) c.in_err-read.field-0.0 (c.in_err-read.ensures.cause files told))

pub returns-in_err-table-clause-cause : goal.returns-in_err-table-clause-cause
returns-in_err-table-clause-cause g c =
    handed_on c.from_residual-in_err-table.result c.in_err-table.field-0.0
    (λ stop. (files : Files) → g.H.Shelf.files c.args.shelf.now ≡ Some files → IsOutside stop ⊎ StopsTask files (find_task c.args.project.now) stop)
    c.from_residual-in_err-table.ensures.1
    (λ files told. at_read files c.args.project.now (find_task c.args.project.now) c.in_err-table.field-0.0 c.in_ok-read.read.development c.in_ok-read.read.scripts (c.in_ok-read.ensures.told files told) c.in_err-table.ensures.cause)

-- the rows are those of the table
pub scripts_text-requires : goal.scripts_text-requires
scripts_text-requires g c = record {
  rows = subst (λ (rs : List Row). HasRows c.in_ok-read.read.development c.in_ok-read.read.scripts rs) (sym c.deref.ensures.value) c.in_ok-table.ensures.rows;
}

pub returns-in_err-text-clause-cause : goal.returns-in_err-text-clause-cause
returns-in_err-text-clause-cause g c =
    handed_on c.from_residual-in_err-text.result c.in_err-text.field-0.0
    (λ stop. (files : Files) → g.H.Shelf.files c.args.shelf.now ≡ Some files → IsOutside stop ⊎ StopsTask files (find_task c.args.project.now) stop)
    c.from_residual-in_err-text.ensures.1
    (λ files told. at_read files c.args.project.now (find_task c.args.project.now) c.in_err-text.field-0.0 c.in_ok-read.read.development c.in_ok-read.read.scripts (c.in_ok-read.ensures.told files told) c.in_err-text.ensures.cause)

pub returns-clause-told : goal.returns-clause-told
returns-clause-told g c files told = record {
  dev = c.in_ok-read.read.development;
  scripts = c.in_ok-read.read.scripts;
  reads = c.in_ok-read.ensures.told files told;
  given = (refl, c.in_ok-text.ensures.text);
}

pub returns-clause-suits : goal.returns-clause-suits
returns-clause-suits g c files told = tt
