use Rattle.std.proofs.Common.{◌≡◌, ◌⊎◌, ◌∙◌, refl, Some, map, ap}
use Rattle.bk_io.specs.Files.{Files}
use Rattle.bk_dev.specs.Flattened.{flattened}
use Rattle.bk_po.specs.Shown.{named_sequent}
use Rattle.bk_cli.specs.Tasks.{po_task}
use Rattle.bk_verbs.specs.Stops.{IsOutside, StopsTask}
use Rattle.bk_verbs.proofs.Stopping.{handed_on, at_reading, at_read}
use Rattle.bk_report.specs.Obligations.{obligations_text}
use Rattle.bk_verbs.proofs.obligations.shown_obligations.Goals as goal

pub returns-in_err-read-clause-cause : goal.returns-in_err-read-clause-cause
returns-in_err-read-clause-cause g c =
    handed_on c.from_residual.result c.in_err-read.field-0.0
    (λ stop. (files : Files) → g.H.Shelf.files c.args.shelf.now ≡ Some files → IsOutside stop ⊎ StopsTask files (po_task c.args.project.now) stop)
    c.from_residual.ensures.1
    (λ files told. at_reading files c.args.project.now (po_task c.args.project.now) c.in_err-read.field-0.0 (c.in_err-read.ensures.cause files told))

pub returns-in_err-list-clause-cause : goal.returns-in_err-list-clause-cause
returns-in_err-list-clause-cause g c =
    handed_on c.from_residual-in_err-list.result c.in_err-list.field-0.0
    (λ stop. (files : Files) → g.H.Shelf.files c.args.shelf.now ≡ Some files → IsOutside stop ⊎ StopsTask files (po_task c.args.project.now) stop)
    c.from_residual-in_err-list.ensures.1
    (λ files told. at_read files c.args.project.now (po_task c.args.project.now) c.in_err-list.field-0.0 c.in_ok-read.read.development c.in_ok-read.read.scripts (c.in_ok-read.ensures.told files told) c.in_err-list.ensures.cause)

pub returns-clause-told : goal.returns-clause-told
returns-clause-told g c files told = record {
  dev = c.in_ok-read.read.development;
  scripts = c.in_ok-read.read.scripts;
  reads = c.in_ok-read.ensures.told files told;
  given = (
    refl,
    record {
      within = c.in_ok-list.ensures.within;
      text_is =
          ap (λ t. obligations_text t (map named_sequent c.in_ok-list.list.items)) c.in_ok-table.ensures ∙ ap (obligations_text (flattened c.in_ok-read.read.development).table) c.in_ok-list.ensures.value;
    },
  );
}

pub returns-clause-suits : goal.returns-clause-suits
returns-clause-suits g c files told =
    (c.in_ok-read.read.development, c.in_ok-read.read.scripts, c.in_ok-read.ensures.told files told, c.in_ok-list.ensures.within, c.in_ok-table.ensures, c.in_ok-list.ensures.value)
