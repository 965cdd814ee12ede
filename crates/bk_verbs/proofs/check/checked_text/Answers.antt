use Rattle.std.proofs.Common.{◌≡◌, ◌⊎◌, refl, Some}
use Rattle.bk_io.specs.Files.{Files}
use Rattle.bk_cli.specs.Tasks.{check_task}
use Rattle.bk_verbs.specs.Stops.{IsOutside, StopsTask}
use Rattle.bk_verbs.proofs.Stopping.{handed_on, at_reading}
use Rattle.bk_verbs.proofs.check.checked_text.Goals as goal

pub returns-in_err-read-clause-cause : goal.returns-in_err-read-clause-cause
returns-in_err-read-clause-cause g c =
    handed_on c.from_residual.result c.in_err-read.field-0.0
    (λ stop. (files : Files) → g.H.Shelf.files c.args.shelf.now ≡ Some files → IsOutside stop ⊎ StopsTask files (check_task c.args.project.now) stop)
    c.from_residual.ensures.1
    (λ files told. at_reading files c.args.project.now (check_task c.args.project.now) c.in_err-read.field-0.0 (c.in_err-read.ensures.cause files told))

pub returns-clause-told : goal.returns-clause-told
returns-clause-told g c files told = record {
  dev = c.in_ok-read.read.development;
  scripts = c.in_ok-read.read.scripts;
  reads = c.in_ok-read.ensures.told files told;
  given = (refl, c.in_ok-line.ensures);
}

pub returns-clause-suits : goal.returns-clause-suits
returns-clause-suits g c files told = tt
