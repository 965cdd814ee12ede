use Rattle.std.proofs.Common.{◌≡◌, ◌⊎◌, ◌∙◌, Some, rules}
use Rattle.bk_cli.specs.Tasks.{status_task}
use Rattle.bk_io.specs.Files.{Files}
use Rattle.bk_verbs.specs.Causes.{IsOfReading}
use Rattle.bk_verbs.specs.Stops.{IsOutside, StopsPastLimits, StopsTask}
use Rattle.bk_verbs.proofs.Stopping.{widen, handed_on, checks_read}
use Rattle.bk_proof_program.proofs.Causes.{at_project, at_limits}
use Rattle.bk_proof_program.proofs.project.read_whole.Goals as goal

pub returns-in_err-project-clause-cause : goal.returns-in_err-project-clause-cause
returns-in_err-project-clause-cause g c =
    handed_on c.from_residual.result c.in_err-project.field-0.0
    (λ stop. (files : Files) → g.H.Shelf.files c.args.shelf.now ≡ Some files → IsOutside stop ⊎ StopsTask files (status_task c.args.name.now) stop)
    c.from_residual.ensures.1
    (λ files told. at_project files c.args.name.now c.in_err-project.field-0.0 (c.in_err-project.ensures.cause files told))

pub returns-in_err-files-clause-cause : goal.returns-in_err-files-clause-cause
returns-in_err-files-clause-cause g c =
    handed_on c.from_residual-in_err-files.result c.in_err-files.field-0.0
    (λ stop. (files : Files) → g.H.Shelf.files c.args.shelf.now ≡ Some files → IsOutside stop ⊎ StopsTask files (status_task c.args.name.now) stop)
    c.from_residual-in_err-files.ensures.1
    (λ files told. at_project files c.args.name.now c.in_err-files.field-0.0 (c.in_err-files.ensures.cause files (c.read_project.ensures.files ∙ told)))

pub returns-in_err-list-clause-cause : goal.returns-in_err-list-clause-cause
returns-in_err-list-clause-cause g c =
    widen c.from_residual-in_err-list.result
    (λ stop. IsOutside stop ⊎ StopsPastLimits c.args.name.now c.in_ok-project.project.development stop)
    (λ stop. (files : Files) → g.H.Shelf.files c.args.shelf.now ≡ Some files → IsOutside stop ⊎ StopsTask files (status_task c.args.name.now) stop)
    (search rules)
    (λ stop h files told. at_limits files c.args.name.now c.in_ok-project.project.development c.in_ok-project.project.scripts stop (c.in_ok-project.ensures.told files told) h)

pub returns-in_err-list-clause-reading : goal.returns-in_err-list-clause-reading
returns-in_err-list-clause-reading g c =
    handed_on c.from_residual-in_err-list.result c.in_err-list.field-0.0 IsOfReading c.from_residual-in_err-list.ensures.1 (checks_read c.in_err-list.field-0.0 c.in_err-list.ensures.checks)

pub returns-clause-texts : goal.returns-clause-texts
returns-clause-texts g c files told = c.in_ok-files.ensures.told files (c.read_project.ensures.files ∙ told)

pub returns-clause-listed : goal.returns-clause-listed
returns-clause-listed g c = c.in_ok-list.ensures.listed

pub returns-clause-ready : goal.returns-clause-ready
returns-clause-ready g c = c.in_ok-list.ensures.ready
