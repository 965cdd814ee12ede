use Rattle.std.proofs.Common.{◌≡◌, ◌⊎◌, ℕ, Option, Some, Result, Err, IfErr, sym, subst, arith}
use Rattle.std.specs.Prelude.{IfOk}
use Rattle.bk_io.specs.Files.{Files}
use Rattle.bk_cli.specs.declared.command.Command.{Command}
use Rattle.bk_cli.specs.Asked.{task_of, HasSmallNumbers}
use Rattle.bk_verbs.specs.declared.stop.Stop.{Stop}
use Rattle.bk_verbs.specs.declared.work.Work.{Work}
use Rattle.bk_verbs.specs.Stops.{IsOutside, StopsTask}
use Rattle.bk_io.specs.Counts.{HasCause}
use Rattle.std.proofs.lemmas.Result.{IfOk-weaker}
use Rattle.bk_verbs.specs.declared.stop.Stop.TheVariants.{ReadFault, Missing}
use Rattle.bk_verbs.specs.Causes.{IsOfReading, IsOfChecks, CountsAbsence}
use Rattle.bk_verbs.specs.Prepared.{IsPrepared, Suits}
use Rattle.bk_verbs.proofs.Stopping.{widen, checks_read}
use Rattle.bk_verbs.proofs.verbs.prepare.Goals as goal

-- what is said of the command's variant is said of the command
module _ (known : Option Files) (result : Result Work Stop) (command is : Command) (e : command ≡ is) where
  cause_of : IfErr result (λ stop. (files : Files) → known ≡ Some files → IsOutside stop ⊎ StopsTask files (task_of is) stop) → IfErr result (λ stop. (files : Files) → known ≡ Some files → IsOutside stop ⊎ StopsTask files (task_of command) stop)
  cause_of h = subst (λ (k : Command). IfErr result (λ stop. (files : Files) → known ≡ Some files → IsOutside stop ⊎ StopsTask files (task_of k) stop)) (sym e) h

  told_of : IfOk result (λ work. (files : Files) → known ≡ Some files → IsPrepared files (task_of is) work) → IfOk result (λ work. (files : Files) → known ≡ Some files → IsPrepared files (task_of command) work)
  told_of h = subst (λ (k : Command). IfOk result (λ work. (files : Files) → known ≡ Some files → IsPrepared files (task_of k) work)) (sym e) h

  suits_of : IfOk result (λ work. (files : Files) → known ≡ Some files → Suits files (task_of is) work) → IfOk result (λ work. (files : Files) → known ≡ Some files → Suits files (task_of command) work)
  suits_of h = subst (λ (k : Command). IfOk result (λ work. (files : Files) → known ≡ Some files → Suits files (task_of k) work)) (sym e) h

-- checks of texts have no part in the devices
module _ (result : Result Work Stop) (checks : IfErr result IsOfChecks) where
  reading_of : IfErr result IsOfReading
  reading_of = widen result IsOfChecks IsOfReading checks checks_read

  not_of : (stop : Stop) → (IsOfChecks stop → ⊥) → result ≡ Err stop → ⊥
  not_of stop other e = other (subst (λ (r : Result Work Stop). IfErr r IsOfChecks) e checks)

  failed_of : (count : ℕ) → HasCause ReadFault count count result
  failed_of count = record { later = omega arith; rose = λ e. absurd (not_of ReadFault (λ h. h) e) }

  missing_of : (count : ℕ) → CountsAbsence count count result
  missing_of count = record { later = omega arith; rose = λ name e. absurd (not_of (Missing name) (λ h. h) e) }

pub returns-in-Check-clause-cause : goal.returns-in-Check-clause-cause
returns-in-Check-clause-cause g c = cause_of (g.H.Shelf.files c.args.shelf.now) c.checked_text.result c.args.command _ c.in-Check.is c.checked_text.ensures.cause

pub returns-in-Check-clause-told : goal.returns-in-Check-clause-told
returns-in-Check-clause-told g c = told_of (g.H.Shelf.files c.args.shelf.now) c.checked_text.result c.args.command _ c.in-Check.is c.checked_text.ensures.told

pub returns-in-Status-clause-cause : goal.returns-in-Status-clause-cause
returns-in-Status-clause-cause g c = cause_of (g.H.Shelf.files c.args.shelf.now) c.status_text.result c.args.command _ c.in-Status.is c.status_text.ensures.cause

pub returns-in-Status-clause-told : goal.returns-in-Status-clause-told
returns-in-Status-clause-told g c = told_of (g.H.Shelf.files c.args.shelf.now) c.status_text.result c.args.command _ c.in-Status.is c.status_text.ensures.told

pub returns-in-Obligations-clause-cause : goal.returns-in-Obligations-clause-cause
returns-in-Obligations-clause-cause g c = cause_of (g.H.Shelf.files c.args.shelf.now) c.shown_obligations.result c.args.command _ c.in-Obligations.is c.shown_obligations.ensures.cause

pub returns-in-Obligations-clause-told : goal.returns-in-Obligations-clause-told
returns-in-Obligations-clause-told g c = told_of (g.H.Shelf.files c.args.shelf.now) c.shown_obligations.result c.args.command _ c.in-Obligations.is c.shown_obligations.ensures.told

pub returns-in-Find-clause-cause : goal.returns-in-Find-clause-cause
returns-in-Find-clause-cause g c = cause_of (g.H.Shelf.files c.args.shelf.now) c.found_scripts.result c.args.command _ c.in-Find.is c.found_scripts.ensures.cause

pub returns-in-Find-clause-told : goal.returns-in-Find-clause-told
returns-in-Find-clause-told g c = told_of (g.H.Shelf.files c.args.shelf.now) c.found_scripts.result c.args.command _ c.in-Find.is c.found_scripts.ensures.told

pub returns-in-Code-clause-cause : goal.returns-in-Code-clause-cause
returns-in-Code-clause-cause g c = cause_of (g.H.Shelf.files c.args.shelf.now) c.listing_text.result c.args.command _ c.in-Code.is c.listing_text.ensures.cause

pub returns-in-Code-clause-told : goal.returns-in-Code-clause-told
returns-in-Code-clause-told g c = told_of (g.H.Shelf.files c.args.shelf.now) c.listing_text.result c.args.command _ c.in-Code.is c.listing_text.ensures.told

pub returns-in-Build-clause-cause : goal.returns-in-Build-clause-cause
returns-in-Build-clause-cause g c = cause_of (g.H.Shelf.files c.args.shelf.now) c.built_bytes.result c.args.command _ c.in-Build.is c.built_bytes.ensures.cause

pub returns-in-Build-clause-told : goal.returns-in-Build-clause-told
returns-in-Build-clause-told g c = told_of (g.H.Shelf.files c.args.shelf.now) c.built_bytes.result c.args.command _ c.in-Build.is c.built_bytes.ensures.told

pub session_of_project-requires : goal.session_of_project-requires
session_of_project-requires g c = record { small = subst HasSmallNumbers c.in-Run.is c.requires.small }

pub returns-in-Run-clause-cause : goal.returns-in-Run-clause-cause
returns-in-Run-clause-cause g c = cause_of (g.H.Shelf.files c.args.shelf.now) c.session_of_project.result c.args.command _ c.in-Run.is c.session_of_project.ensures.cause

pub returns-in-Run-clause-told : goal.returns-in-Run-clause-told
returns-in-Run-clause-told g c = told_of (g.H.Shelf.files c.args.shelf.now) c.session_of_project.result c.args.command _ c.in-Run.is c.session_of_project.ensures.told

pub session_of_image-requires : goal.session_of_image-requires
session_of_image-requires g c = record { small = subst HasSmallNumbers c.in-Exec.is c.requires.small }

pub returns-in-Exec-clause-cause : goal.returns-in-Exec-clause-cause
returns-in-Exec-clause-cause g c = cause_of (g.H.Shelf.files c.args.shelf.now) c.session_of_image.result c.args.command _ c.in-Exec.is c.session_of_image.ensures.cause

pub returns-in-Exec-clause-told : goal.returns-in-Exec-clause-told
returns-in-Exec-clause-told g c = told_of (g.H.Shelf.files c.args.shelf.now) c.session_of_image.result c.args.command _ c.in-Exec.is c.session_of_image.ensures.told

pub sample_lines-requires : goal.sample_lines-requires
sample_lines-requires g c =
    let small = subst HasSmallNumbers c.in-Sample.is c.requires.small in
    record { least = small.0; most = small.1 }

pub returns-in-Sample-clause-cause : goal.returns-in-Sample-clause-cause
returns-in-Sample-clause-cause g c =
    cause_of (g.H.Shelf.files c.args.shelf.now) c.sample_lines.result c.args.command _ c.in-Sample.is (widen c.sample_lines.result _ _ c.sample_lines.ensures.cause (λ stop h files told. h files))

pub returns-in-Sample-clause-reading : goal.returns-in-Sample-clause-reading
returns-in-Sample-clause-reading g c = reading_of c.sample_lines.result c.sample_lines.ensures.checks

pub returns-in-Sample-clause-failed : goal.returns-in-Sample-clause-failed
returns-in-Sample-clause-failed g c = failed_of c.sample_lines.result c.sample_lines.ensures.checks (g.H.Shelf.faults c.args.shelf.now)

pub returns-in-Sample-clause-missing : goal.returns-in-Sample-clause-missing
returns-in-Sample-clause-missing g c = missing_of c.sample_lines.result c.sample_lines.ensures.checks (g.H.Shelf.absences c.args.shelf.now)

pub returns-in-Sample-clause-told : goal.returns-in-Sample-clause-told
returns-in-Sample-clause-told g c =
    told_of (g.H.Shelf.files c.args.shelf.now) c.sample_lines.result c.args.command _ c.in-Sample.is (IfOk-weaker c.sample_lines.result _ _ (λ work h files told. h files) c.sample_lines.ensures.told)

pub returns-in-Check-clause-suits : goal.returns-in-Check-clause-suits
returns-in-Check-clause-suits g c = suits_of (g.H.Shelf.files c.args.shelf.now) c.checked_text.result c.args.command _ c.in-Check.is c.checked_text.ensures.suits

pub returns-in-Status-clause-suits : goal.returns-in-Status-clause-suits
returns-in-Status-clause-suits g c = suits_of (g.H.Shelf.files c.args.shelf.now) c.status_text.result c.args.command _ c.in-Status.is c.status_text.ensures.suits

pub returns-in-Obligations-clause-suits : goal.returns-in-Obligations-clause-suits
returns-in-Obligations-clause-suits g c = suits_of (g.H.Shelf.files c.args.shelf.now) c.shown_obligations.result c.args.command _ c.in-Obligations.is c.shown_obligations.ensures.suits

pub returns-in-Find-clause-suits : goal.returns-in-Find-clause-suits
returns-in-Find-clause-suits g c = suits_of (g.H.Shelf.files c.args.shelf.now) c.found_scripts.result c.args.command _ c.in-Find.is c.found_scripts.ensures.suits

pub returns-in-Code-clause-suits : goal.returns-in-Code-clause-suits
returns-in-Code-clause-suits g c = suits_of (g.H.Shelf.files c.args.shelf.now) c.listing_text.result c.args.command _ c.in-Code.is c.listing_text.ensures.suits

pub returns-in-Build-clause-suits : goal.returns-in-Build-clause-suits
returns-in-Build-clause-suits g c = suits_of (g.H.Shelf.files c.args.shelf.now) c.built_bytes.result c.args.command _ c.in-Build.is c.built_bytes.ensures.suits

pub returns-in-Run-clause-suits : goal.returns-in-Run-clause-suits
returns-in-Run-clause-suits g c = suits_of (g.H.Shelf.files c.args.shelf.now) c.session_of_project.result c.args.command _ c.in-Run.is c.session_of_project.ensures.suits

pub returns-in-Exec-clause-suits : goal.returns-in-Exec-clause-suits
returns-in-Exec-clause-suits g c = suits_of (g.H.Shelf.files c.args.shelf.now) c.session_of_image.result c.args.command _ c.in-Exec.is c.session_of_image.ensures.suits

pub returns-in-Sample-clause-suits : goal.returns-in-Sample-clause-suits
returns-in-Sample-clause-suits g c =
    suits_of (g.H.Shelf.files c.args.shelf.now) c.sample_lines.result c.args.command _ c.in-Sample.is (IfOk-weaker c.sample_lines.result _ _ (λ work h files told. h files) c.sample_lines.ensures.suits)
