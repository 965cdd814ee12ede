use Rattle.std.proofs.Common.{◌≡◌, ◌⊎◌, ◌∙◌, inl, inr, refl, Some, ap, subst}
use Rattle.bk_io.specs.Files.{Files}
use Rattle.bk_cli.specs.Tasks.{code_task}
use Rattle.bk_verbs.specs.Stops.{IsOutside, StopsTask}
use Rattle.bk_verbs.proofs.Stopping.{handed_on, or_else_stops, at_reading, at_read}
use Rattle.bk_report.specs.Listing.{listing}
use Rattle.bk_verbs.specs.Project.{IsWithinCodeLimits}
use Rattle.bk_verbs.proofs.listing.listing_text.Goals as goal

pub returns-in_err-read-clause-cause : goal.returns-in_err-read-clause-cause
returns-in_err-read-clause-cause g c =
    handed_on c.from_residual.result c.in_err-read.field-0.0
    (λ stop. (files : Files) → g.H.Shelf.files c.args.shelf.now ≡ Some files → IsOutside stop ⊎ StopsTask files (code_task c.args.project.now) stop)
    c.from_residual.ensures.1
    (λ files told. at_reading files c.args.project.now (code_task c.args.project.now) c.in_err-read.field-0.0 (c.in_err-read.ensures.cause files told))

pub returns-in_err-check_complete-clause-cause : goal.returns-in_err-check_complete-clause-cause
returns-in_err-check_complete-clause-cause g c =
    handed_on c.from_residual-in_err-check_complete.result c.in_err-check_complete.field-0.0
    (λ stop. (files : Files) → g.H.Shelf.files c.args.shelf.now ≡ Some files → IsOutside stop ⊎ StopsTask files (code_task c.args.project.now) stop)
    c.from_residual-in_err-check_complete.ensures.1
    (λ files told. at_read files c.args.project.now (code_task c.args.project.now) c.in_err-check_complete.field-0.0 c.in_ok-read.read.development c.in_ok-read.read.scripts (c.in_ok-read.ensures.told files told) (or_else_stops c.in_err-check_complete.field-0.0 _ _ c.in_err-check_complete.ensures.cause inl))

pub image_of-requires : goal.image_of-requires
image_of-requires g c = c.in_ok-read.ensures.executable c.in_ok-check_complete.ensures.ok

pub returns-in_err-image-clause-cause : goal.returns-in_err-image-clause-cause
returns-in_err-image-clause-cause g c =
    handed_on c.from_residual-in_err-image.result c.in_err-image.field-0.0
    (λ stop. (files : Files) → g.H.Shelf.files c.args.shelf.now ≡ Some files → IsOutside stop ⊎ StopsTask files (code_task c.args.project.now) stop)
    c.from_residual-in_err-image.ensures.1
    (λ files told. at_read files c.args.project.now (code_task c.args.project.now) c.in_err-image.field-0.0 c.in_ok-read.read.development c.in_ok-read.read.scripts (c.in_ok-read.ensures.told files told) (or_else_stops c.in_err-image.field-0.0 _ _ c.in_err-image.ensures.cause (λ k. inr (c.in_ok-check_complete.ensures.ok, k))))

pub returns-clause-told : goal.returns-clause-told
returns-clause-told g c files told = record {
  dev = c.in_ok-read.read.development;
  scripts = c.in_ok-read.read.scripts;
  reads = c.in_ok-read.ensures.told files told;
  given = (
    refl,
    record {
      complete = c.in_ok-check_complete.ensures.ok;
      short = subst IsWithinCodeLimits c.in_ok-image.ensures.ok c.in_ok-image.ensures.within;
      text_is = c.in_ok-text.ensures ∙ ap listing c.in_ok-image.ensures.ok;
    },
  );
}

pub returns-clause-suits : goal.returns-clause-suits
returns-clause-suits g c files told = tt
