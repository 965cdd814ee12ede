use Rattle.std.proofs.Common.{◌≡◌, ◌⊎◌, ℕ, ◌∙◌, inl, inr, Some, subst, arith}
use Rattle.bk_io.specs.Files.{Files}
use Rattle.bk_cli.specs.Tasks.{run_task}
use Rattle.bk_verbs.specs.Stops.{IsOutside, StopsTask}
use Rattle.bk_verbs.proofs.Stopping.{handed_on, or_else_stops, at_reading, at_read}
use Rattle.std.proofs.Common.{map, ap, sym, All}
use Rattle.bk_code.specs.Checks.{IsChecked}
use Rattle.bk_code.specs.Laws.{IsRequest}
use Rattle.bk_calls.specs.Script.{request_of, IsScript}
use Rattle.std.proofs.lemmas.List.{length-map}
use Rattle.bk_code.proofs.DeadCode.{loadable_is_checked}
use Rattle.bk_verbs.specs.Project.{IsWithinCodeLimits}
use Rattle.bk_verbs.specs.Stops.{StopsAtScript}
use Rattle.bk_verbs.proofs.run.ready_project.Goals as goal

pub returns-in_err-read-clause-cause : goal.returns-in_err-read-clause-cause
returns-in_err-read-clause-cause g c =
    handed_on c.from_residual.result c.in_err-read.field-0.0
    (λ stop. (files : Files) (fuel : ℕ) → g.H.Shelf.files c.args.shelf.now ≡ Some files → IsOutside stop ⊎ StopsTask files (run_task c.args.project.now c.args.script.now fuel) stop)
    c.from_residual.ensures.1
    (λ files fuel told. at_reading files c.args.project.now (run_task c.args.project.now c.args.script.now fuel) c.in_err-read.field-0.0 (c.in_err-read.ensures.cause files told))

pub returns-in_err-table-clause-cause : goal.returns-in_err-table-clause-cause
returns-in_err-table-clause-cause g c =
    handed_on c.from_residual-in_err-table.result c.in_err-table.field-0.0
    (λ stop. (files : Files) (fuel : ℕ) → g.H.Shelf.files c.args.shelf.now ≡ Some files → IsOutside stop ⊎ StopsTask files (run_task c.args.project.now c.args.script.now fuel) stop)
    c.from_residual-in_err-table.ensures.1
    (λ files fuel told. at_read files c.args.project.now (run_task c.args.project.now c.args.script.now fuel) c.in_err-table.field-0.0 c.in_ok-read.read.development c.in_ok-read.read.scripts (c.in_ok-read.ensures.told files told) (or_else_stops c.in_err-table.field-0.0 _ _ c.in_err-table.ensures.cause inl))

pub returns-in_err-text-clause-cause : goal.returns-in_err-text-clause-cause
returns-in_err-text-clause-cause g c =
    handed_on c.from_residual-in_err-text.result c.in_err-text.field-0.0
    (λ stop. (files : Files) (fuel : ℕ) → g.H.Shelf.files c.args.shelf.now ≡ Some files → IsOutside stop ⊎ StopsTask files (run_task c.args.project.now c.args.script.now fuel) stop)
    c.from_residual-in_err-text.ensures.1
    (λ files fuel told. at_read files c.args.project.now (run_task c.args.project.now c.args.script.now fuel) c.in_err-text.field-0.0 c.in_ok-read.read.development c.in_ok-read.read.scripts (c.in_ok-read.ensures.told files told) (or_else_stops c.in_err-text.field-0.0 _ _ (c.in_err-text.ensures.cause files (c.read_project.ensures.files ∙ told)) (λ k. inr (c.in_ok-table.ensures.ok, inl k))))

pub image_of-requires : goal.image_of-requires
image_of-requires g c = c.in_ok-read.ensures.executable c.in_ok-table.ensures.ok.complete

pub returns-in_err-image-clause-cause : goal.returns-in_err-image-clause-cause
returns-in_err-image-clause-cause g c =
    handed_on c.from_residual-in_err-image.result c.in_err-image.field-0.0
    (λ stop. (files : Files) (fuel : ℕ) → g.H.Shelf.files c.args.shelf.now ≡ Some files → IsOutside stop ⊎ StopsTask files (run_task c.args.project.now c.args.script.now fuel) stop)
    c.from_residual-in_err-image.ensures.1
    (λ files fuel told. at_read files c.args.project.now (run_task c.args.project.now c.args.script.now fuel) c.in_err-image.field-0.0 c.in_ok-read.read.development c.in_ok-read.read.scripts (c.in_ok-read.ensures.told files told) (or_else_stops c.in_err-image.field-0.0 _ _ c.in_err-image.ensures.cause (λ k. inr (c.in_ok-table.ensures.ok, inr (c.in_ok-text.text.items, c.in_ok-text.ensures.told files (c.read_project.ensures.files ∙ told), inl k)))))

pub returns-in_err-calls-clause-cause : goal.returns-in_err-calls-clause-cause
returns-in_err-calls-clause-cause g c =
    handed_on c.from_residual-in_err-calls.result c.in_err-calls.field-0.0
    (λ stop. (files : Files) (fuel : ℕ) → g.H.Shelf.files c.args.shelf.now ≡ Some files → IsOutside stop ⊎ StopsTask files (run_task c.args.project.now c.args.script.now fuel) stop)
    c.from_residual-in_err-calls.ensures.1
    (λ files fuel told. at_read files c.args.project.now (run_task c.args.project.now c.args.script.now fuel) c.in_err-calls.field-0.0 c.in_ok-read.read.development c.in_ok-read.read.scripts (c.in_ok-read.ensures.told files told) (or_else_stops c.in_err-calls.field-0.0 _ _ c.in_err-calls.ensures.cause (λ k. inr (c.in_ok-table.ensures.ok, inr (c.in_ok-text.text.items, c.in_ok-text.ensures.told files (c.read_project.ensures.files ∙ told), inr (subst IsWithinCodeLimits c.in_ok-image.ensures.ok c.in_ok-image.ensures.within, subst (λ i. StopsAtScript c.args.script.now c.in_ok-text.text.items i c.in_err-calls.field-0.0) c.in_ok-image.ensures.ok (subst (λ x. StopsAtScript c.args.script.now x c.in_ok-image.image c.in_err-calls.field-0.0) c.deref.ensures.value k)))))))

pub calls_of-requires-clause-few_operations : goal.calls_of-requires-clause-few_operations
calls_of-requires-clause-few_operations g c = omega (arith, c.in_ok-image.ensures.within.spelled.fits.few_ops)

pub returns-clause-ready : goal.returns-clause-ready
returns-clause-ready g c files told = record {
  dev = c.in_ok-read.read.development;
  scripts = c.in_ok-read.read.scripts;
  reads = c.in_ok-read.ensures.told files told;
  finished = c.in_ok-table.ensures.ok;
  table = c.in_ok-table.ensures.rows;
  image_is = ap (λ s. s.image) c.in_ok-player.ensures ∙ c.in_ok-image.ensures.ok;
  short = subst IsWithinCodeLimits c.in_ok-image.ensures.ok c.in_ok-image.ensures.within;
  asks = record {
    text = c.in_ok-text.text.items;
    told = c.in_ok-text.ensures.told files (c.read_project.ensures.files ∙ told);
    script = subst (λ i. IsScript i c.in_ok-text.text.items (map request_of c.in_ok-calls.calls.items)) c.in_ok-image.ensures.ok
        (subst (λ x. IsScript c.in_ok-image.image x (map request_of c.in_ok-calls.calls.items)) c.deref.ensures.value c.in_ok-calls.ensures.ok);
    few = rw (length-map c.in_ok-calls.calls.items request_of) c.in_ok-calls.ensures.few;
  };
}

pub returns-clause-checked : goal.returns-clause-checked
returns-clause-checked g c = subst IsChecked (sym (ap (λ s. s.image) c.in_ok-player.ensures)) (loadable_is_checked c.in_ok-image.image c.in_ok-image.ensures.loadable)

pub of_project-requires-clause-checked : goal.of_project-requires-clause-checked
of_project-requires-clause-checked g c = loadable_is_checked c.in_ok-image.image c.in_ok-image.ensures.loadable

pub returns-clause-fresh : goal.returns-clause-fresh
returns-clause-fresh g c = ap (λ s. s.started) c.in_ok-player.ensures

pub returns-clause-requests : goal.returns-clause-requests
returns-clause-requests g c = subst (λ i. All (IsRequest i) (map request_of c.in_ok-calls.calls.items)) (sym (ap (λ s. s.image) c.in_ok-player.ensures)) c.in_ok-calls.ensures.requests
