use Rattle.std.proofs.Common.{◌≡◌, ◌⊎◌, All, true, false, Some, map, ◌∙◌, ap, subst, sym, rules}
use Rattle.bk_io.specs.Files.{Files}
use Rattle.bk_front.specs.ProjectFile.{IsFileName, AreLinesOf}
use Rattle.bk_verbs.specs.Causes.{IsOfReading}
use Rattle.bk_verbs.specs.Project.{IsTold, files_of}
use Rattle.bk_verbs.specs.Stops.{IsOutside, StopsAtFiles, StopsAtProject}
use Rattle.bk_verbs.proofs.Stopping.{widen, handed_on, checks_read, at_components, at_proofs}
use Rattle.bk_verbs.proofs.Projects.{file_names}
use Rattle.bk_proof_program.proofs.project.read_again.Goals as goal

pub fetch_named-requires : goal.fetch_named-requires
fetch_named-requires g c = subst (All (λ line. IsFileName line.name)) (sym c.deref-2.ensures.value) (file_names c.deref.result.now c.in_ok-lines.lines.items c.in_ok-lines.ensures.value)

pub fetch_named-requires-2 : goal.fetch_named-requires-2
fetch_named-requires-2 g c = subst (All (λ line. IsFileName line.name)) (sym c.deref-3.ensures.value) (file_names c.deref.result.now c.in_ok-lines.lines.items c.in_ok-lines.ensures.value)

pub returns-clause-told : goal.returns-clause-told
returns-clause-told g c files told = record {
  told = c.in_ok-text.ensures.told files told;
  named = c.in_ok-lines.lines.items;
  lines = subst (λ t. AreLinesOf t c.in_ok-lines.lines.items) c.deref.ensures.value c.in_ok-lines.ensures.value;
  component_names = c.in_ok-components.ensures.names ∙ ap (files_of false) c.deref-2.ensures.value;
  components = c.in_ok-components.ensures.told files (c.fetch.ensures.files ∙ told);
  proof_names = c.in_ok-proofs.ensures.names ∙ ap (files_of true) c.deref-3.ensures.value;
  proofs = c.in_ok-proofs.ensures.told files (c.fetch_named.ensures.files ∙ (c.fetch.ensures.files ∙ told));
}

pub returns-in_err-lines-clause-cause : goal.returns-in_err-lines-clause-cause
returns-in_err-lines-clause-cause g c =
    handed_on c.from_residual-in_err-lines.result c.in_err-lines.field-0.0
    (λ stop. (files : Files) → g.H.Shelf.files c.args.shelf.now ≡ Some files → IsOutside stop ⊎ StopsAtProject true files c.args.name.now stop)
    c.from_residual-in_err-lines.ensures.1
    (λ files told. c.in_err-lines.ensures.cause files (subst (IsTold files c.args.name.now) (sym c.deref.ensures.value) (c.in_ok-text.ensures.told files told)))

pub returns-in_err-components-clause-cause : goal.returns-in_err-components-clause-cause
returns-in_err-components-clause-cause g c =
    widen c.from_residual-in_err-components.result
    (λ stop. (files : Files) → g.H.Shelf.files c.fetch.new.shelf ≡ Some files → IsOutside stop ⊎ StopsAtFiles files (files_of false c.deref-2.result.now) stop)
    (λ stop. (files : Files) → g.H.Shelf.files c.args.shelf.now ≡ Some files → IsOutside stop ⊎ StopsAtProject true files c.args.name.now stop)
    (search rules)
    (λ stop h files told. at_components true files c.args.name.now c.deref.result.now (subst (IsTold files c.args.name.now) (sym c.deref.ensures.value) (c.in_ok-text.ensures.told files told)) c.in_ok-lines.lines.items c.in_ok-lines.ensures.value
    (files_of false c.deref-2.result.now) stop (ap (files_of false) c.deref-2.ensures.value) (h files (c.fetch.ensures.files ∙ told)))

pub returns-in_err-proofs-clause-cause : goal.returns-in_err-proofs-clause-cause
returns-in_err-proofs-clause-cause g c =
    widen c.from_residual-in_err-proofs.result
    (λ stop. (files : Files) → g.H.Shelf.files c.fetch_named.new.shelf ≡ Some files → IsOutside stop ⊎ StopsAtFiles files (files_of true c.deref-3.result.now) stop)
    (λ stop. (files : Files) → g.H.Shelf.files c.args.shelf.now ≡ Some files → IsOutside stop ⊎ StopsAtProject true files c.args.name.now stop)
    (search rules)
    (λ stop h files told. at_proofs true files c.args.name.now c.deref.result.now (subst (IsTold files c.args.name.now) (sym c.deref.ensures.value) (c.in_ok-text.ensures.told files told)) c.in_ok-lines.lines.items c.in_ok-lines.ensures.value
    (files_of false c.deref-2.result.now) (files_of true c.deref-3.result.now) (map (λ f. f.text.items) c.in_ok-components.components.items) stop
    (ap (files_of false) c.deref-2.ensures.value) (ap (files_of true) c.deref-3.ensures.value)
    (c.in_ok-components.ensures.texts files (c.fetch.ensures.files ∙ told))
    (h files (c.fetch_named.ensures.files ∙ (c.fetch.ensures.files ∙ told))))

pub returns-in_err-lines-clause-reading : goal.returns-in_err-lines-clause-reading
returns-in_err-lines-clause-reading g c =
    handed_on c.from_residual-in_err-lines.result c.in_err-lines.field-0.0 IsOfReading c.from_residual-in_err-lines.ensures.1 (checks_read c.in_err-lines.field-0.0 c.in_err-lines.ensures.checks)
