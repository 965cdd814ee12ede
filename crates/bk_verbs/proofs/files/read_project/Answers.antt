use Rattle.std.proofs.Common.{◌≡◌, ◌⊎◌, ◌∙◌, All, List, true, false, length, Some, ap, subst, sym, rules}
use Rattle.bk_io.specs.Files.{Files}
use Rattle.bk_front.specs.declared.project_file.ProjectLine.{ProjectLine}
use Rattle.bk_front.specs.ProjectFile.{IsFileName, AreLines}
use Rattle.bk_front.specs.Project.{Reads, IsRefusalOf}
use Rattle.bk_p_proof.specs.Files.{AreScriptsOf, IsFaultOf}
use Rattle.bk_verbs.specs.Stops.{IsOutside, StopsAtFiles, StopsAtProject, stop_of_refusal, stop_of_proofs}
use Rattle.bk_verbs.proofs.Fetching.{nows}
use Rattle.bk_verbs.specs.Project.{files_of, fetched}
use Rattle.bk_verbs.specs.Causes.{IsOfReading}
use Rattle.bk_verbs.proofs.Projects.{file_names, few_texts, texts_of, component_texts}
use Rattle.bk_verbs.proofs.Stopping.{widen, handed_on, checks_read, at_components, at_proofs, at_texts, at_scripts, reads_project}
use Rattle.bk_verbs.proofs.files.read_project.Goals as goal

pub names-requires : goal.names-requires
names-requires g c = subst (All (λ line. IsFileName line.name)) (sym c.deref.ensures.value) (file_names c.in_ok-lines.ensures.told.0 c.in_ok-lines.lines.items c.in_ok-lines.ensures.told.1)

pub proof_names-requires : goal.proof_names-requires
proof_names-requires g c = subst (All (λ line. IsFileName line.name)) (sym c.deref-2.ensures.value) (file_names c.in_ok-lines.ensures.told.0 c.in_ok-lines.lines.items c.in_ok-lines.ensures.told.1)

pub returns-in_err-lines-clause-cause : goal.returns-in_err-lines-clause-cause
returns-in_err-lines-clause-cause g c =
    handed_on c.from_residual.result c.in_err-lines.field-0.0
    (λ stop. (files : Files) → g.H.Shelf.files c.args.shelf.now ≡ Some files → IsOutside stop ⊎ StopsAtProject c.args.with_proofs files c.args.name.now stop)
    c.from_residual.ensures.1
    (λ files told. c.in_err-lines.ensures.cause files c.args.with_proofs told)

pub returns-in_err-texts-clause-cause : goal.returns-in_err-texts-clause-cause
returns-in_err-texts-clause-cause g c =
    widen c.from_residual-in_err-texts.result
    (λ stop. (files : Files) → g.H.Shelf.files c.read_lines.new.shelf ≡ Some files → IsOutside stop ⊎ StopsAtFiles files (nows c.deref-3.result.now) stop)
    (λ stop. (files : Files) → g.H.Shelf.files c.args.shelf.now ≡ Some files → IsOutside stop ⊎ StopsAtProject c.args.with_proofs files c.args.name.now stop)
    (search rules)
    (λ stop h files told. at_components c.args.with_proofs files c.args.name.now c.in_ok-lines.ensures.told.0 (c.in_ok-lines.ensures.told.2 files told) c.in_ok-lines.lines.items c.in_ok-lines.ensures.told.1 (nows c.deref-3.result.now) stop
    (ap nows c.deref-3.ensures.value ∙ (c.in_ok-components.ensures.ok ∙ ap (files_of false) c.deref.ensures.value))
    (h files (c.read_lines.ensures.files ∙ told)))

pub returns-in_err-proof_texts-clause-cause : goal.returns-in_err-proof_texts-clause-cause
returns-in_err-proof_texts-clause-cause g c =
    widen c.from_residual-in_err-proof_texts.result
    (λ stop. (files : Files) → g.H.Shelf.files c.fetch_all.new.shelf ≡ Some files → IsOutside stop ⊎ StopsAtFiles files (nows c.deref-4.result.now) stop)
    (λ stop. (files : Files) → g.H.Shelf.files c.args.shelf.now ≡ Some files → IsOutside stop ⊎ StopsAtProject c.args.with_proofs files c.args.name.now stop)
    (search rules)
    (λ stop h files told. at_proofs c.args.with_proofs files c.args.name.now c.in_ok-lines.ensures.told.0 (c.in_ok-lines.ensures.told.2 files told) c.in_ok-lines.lines.items c.in_ok-lines.ensures.told.1 (nows c.deref-3.result.now) (nows c.deref-4.result.now) (texts_of c.in_ok-texts.texts.items) stop
    (ap nows c.deref-3.ensures.value ∙ (c.in_ok-components.ensures.ok ∙ ap (files_of false) c.deref.ensures.value))
    (ap nows c.deref-4.ensures.value ∙ (c.in_ok-proofs.ensures.ok ∙ ap (λ x. fetched c.args.with_proofs (files_of true x)) c.deref-2.ensures.value))
    (c.in_ok-texts.ensures.told files (c.read_lines.ensures.files ∙ told))
    (h files (c.fetch_all.ensures.files ∙ (c.read_lines.ensures.files ∙ told))))

pub read_components-requires-clause-lines : goal.read_components-requires-clause-lines
read_components-requires-clause-lines g c = subst AreLines (sym c.deref-5.ensures.value) c.in_ok-lines.ensures.told.1.are

pub read_components-requires-clause-texts : goal.read_components-requires-clause-texts
read_components-requires-clause-texts g c =
    component_texts c.in_ok-lines.lines.items c.deref-5.result.now c.deref-3.result.now c.in_ok-texts.texts.items c.deref-7.result.now c.deref-5.ensures.value
    (ap nows c.deref-3.ensures.value ∙ (c.in_ok-components.ensures.ok ∙ ap (files_of false) c.deref.ensures.value)) c.in_ok-texts.ensures.each c.deref-7.ensures.value

pub returns-in_err-read_components-clause-cause : goal.returns-in_err-read_components-clause-cause
returns-in_err-read_components-clause-cause g c =
    let stop = c.in_err-read_components.field-0.0 in
    let cause = c.in_err-read_components.ensures.cause in
    let refusal = cause.0 in
    let texts = texts_of c.in_ok-texts.texts.items in
    handed_on c.from_residual-in_err-read_components.result stop
    (λ stop. (files : Files) → g.H.Shelf.files c.args.shelf.now ≡ Some files → IsOutside stop ⊎ StopsAtProject c.args.with_proofs files c.args.name.now stop)
    c.from_residual-in_err-read_components.ensures.1
    (λ files told. at_texts c.args.with_proofs files c.args.name.now c.in_ok-lines.ensures.told.0 (c.in_ok-lines.ensures.told.2 files told) c.in_ok-lines.lines.items c.in_ok-lines.ensures.told.1
    (nows c.deref-3.result.now) (nows c.deref-4.result.now) texts (texts_of c.in_ok-proof_texts.proof_texts.items)
    (ap nows c.deref-3.ensures.value ∙ (c.in_ok-components.ensures.ok ∙ ap (files_of false) c.deref.ensures.value))
    (ap nows c.deref-4.ensures.value ∙ (c.in_ok-proofs.ensures.ok ∙ ap (λ x. fetched c.args.with_proofs (files_of true x)) c.deref-2.ensures.value))
    (c.in_ok-texts.ensures.told files (c.read_lines.ensures.files ∙ told))
    (c.in_ok-proof_texts.ensures.told files (c.fetch_all.ensures.files ∙ (c.read_lines.ensures.files ∙ told)))
    refusal stop
    (subst (λ x. IsRefusalOf c.in_ok-lines.lines.items (texts_of x) refusal) c.deref-7.ensures.value (subst (λ (x : List ProjectLine). IsRefusalOf x (texts_of c.deref-7.result.now) refusal) c.deref-5.ensures.value cause.1))
    (cause.2 ∙ ap (λ x. stop_of_refusal refusal c.args.name.now (nows x)) (c.deref-6.ensures.value ∙ sym c.deref-3.ensures.value)))

pub returns-in_err-read_components-clause-reading : goal.returns-in_err-read_components-clause-reading
returns-in_err-read_components-clause-reading g c =
    handed_on c.from_residual-in_err-read_components.result c.in_err-read_components.field-0.0 IsOfReading c.from_residual-in_err-read_components.ensures.1 (checks_read c.in_err-read_components.field-0.0 c.in_err-read_components.ensures.checks)

pub read_scripts-requires : goal.read_scripts-requires
read_scripts-requires g c = record {
  countable = few_texts c.args.with_proofs c.in_ok-lines.lines.items c.deref-4.result.now c.deref-9.result.now c.in_ok-lines.ensures.few
      (ap nows c.deref-4.ensures.value ∙ (c.in_ok-proofs.ensures.ok ∙ ap (λ x. fetched c.args.with_proofs (files_of true x)) c.deref-2.ensures.value))
      (ap (λ x. length x) c.deref-9.ensures.value ∙ c.in_ok-proof_texts.ensures.each);
}

pub returns-in_err-read_scripts-clause-cause : goal.returns-in_err-read_scripts-clause-cause
returns-in_err-read_scripts-clause-cause g c =
    let stop = c.in_err-read_scripts.field-0.0 in
    let cause = c.in_err-read_scripts.ensures.cause in
    let fault = cause.0 in
    let texts = texts_of c.in_ok-texts.texts.items in
    let dev = c.in_ok-read_components.field-0 in
    handed_on c.from_residual-in_err-read_scripts.result stop
    (λ stop. (files : Files) → g.H.Shelf.files c.args.shelf.now ≡ Some files → IsOutside stop ⊎ StopsAtProject c.args.with_proofs files c.args.name.now stop)
    c.from_residual-in_err-read_scripts.ensures.1
    (λ files told. at_scripts c.args.with_proofs files c.args.name.now c.in_ok-lines.ensures.told.0 (c.in_ok-lines.ensures.told.2 files told) c.in_ok-lines.lines.items c.in_ok-lines.ensures.told.1
    (nows c.deref-3.result.now) (nows c.deref-4.result.now) texts (texts_of c.in_ok-proof_texts.proof_texts.items)
    (ap nows c.deref-3.ensures.value ∙ (c.in_ok-components.ensures.ok ∙ ap (files_of false) c.deref.ensures.value))
    (ap nows c.deref-4.ensures.value ∙ (c.in_ok-proofs.ensures.ok ∙ ap (λ x. fetched c.args.with_proofs (files_of true x)) c.deref-2.ensures.value))
    (c.in_ok-texts.ensures.told files (c.read_lines.ensures.files ∙ told))
    (c.in_ok-proof_texts.ensures.told files (c.fetch_all.ensures.files ∙ (c.read_lines.ensures.files ∙ told)))
    dev fault stop
    (subst (λ x. Reads c.in_ok-lines.lines.items (texts_of x) dev) c.deref-7.ensures.value (subst (λ (x : List ProjectLine). Reads x (texts_of c.deref-7.result.now) dev) c.deref-5.ensures.value c.in_ok-read_components.ensures.reads))
    (subst (λ x. IsFaultOf (texts_of x) fault) c.deref-9.ensures.value cause.1)
    (cause.2 ∙ ap (λ x. stop_of_proofs fault (nows x)) (c.deref-8.ensures.value ∙ sym c.deref-4.ensures.value)))

pub returns-in_err-read_scripts-clause-reading : goal.returns-in_err-read_scripts-clause-reading
returns-in_err-read_scripts-clause-reading g c =
    handed_on c.from_residual-in_err-read_scripts.result c.in_err-read_scripts.field-0.0 IsOfReading c.from_residual-in_err-read_scripts.ensures.1 (checks_read c.in_err-read_scripts.field-0.0 c.in_err-read_scripts.ensures.checks)

pub returns-clause-told : goal.returns-clause-told
returns-clause-told g c files told =
    let texts = texts_of c.in_ok-texts.texts.items in
    let dev = c.in_ok-read_components.field-0 in
    let scripts = c.in_ok-read_scripts.field-0 in
    reads_project c.args.with_proofs files c.args.name.now c.in_ok-lines.ensures.told.0 (c.in_ok-lines.ensures.told.2 files told) c.in_ok-lines.lines.items c.in_ok-lines.ensures.told.1
    (nows c.deref-3.result.now) (nows c.deref-4.result.now) texts (texts_of c.in_ok-proof_texts.proof_texts.items)
    (ap nows c.deref-3.ensures.value ∙ (c.in_ok-components.ensures.ok ∙ ap (files_of false) c.deref.ensures.value))
    (ap nows c.deref-4.ensures.value ∙ (c.in_ok-proofs.ensures.ok ∙ ap (λ x. fetched c.args.with_proofs (files_of true x)) c.deref-2.ensures.value))
    (c.in_ok-texts.ensures.told files (c.read_lines.ensures.files ∙ told))
    (c.in_ok-proof_texts.ensures.told files (c.fetch_all.ensures.files ∙ (c.read_lines.ensures.files ∙ told)))
    dev scripts
    (subst (λ x. Reads c.in_ok-lines.lines.items (texts_of x) dev) c.deref-7.ensures.value (subst (λ (x : List ProjectLine). Reads x (texts_of c.deref-7.result.now) dev) c.deref-5.ensures.value c.in_ok-read_components.ensures.reads))
    (subst (λ x. AreScriptsOf (texts_of x) scripts) c.deref-9.ensures.value c.in_ok-read_scripts.ensures.value)
