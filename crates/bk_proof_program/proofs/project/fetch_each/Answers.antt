use Rattle.std.proofs.Common.{◌≡◌, ◌⊎◌, ◌∙◌, ◌∷◌, ◌+◌, [], Some, map, drop, get_or, ap, subst, sym, rules}
use Rattle.std.proofs.lemmas.List.{map-append}
use Rattle.bk_form.specs.Each.{Each}
use Rattle.bk_io.specs.Files.{Files}
use Rattle.bk_verbs.specs.Project.{IsTold}
use Rattle.bk_verbs.specs.Stops.{IsOutside, StopsAtFile, StopsAtFiles}
use Rattle.bk_verbs.proofs.Stopping.{widen, or_else_stops}
use Rattle.bk_verbs.proofs.Fetching.{Fetching, nows, fetched_more, fetched_stop, fetched_all}
use Rattle.bk_proof_program.specs.Texts.{IsToldFile}
use Rattle.bk_proof_program.proofs.Texts.{each_more, named_more, named_all}
use Rattle.bk_proof_program.proofs.project.fetch_each.Goals as goal

pub loop-name-preserved : goal.loop-name-preserved
loop-name-preserved g c = record {
  files = search rules;
  faults = search rules;
  named = named_more c.args.names.now c.loop-name.name-index (record { ref_ptr = (0, 0); now = [] }) c.loop-name.found.items _ c.in_ok-fetch_one.field-0 (search rules) c.in_ok-push.ensures.items c.in_ok-fetch_one.ensures.name c.loop-name.invariant.named;
  told = λ files told.
      subst (Each (IsToldFile files)) (sym c.in_ok-push.ensures.items)
      (each_more (IsToldFile files) c.loop-name.found.items c.in_ok-fetch_one.field-0 (c.loop-name.invariant.told files told)
      (subst (λ n. IsTold files n c.in_ok-fetch_one.field-0.text.items) (sym c.in_ok-fetch_one.ensures.name) (c.in_ok-fetch_one.ensures.told files (c.loop-name.invariant.files ∙ told))));
  fetching = λ files told.
      subst (Fetching files (nows c.args.names.now) (nows (drop (c.loop-name.name-index + 1) c.args.names.now)))
      (sym (ap (map (λ f. f.text.items)) c.in_ok-push.ensures.items ∙ map-append (λ f. f.text.items) c.loop-name.found.items (c.in_ok-fetch_one.field-0 ∷ [])))
      (fetched_more files c.args.names.now c.loop-name.name-index (map (λ f. f.text.items) c.loop-name.found.items) (c.loop-name.invariant.fetching files told) (record { ref_ptr = (0, 0); now = [] }) c.in_ok-fetch_one.field-0.text.items (search rules) (c.in_ok-fetch_one.ensures.told files (c.loop-name.invariant.files ∙ told)));
}

pub returns-in_err-fetch_one-clause-cause : goal.returns-in_err-fetch_one-clause-cause
returns-in_err-fetch_one-clause-cause g c =
    widen c.from_residual.result
    (λ stop. (files : Files) → g.H.Shelf.files c.loop-name.shelf ≡ Some files → IsOutside stop ⊎ StopsAtFile files (get_or c.args.names.now c.loop-name.name-index record { ref_ptr = (0, 0); now = [] }).now stop)
    (λ stop. (files : Files) → g.H.Shelf.files c.args.shelf.now ≡ Some files → IsOutside stop ⊎ StopsAtFiles files (nows c.args.names.now) stop)
    (search rules)
    (λ stop h files told. or_else_stops stop _ _ (h files (c.loop-name.invariant.files ∙ told)) (fetched_stop files c.args.names.now c.loop-name.name-index (map (λ f. f.text.items) c.loop-name.found.items) (c.loop-name.invariant.fetching files told) (record { ref_ptr = (0, 0); now = [] }) stop (search rules)))

pub returns-clause-texts : goal.returns-clause-texts
returns-clause-texts g c files told = fetched_all files c.args.names.now c.loop-name.name-index (map (λ f. f.text.items) c.loop-name.found.items) (c.loop-name.invariant.fetching files told) (search rules)

pub returns-clause-names : goal.returns-clause-names
returns-clause-names g c = named_all c.args.names.now c.loop-name.name-index c.loop-name.found.items (search rules) c.loop-name.invariant.named
