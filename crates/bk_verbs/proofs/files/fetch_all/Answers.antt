use Rattle.std.proofs.Common.{rules, get_or, subst, sym, ap, ◌≡◌, ◌∷◌, [], Some, map, ◌⊎◌, ◌∙◌, drop, ◌+◌}
use Rattle.std.proofs.lemmas.List.{map-append}
use Rattle.bk_io.specs.Files.{Files}
use Rattle.bk_verbs.specs.Stops.{IsOutside, StopsAtFile, StopsAtFiles}
use Rattle.bk_verbs.proofs.Stopping.{widen, or_else_stops}
use Rattle.bk_verbs.proofs.Fetching.{Fetching, nows, fetched_more, fetched_stop, fetched_all}
use Rattle.bk_verbs.proofs.files.fetch_all.Goals as goal

pub returns-in_err-fetch-clause-cause : goal.returns-in_err-fetch-clause-cause
returns-in_err-fetch-clause-cause g c =
    widen c.from_residual.result
    (λ stop. (files : Files) → g.H.Shelf.files c.loop-name.shelf ≡ Some files → IsOutside stop ⊎ StopsAtFile files (get_or c.args.names.now c.loop-name.name-index record { ref_ptr = (0, 0); now = [] }).now stop)
    (λ stop. (files : Files) → g.H.Shelf.files c.args.shelf.now ≡ Some files → IsOutside stop ⊎ StopsAtFiles files (nows c.args.names.now) stop)
    (search rules)
    (λ stop h files told. or_else_stops stop _ _ (h files (c.loop-name.invariant.files ∙ told)) (fetched_stop files c.args.names.now c.loop-name.name-index (map (λ text. text.items) c.loop-name.texts.items) (c.loop-name.invariant.fetching files told) (record { ref_ptr = (0, 0); now = [] }) stop (search rules)))

pub loop-name-preserved : goal.loop-name-preserved
loop-name-preserved g c = record {
  files = search rules;
  faults = search rules;
  absences = search rules;
  fetching = λ files told.
      subst (Fetching files (nows c.args.names.now) (nows (drop (c.loop-name.name-index + 1) c.args.names.now)))
      (sym (ap (map (λ text. text.items)) c.in_ok-push.ensures.items ∙ map-append (λ text. text.items) c.loop-name.texts.items (c.in_ok-fetch.field-0 ∷ [])))
      (fetched_more files c.args.names.now c.loop-name.name-index (map (λ text. text.items) c.loop-name.texts.items) (c.loop-name.invariant.fetching files told) (record { ref_ptr = (0, 0); now = [] }) c.in_ok-fetch.field-0.items (search rules) (c.in_ok-fetch.ensures.told files (c.loop-name.invariant.files ∙ told)));
  each = search rules;
}

pub returns-clause-told : goal.returns-clause-told
returns-clause-told g c files told = fetched_all files c.args.names.now c.loop-name.name-index (map (λ text. text.items) c.loop-name.texts.items) (c.loop-name.invariant.fetching files told) (search rules)
