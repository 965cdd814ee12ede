use Rattle.std.proofs.Common.{◌≡◌, ◌≤◌, map, drop, length, Some}
use Rattle.bk_io.specs.Files.{Files}
use Rattle.bk_verbs.proofs.Fetching.{Fetching}
use Rattle.bk_verbs.proofs.files.fetch_all.Given as goal

abbrev pub invariant-loop-name : goal.invariant-loop-name
invariant-loop-name g l = record {
  files : g.H.Shelf.files l.shelf ≡ g.H.Shelf.files l.fn.shelf;
  faults : g.H.Shelf.faults l.fn.shelf ≤ g.H.Shelf.faults l.shelf;
  absences : g.H.Shelf.absences l.fn.shelf ≤ g.H.Shelf.absences l.shelf;
  fetching : (files : Files) → g.H.Shelf.files l.fn.shelf ≡ Some files → Fetching files (map (λ name. name.now) l.names) (map (λ name. name.now) (drop l.name-index l.names)) (map (λ text. text.items) l.texts.items);
  each : length l.texts.items ≡ l.name-index;
}
