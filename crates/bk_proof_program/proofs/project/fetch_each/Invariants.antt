use Rattle.std.proofs.Common.{◌≡◌, ◌≤◌, map, take, drop, Some}
use Rattle.bk_form.specs.Each.{Each}
use Rattle.bk_io.specs.Files.{Files}
use Rattle.bk_verbs.proofs.Fetching.{Fetching}
use Rattle.bk_proof_program.specs.Texts.{IsToldFile}
use Rattle.bk_proof_program.proofs.project.fetch_each.Given as goal

abbrev pub invariant-loop-name : goal.invariant-loop-name
invariant-loop-name g l = record {
  files : g.H.Shelf.files l.shelf ≡ g.H.Shelf.files l.fn.shelf;
  faults : g.H.Shelf.faults l.fn.shelf ≤ g.H.Shelf.faults l.shelf;
  named : map (λ f. f.name) l.found.items ≡ map (λ name. name.now) (take l.name-index l.names);
  told : (files : Files) → g.H.Shelf.files l.fn.shelf ≡ Some files → Each (IsToldFile files) l.found.items;
  fetching : (files : Files) → g.H.Shelf.files l.fn.shelf ≡ Some files → Fetching files (map (λ name. name.now) l.names) (map (λ name. name.now) (drop l.name-index l.names)) (map (λ f. f.text.items) l.found.items);
}
