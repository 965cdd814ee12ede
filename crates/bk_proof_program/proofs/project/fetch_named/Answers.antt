use Rattle.std.proofs.Common.{◌≡◌, ◌⊎◌, ◌∙◌, Some, map, ap, subst, rules}
use Rattle.bk_io.specs.Files.{Files}
use Rattle.bk_verbs.specs.Project.{AreTold, files_of}
use Rattle.bk_verbs.specs.Stops.{IsOutside, StopsAtFiles}
use Rattle.bk_verbs.proofs.Fetching.{nows}
use Rattle.bk_verbs.proofs.Stopping.{widen}
use Rattle.bk_proof_program.proofs.project.fetch_named.Goals as goal

pub returns-in_err-found-clause-cause : goal.returns-in_err-found-clause-cause
returns-in_err-found-clause-cause g c =
    widen c.from_residual-in_err-found.result
    (λ stop. (files : Files) → g.H.Shelf.files c.args.shelf.now ≡ Some files → IsOutside stop ⊎ StopsAtFiles files (nows c.deref.result.now) stop)
    (λ stop. (files : Files) → g.H.Shelf.files c.args.shelf.now ≡ Some files → IsOutside stop ⊎ StopsAtFiles files (files_of c.args.of_proofs c.args.lines.now) stop)
    (search rules)
    (λ stop h files told. subst (λ x. IsOutside stop ⊎ StopsAtFiles files x stop) (ap nows c.deref.ensures.value ∙ c.in_ok-wanted.ensures.ok) (h files told))

pub returns-clause-names : goal.returns-clause-names
returns-clause-names g c = c.in_ok-found.ensures.names ∙ (ap nows c.deref.ensures.value ∙ c.in_ok-wanted.ensures.ok)

pub returns-clause-texts : goal.returns-clause-texts
returns-clause-texts g c files told =
    subst (λ x. AreTold files x (map (λ f. f.text.items) c.in_ok-found.found.items)) (ap nows c.deref.ensures.value ∙ c.in_ok-wanted.ensures.ok) (c.in_ok-found.ensures.texts files told)
