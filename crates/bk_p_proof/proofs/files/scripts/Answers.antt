use Rattle.std.proofs.Common.{◌≢◌, sym, subst}
use Rattle.std.specs.List.{AllPairs, AllZip}
use Rattle.bk_p_proof.specs.Files.{AreScriptsOf}
use Rattle.bk_p_proof.specs.Stages.{IsProofFileAs}
use Rattle.bk_sources.proofs.FileSteps.{bytes_of}
use Rattle.bk_p_proof.proofs.FileSteps.{all_names, scripts_told}
use Rattle.bk_p_proof.proofs.files.scripts.Goals as goal

pub of_texts-requires : goal.of_texts-requires
of_texts-requires c =
    let read = c.in_ok-read.read.items in
    let each : AllZip IsProofFileAs (bytes_of c.args.texts.now) read = subst (AllZip IsProofFileAs (bytes_of c.args.texts.now)) c.deref-3.ensures.value c.in_ok-all_short.ensures.ok in
    let distinct : AllPairs (λ a b. a ≢ b) (all_names read) = subst (λ fs. AllPairs (λ a b. a ≢ b) (all_names fs)) c.deref-4.ensures.value c.in_ok-all_differ.ensures.ok in
    (bytes_of c.args.texts.now, scripts_told (bytes_of c.args.texts.now) read c.in_ok-all.all.items each c.in_ok-all.ensures distinct)

pub returns-clause-value : goal.returns-clause-value
returns-clause-value c =
    let read = c.in_ok-read.read.items in
    let each : AllZip IsProofFileAs (bytes_of c.args.texts.now) read = subst (AllZip IsProofFileAs (bytes_of c.args.texts.now)) c.deref-3.ensures.value c.in_ok-all_short.ensures.ok in
    let distinct : AllPairs (λ a b. a ≢ b) (all_names read) = subst (λ fs. AllPairs (λ a b. a ≢ b) (all_names fs)) c.deref-4.ensures.value c.in_ok-all_differ.ensures.ok in
    subst (AreScriptsOf (bytes_of c.args.texts.now)) (sym c.of_texts.ensures) (scripts_told (bytes_of c.args.texts.now) read c.in_ok-all.all.items each c.in_ok-all.ensures distinct)
