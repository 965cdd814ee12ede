use Rattle.std.proofs.Common.{◌≢◌, ◌++◌, List, ℕ, map, take, inr, refl, sym, subst, ◌∙◌, ap, arith}
use Rattle.std.specs.List.{AllPairs}
use Rattle.std.proofs.lemmas.List.{take_all}
use Rattle.bk_p_expr.proofs.Choices.{if_none, if_some}
use Rattle.bk_p_proof.specs.Files.{IsFaultOf, names_of}
use Rattle.bk_p_proof.specs.Keys.{HasKeys, IsAgain}
use Rattle.bk_p_proof.specs.Stages.{IsProofFileAs}
use Rattle.bk_sources.proofs.FileSteps.{bytes_of, read_counted}
use Rattle.bk_p_proof.proofs.FileSteps.{all_names, scripts_of, names_on, twice_named, each_file}
use Rattle.bk_p_proof.proofs.files.all_differ.Goals as goal

pub fault-requires : goal.fault-requires
fault-requires c = omega (arith, c.loop-file-test.true, c.requires.countable, read_counted c.args.texts.now c.args.read.now IsProofFileAs c.requires.files)

pub returns-in-Some-clause-fault : goal.returns-in-Some-clause-fault
returns-in-Some-clause-fault c =
    let texts : List (List ℕ) = bytes_of c.args.texts.now in
    let read = c.args.read.now in
    let file : ℕ = c.loop-file.file in
    let f = c.index-read-file.result in
    let h = c.in_ok-place.ensures (all_names (take file read)) c.loop-file.invariant.keys c.loop-file.invariant.differ in
    let again : IsAgain (all_names (take file read)) f.scripts.items c.in-Some.place = subst (λ ss. IsAgain (all_names (take file read)) ss c.in-Some.place) c.deref.ensures.value (if_some _ _ _ _ h c.in-Some.is) in
    subst (IsFaultOf texts) (sym c.fault.ensures) (inr (inr (refl, (scripts_of read, each_file texts read c.requires.files, twice_named read file f c.in-Some.place c.loop-file-test.true c.index-read-file.is again))))

pub loop-file-preserved : goal.loop-file-preserved
loop-file-preserved c =
    let read = c.args.read.now in
    let file : ℕ = c.loop-file.file in
    let f = c.index-read-file.result in
    let h = c.in_ok-place.ensures (all_names (take file read)) c.loop-file.invariant.keys c.loop-file.invariant.differ in
    let k = if_none _ _ _ h c.in_default.is in
    let on = ap (λ ss. all_names (take file read) ++ names_of ss) c.deref.ensures.value ∙ sym (names_on read file f c.loop-file-test.true c.index-read-file.is) in
    record {
      keys = subst (λ ns. HasKeys ns (map (λ key. key.items) c.twice.new.self.keys.keys)) on k.0;
      differ = subst (AllPairs (λ a b. a ≢ b)) on k.1;
    }

pub returns-clause-ok : goal.returns-clause-ok
returns-clause-ok c = subst (λ fs. AllPairs (λ a b. a ≢ b) (all_names fs)) (take_all c.loop-file.file c.args.read.now c.loop-file-test.false) c.loop-file.invariant.differ
