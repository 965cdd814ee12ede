use Rattle.std.proofs.Common.{List, ℕ, take, All, inr, refl, sym, subst, ◌∙◌, arith}
use Rattle.std.proofs.lemmas.Bool.{false≢true}
use Rattle.bk_sources.specs.Files.{Has}
use Rattle.bk_p_proof.specs.Files.{IsFaultOf, IsLong, IsProofFile, IsShort}
use Rattle.bk_p_proof.specs.Stages.{IsLowAs, IsProofFileAs}
use Rattle.bk_sources.proofs.FileSteps.{bytes_of, read_counted, first_beside}
use Rattle.bk_p_proof.proofs.FileSteps.{low_has, file_has, short_kept, long_kept}
use Rattle.bk_sources.proofs.Turns.{zip_has, zip_on, zip_end}
use Rattle.bk_p_proof.proofs.files.all_short.Goals as goal

pub limit-requires : goal.limit-requires
limit-requires c = omega (arith, c.loop-file-test.true, c.requires.countable, read_counted c.args.texts.now c.args.read.now IsLowAs c.requires.low)

pub returns-then-not-are_short-clause-fault : goal.returns-then-not-are_short-clause-fault
returns-then-not-are_short-clause-fault c =
    let texts : List (List ℕ) = bytes_of c.args.texts.now in
    let file : ℕ = c.loop-file.file in
    let long : All IsShort c.index-read-file.result.scripts.items → ⊥ = λ s. false≢true (sym c.if-not-are_short.true ∙ c.are_short.ensures.1 (subst (All IsShort) (sym c.deref.ensures.value) s)) in
    let fine = file_has (take file texts) (zip_has IsProofFileAs (take file texts) (take file c.args.read.now) c.loop-file.invariant) in
    let first = first_beside IsLowAs (Has IsProofFile) IsLong texts c.args.read.now file c.index-read-file.result c.loop-file-test.true c.index-read-file.is c.requires.low (λ text k. long_kept text c.index-read-file.result long k) fine in
    subst (IsFaultOf texts) (sym c.limit.ensures) (inr (inr (refl, low_has texts (zip_has IsLowAs texts c.args.read.now c.requires.low), first)))

pub loop-file-preserved : goal.loop-file-preserved
loop-file-preserved c =
    let short : All IsShort c.index-read-file.result.scripts.items = subst (All IsShort) c.deref.ensures.value (c.are_short.ensures.0 c.if-not-are_short.false) in
    zip_on IsLowAs IsProofFileAs (bytes_of c.args.texts.now) c.args.read.now c.loop-file.file c.index-read-file.result c.loop-file-test.true c.index-read-file.is c.requires.low (λ text k. short_kept text c.index-read-file.result short k) c.loop-file.invariant

pub returns-clause-ok : goal.returns-clause-ok
returns-clause-ok c = zip_end IsLowAs IsProofFileAs (bytes_of c.args.texts.now) c.args.read.now c.loop-file.file c.loop-file-test.false c.requires.low c.loop-file.invariant
