use Rattle.std.proofs.Common.{List, ℕ, take, inl, inr, refl, sym, subst, arith}
use Rattle.bk_sources.specs.Files.{Has}
use Rattle.bk_p_proof.specs.Files.{IsFaultOf, IsHigh, IsLow}
use Rattle.bk_p_proof.specs.Stages.{IsKeptOf, IsLowAs}
use Rattle.bk_sources.proofs.FileSteps.{bytes_of, read_counted, first_beside}
use Rattle.bk_p_proof.proofs.FileSteps.{kept_written, low_has, low_kept, high_kept}
use Rattle.bk_sources.proofs.Turns.{zip_has, zip_on, zip_end}
use Rattle.bk_p_proof.proofs.files.all_low.Goals as goal

pub limit-requires : goal.limit-requires
limit-requires c = omega (arith, c.loop-file-test.true, c.requires.countable, read_counted c.args.texts.now c.args.read.now IsKeptOf c.requires.kept)

pub returns-then-read-clause-fault : goal.returns-then-read-clause-fault
returns-then-read-clause-fault c =
    let texts : List (List ℕ) = bytes_of c.args.texts.now in
    let file : ℕ = c.loop-file.file in
    let fine = low_has (take file texts) (zip_has IsLowAs (take file texts) (take file c.args.read.now) c.loop-file.invariant) in
    let first = first_beside IsKeptOf (Has IsLow) IsHigh texts c.args.read.now file c.index-read-file.result c.loop-file-test.true c.index-read-file.is c.requires.kept (λ text k. high_kept text c.index-read-file.result c.if-read.true k) fine in
    subst (IsFaultOf texts) (sym c.limit.ensures) (inr (inl (refl, kept_written texts (zip_has IsKeptOf texts c.args.read.now c.requires.kept), first)))

pub loop-file-preserved : goal.loop-file-preserved
loop-file-preserved c = zip_on IsKeptOf IsLowAs (bytes_of c.args.texts.now) c.args.read.now c.loop-file.file c.index-read-file.result c.loop-file-test.true c.index-read-file.is c.requires.kept (λ text k. low_kept text c.index-read-file.result c.if-read.false k) c.loop-file.invariant

pub returns-clause-ok : goal.returns-clause-ok
returns-clause-ok c = zip_end IsKeptOf IsLowAs (bytes_of c.args.texts.now) c.args.read.now c.loop-file.file c.loop-file-test.false c.requires.kept c.loop-file.invariant
