use Rattle.std.proofs.Common.{◌≡◌, ◌<◌, ◌≤◌, List, ℕ, take, length, inl, inr, refl, rules, sym, subst, arith}
use Rattle.bk_form.specs.declared.token.Token.{Token}
use Rattle.bk_p_proof.specs.declared.fault.ScriptFault.TheVariants.{Fault}
use Rattle.bk_sources.specs.Files.{IsShallowText, Has}
use Rattle.bk_p_proof.specs.Files.{IsFaultOf, IsUnwritten, IsWritten}
use Rattle.bk_p_proof.specs.Stages.{IsKeptOf, IsUnwrittenAt}
use Rattle.bk_sources.proofs.FileSteps.{bytes_of, tokens_of, at_text, at_file, past_texts, files_counted, first_text}
use Rattle.bk_p_proof.proofs.FileSteps.{kept_written}
use Rattle.bk_sources.proofs.Turns.{zip_both, zip_has, zip_push, zip_all}
use Rattle.bk_p_proof.proofs.files.all_read.Goals as goal

pub bounds-texts-file : goal.bounds-texts-file
bounds-texts-file c = omega (arith, c.loop-file-test.true, files_counted c.args.texts.now c.args.files.now IsShallowText c.requires.shallow)

pub fault-requires : goal.fault-requires
fault-requires c = omega (arith, c.loop-file-test.true, c.requires.countable, files_counted c.args.texts.now c.args.files.now IsShallowText c.requires.shallow)

pub returns-in-Err-At-clause-fault : goal.returns-in-Err-At-clause-fault
returns-in-Err-At-clause-fault c =
    let texts : List (List ℕ) = bytes_of c.args.texts.now in
    let files : List (List Token) = tokens_of c.args.files.now in
    let text : List ℕ = c.index-texts-file.result.items in
    let tokens : List Token = c.index-files-file.result.items in
    let file : ℕ = c.loop-file.file in
    let inside : file < length c.args.texts.now = omega (arith, c.loop-file-test.true, files_counted c.args.texts.now c.args.files.now IsShallowText c.requires.shallow) in
    let here = at_text c.args.texts.now file c.index-texts-file.result inside c.index-texts-file.is in
    let at = at_file c.args.files.now file c.index-files-file.result c.loop-file-test.true c.index-files-file.is in
    let shallow : IsShallowText text tokens = zip_both IsShallowText texts files file text tokens at.0 here.1 at.1 c.requires.shallow in
    let long : length text ≡ c.len.result = search rules in
    let bad : IsUnwritten c.in-Err-At.place text = subst (IsUnwrittenAt text) c.in-Err-At.field-0-is (c.in-Err-At.ensures.fault text long (subst (IsShallowText text) (sym c.deref.ensures.value) shallow)) in
    let fine = kept_written (take file texts) (zip_has IsKeptOf (take file texts) c.loop-file.all.items c.loop-file.invariant) in
    let told : c.fault.result ≡ Fault 3 file c.in-Err-At.place = rw c.in-Err-At.field-0-is at c.fault.ensures in
    subst (IsFaultOf texts) (sym told) (inr (inl (refl, zip_has IsShallowText texts files c.requires.shallow, first_text (Has IsWritten) (IsUnwritten c.in-Err-At.place) texts file text here.0 here.1 fine bad)))

pub loop-file-preserved : goal.loop-file-preserved
loop-file-preserved c =
    let texts : List (List ℕ) = bytes_of c.args.texts.now in
    let files : List (List Token) = tokens_of c.args.files.now in
    let text : List ℕ = c.index-texts-file.result.items in
    let tokens : List Token = c.index-files-file.result.items in
    let file : ℕ = c.loop-file.file in
    let inside : file < length c.args.texts.now = omega (arith, c.loop-file-test.true, files_counted c.args.texts.now c.args.files.now IsShallowText c.requires.shallow) in
    let here = at_text c.args.texts.now file c.index-texts-file.result inside c.index-texts-file.is in
    let at = at_file c.args.files.now file c.index-files-file.result c.loop-file-test.true c.index-files-file.is in
    let shallow : IsShallowText text tokens = zip_both IsShallowText texts files file text tokens at.0 here.1 at.1 c.requires.shallow in
    let long : length text ≡ c.len.result = search rules in
    let kept : IsKeptOf text c.in-Ok.read = c.in-Ok.ensures.ok text long (subst (IsShallowText text) (sym c.deref.ensures.value) shallow) in
    zip_push IsKeptOf texts file text c.loop-file.all.items c.push.new.self.items c.in-Ok.read here.0 here.1 c.in_ok-push-in-Ok.ensures.items c.loop-file.invariant kept

pub returns-clause-ok : goal.returns-clause-ok
returns-clause-ok c =
    let past : length c.args.texts.now ≤ c.loop-file.file = omega (arith, c.loop-file-test.false, files_counted c.args.texts.now c.args.files.now IsShallowText c.requires.shallow) in
    zip_all IsKeptOf (bytes_of c.args.texts.now) c.loop-file.all.items c.loop-file.file (past_texts c.args.texts.now c.loop-file.file past) c.loop-file.invariant
