use Rattle.std.proofs.Common.{◌≡◌, ◌<◌, ◌≤◌, ◌∙◌, List, ℕ, take, length, inl, inr, refl, rules, sym, subst, ap, arith}
use Rattle.bk_form.specs.declared.token.Token.{Token}
use Rattle.bk_raw.specs.Errors.Places.{IsComponentFault, byte_at}
use Rattle.bk_p_comp.specs.Faults.{IsFaultOfComponent}
use Rattle.bk_sources.specs.Files.{IsShallowText, Has}
use Rattle.bk_sources.proofs.FileSteps.{bytes_of, tokens_of, at_text, at_file, past_texts, files_counted, first_text}
use Rattle.bk_sources.proofs.Turns.{zip_at, zip_both, zip_has, zip_all}
use Rattle.bk_front.specs.Project.{IsRefusalIn, IsUnwritten, IsWritten}
use Rattle.bk_front.specs.Stages.{IsReadOf}
use Rattle.bk_front.specs.declared.reading.Read.TheVariants.{Component, High}
use Rattle.bk_front.proofs.Steps.{all_written, zip_more, low_read, high_read, unwritten, not_deep}
use Rattle.bk_front.proofs.reading.all_read.Goals as goal
use Rattle.bk_front.proofs.reading.all_read.Goals.{in-Ok+in_ok-push-in-Ok, in-Err-High+in_ok-push-in-Err-High}

pub bounds-texts-file : goal.bounds-texts-file
bounds-texts-file c = omega (arith, c.loop-file-test.true, files_counted c.args.texts.now c.args.files.now IsShallowText c.requires.shallow)

pub at_fault-requires : goal.at_fault-requires
at_fault-requires c = omega (arith, c.loop-file-test.true, c.requires.countable, files_counted c.args.texts.now c.args.files.now IsShallowText c.requires.shallow)

pub returns-in-Err-At-clause-refusal : goal.returns-in-Err-At-clause-refusal
returns-in-Err-At-clause-refusal c top kinds =
    let texts : List (List ℕ) = bytes_of c.args.texts.now in
    let files : List (List Token) = tokens_of c.args.files.now in
    let text : List ℕ = c.index-texts-file.result.items in
    let tokens : List Token = c.index-files-file.result.items in
    let file : ℕ = c.loop-file.file in
    let place : ℕ = c.in-Err-At.place in
    let inside : file < length c.args.texts.now = omega (arith, c.loop-file-test.true, files_counted c.args.texts.now c.args.files.now IsShallowText c.requires.shallow) in
    let here = at_text c.args.texts.now file c.index-texts-file.result inside c.index-texts-file.is in
    let at = at_file c.args.files.now file c.index-files-file.result c.loop-file-test.true c.index-files-file.is in
    let shallow : IsShallowText text tokens = zip_both IsShallowText texts files file text tokens at.0 here.1 at.1 c.requires.shallow in
    let long : length text ≡ c.len.result = search rules in
    let fault : IsComponentFault tokens place = subst (λ ts. IsComponentFault ts place) c.deref.ensures.value (subst (IsFaultOfComponent c.deref.result.now) c.in-Err-At.field-0-is c.in-Err-At.ensures.fault).1 in
    let byte : c.byte_of.result ≡ byte_at c.len.result c.deref-in-Err-At.result.now place = c.byte_of.ensures in
    let byte_here : c.byte_of.result ≡ byte_at (length text) tokens place = byte ∙ ap (λ n. byte_at n c.deref-in-Err-At.result.now place) (sym long) ∙ ap (λ ts. byte_at (length text) ts place) c.deref-in-Err-At.ensures.value in
    let fine = all_written (take file texts) c.loop-file.all.items c.loop-file.invariant in
    let first = first_text (Has IsWritten) (IsUnwritten c.byte_of.result) texts file text here.0 here.1 fine (unwritten text tokens place c.byte_of.result shallow fault byte_here) in
    subst (IsRefusalIn top kinds texts) (sym c.at_fault.ensures) (file, refl, inr (inl (refl, zip_has IsShallowText texts files c.requires.shallow, first)))

pub past_limit-requires : goal.past_limit-requires
past_limit-requires c = omega (arith, c.loop-file-test.true, c.requires.countable, files_counted c.args.texts.now c.args.files.now IsShallowText c.requires.shallow)

pub returns-in-Err-Depth-clause-refusal : goal.returns-in-Err-Depth-clause-refusal
returns-in-Err-Depth-clause-refusal c top kinds =
    let file : ℕ = c.loop-file.file in
    let at = at_file c.args.files.now file c.index-files-file.result c.loop-file-test.true c.index-files-file.is in
    let beside = zip_at IsShallowText (bytes_of c.args.texts.now) (tokens_of c.args.files.now) file c.index-files-file.result.items at.0 at.1 c.requires.shallow in
    let shallow : IsShallowText beside.item c.deref.result.now = subst (IsShallowText beside.item) (sym c.deref.ensures.value) beside.so in
    absurd (not_deep c.deref.result.now c.in-Err-Depth.field-0-0 shallow.shallow (subst (IsFaultOfComponent c.deref.result.now) c.in-Err-Depth.field-0-is c.in-Err-Depth.ensures.fault))

pub loop-file-preserved : goal.loop-file-preserved
loop-file-preserved c =
    let texts : List (List ℕ) = bytes_of c.args.texts.now in
    let file : ℕ = c.loop-file.file in
    let at = at_file c.args.files.now file c.index-files-file.result c.loop-file-test.true c.index-files-file.is in
    elim c.match-component.branch [
      | in-Ok+in_ok-push-in-Ok w ↦
          zip_more texts (tokens_of c.args.files.now) file c.index-files-file.result.items c.deref.result.now c.loop-file.all.items c.match-component.all.items (Component w.in-Ok.component) at.0 at.1 c.requires.shallow c.deref.ensures.value (ap (λ v. v.items) w.all-is ∙ w.in_ok-push-in-Ok.ensures.items) c.loop-file.invariant
          (λ text shallow. low_read text c.deref.result.now w.in-Ok.component shallow w.in-Ok.ensures.ok w.in-Ok.ensures.low)
      | in-Err-High+in_ok-push-in-Err-High w ↦
          zip_more texts (tokens_of c.args.files.now) file c.index-files-file.result.items c.deref.result.now c.loop-file.all.items c.match-component.all.items High at.0 at.1 c.requires.shallow c.deref.ensures.value (ap (λ v. v.items) w.all-is ∙ w.in_ok-push-in-Err-High.ensures.items) c.loop-file.invariant
          (λ text shallow. high_read text c.deref.result.now shallow (subst (IsFaultOfComponent c.deref.result.now) w.in-Err-High.field-0-is w.in-Err-High.ensures.fault))
    ]

pub returns-clause-each : goal.returns-clause-each
returns-clause-each c =
    let past : length c.args.texts.now ≤ c.loop-file.file = omega (arith, c.loop-file-test.false, files_counted c.args.texts.now c.args.files.now IsShallowText c.requires.shallow) in
    zip_all IsReadOf (bytes_of c.args.texts.now) c.loop-file.all.items c.loop-file.file (past_texts c.args.texts.now c.loop-file.file past) c.loop-file.invariant
