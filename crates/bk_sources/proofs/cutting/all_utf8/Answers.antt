use Rattle.std.proofs.Common.{List, ℕ, inl, refl, sym, subst}
use Rattle.std.specs.Str.{IsUtf8, IsValidUpTo}
use Rattle.bk_sources.specs.Files.{IsFaultOf, IsNoUtf8}
use Rattle.bk_sources.proofs.FileSteps.{bytes_of, at_text, past_texts, ok_of, first_text}
use Rattle.bk_sources.proofs.Turns.{all_on, all_end}
use Rattle.bk_sources.proofs.cutting.all_utf8.Goals as goal

pub returns-in-Err-clause-fault : goal.returns-in-Err-clause-fault
returns-in-Err-clause-fault c =
    let texts : List (List ℕ) = bytes_of c.args.texts.now in
    let text : List ℕ = c.index-texts-file.result.items in
    let at = at_text c.args.texts.now c.loop-file.file c.index-texts-file.result c.loop-file-test.true c.index-texts-file.is in
    let h = c.in-Err.ensures.cases in
    let upto : IsValidUpTo c.deref.result.now c.valid_up_to.result = subst (IsValidUpTo c.deref.result.now) (sym c.valid_up_to.ensures) h.1 in
    let none : IsNoUtf8 c.valid_up_to.result text = subst (IsNoUtf8 c.valid_up_to.result) c.deref.ensures.value (h.0, upto) in
    subst (IsFaultOf texts) (sym c.fault.ensures) (inl (refl, first_text IsUtf8 (IsNoUtf8 c.valid_up_to.result) texts c.loop-file.file text at.0 at.1 c.loop-file.invariant none))

pub loop-file-preserved : goal.loop-file-preserved
loop-file-preserved c =
    let at = at_text c.args.texts.now c.loop-file.file c.index-texts-file.result c.loop-file-test.true c.index-texts-file.is in
    let h = ok_of _ _ _ c.in_default.field-0 c.from_utf8.ensures.cases c.in_default.is in
    let utf8 : IsUtf8 c.index-texts-file.result.items = subst IsUtf8 c.deref.ensures.value h.1 in
    all_on IsUtf8 (bytes_of c.args.texts.now) c.loop-file.file c.index-texts-file.result.items at.0 at.1 c.loop-file.invariant utf8

pub returns-clause-ok : goal.returns-clause-ok
returns-clause-ok c = all_end IsUtf8 (bytes_of c.args.texts.now) c.loop-file.file (past_texts c.args.texts.now c.loop-file.file c.loop-file-test.false) c.loop-file.invariant
