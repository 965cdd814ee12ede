use Rattle.std.proofs.Common.{◌≡◌, ◌∙◌, All, inl, inr, arith, sym, subst, ap}
use Rattle.bk_p_expr.proofs.Choices.{if_none, if_some}
use Rattle.bk_raw.specs.Errors.Places.{IsScriptFault, byte_at}
use Rattle.bk_p_proof.specs.Spelled.{IsMisspelled}
use Rattle.bk_p_proof.specs.TypedNames.{AreOfOneType, IsSecondType, script_names}
use Rattle.bk_p_proof.specs.Unread.{IsWithoutSequences}
use Rattle.bk_p_proof.proofs.FileSteps.{typed_over, second_over}
use Rattle.bk_p_proof.proofs.SequenceCuts.{all_kept, plain_fault}
use Rattle.bk_p_proof.proofs.files.one_read.Goals as goal

pub unread_at-requires-clause-cut : goal.unread_at-requires-clause-cut
unread_at-requires-clause-cut c = c.before_sequences-front.ensures

pub returns-then-front-tokens-clause-fault : goal.returns-then-front-tokens-clause-fault
returns-then-front-tokens-clause-fault c text long shallow = c.unread_at.ensures text long shallow

pub returns-in-Some-clause-fault : goal.returns-in-Some-clause-fault
returns-in-Some-clause-fault c text long shallow =
    let plain : IsWithoutSequences c.args.tokens.now = all_kept c.args.tokens.now c.before_sequences-front.result.now c.before_sequences-front.ensures (λ l. omega (arith, l, c.if-front-tokens.false)) in
    let r = c.in-Ok.ensures.ok in
    let kept : IsSecondType c.in-Ok.read.scripts.items c.in-Some.place = subst (λ ks. IsSecondType ks c.in-Some.place) c.deref.ensures.value (if_some _ _ _ _ c.in_ok-place-in-Ok.ensures c.in-Some.is) in
    (c.args.tokens.now, shallow, inr (r.0, r.1, second_over r.0 c.in-Ok.read.scripts.items c.in-Ok.read.is_high c.in-Some.place r.2 kept, plain))

pub returns-in-None-clause-ok : goal.returns-in-None-clause-ok
returns-in-None-clause-ok c text long shallow =
    let plain : IsWithoutSequences c.args.tokens.now = all_kept c.args.tokens.now c.before_sequences-front.result.now c.before_sequences-front.ensures (λ l. omega (arith, l, c.if-front-tokens.false)) in
    let r = c.in-Ok.ensures.ok in
    let typed = typed_over r.0 c.in-Ok.read.scripts.items c.in-Ok.read.is_high r.2 (subst (λ ks. All (λ s. AreOfOneType (script_names s)) ks) c.deref.ensures.value (if_none _ _ _ c.in_ok-place-in-Ok.ensures c.in-None.is)) in
    (r.0, record { tokens = c.args.tokens.now; shallow = shallow; spelled = r.1; plain = plain; typed = typed }, r.2)

pub returns-in-Err-At-clause-fault : goal.returns-in-Err-At-clause-fault
returns-in-Err-At-clause-fault c text long shallow =
    let plain : IsWithoutSequences c.args.tokens.now = all_kept c.args.tokens.now c.before_sequences-front.result.now c.before_sequences-front.ensures (λ l. omega (arith, l, c.if-front-tokens.false)) in
    let bad : IsScriptFault c.args.tokens.now c.in-Err-At.place = subst (IsMisspelled c.args.tokens.now) c.in-Err-At.field-0-is c.in-Err-At.ensures.fault in
    let byte : c.byte_of.result ≡ byte_at c.args.bytes c.args.tokens.now c.in-Err-At.place = rw c.in-Err-At.field-0-is at c.byte_of.ensures in
    (c.args.tokens.now, shallow, inl (c.in-Err-At.place, plain_fault c.args.tokens.now c.in-Err-At.place plain bad, byte ∙ ap (λ n. byte_at n c.args.tokens.now c.in-Err-At.place) (sym long)))
