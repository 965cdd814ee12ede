use Rattle.std.proofs.Common.{◌∙◌, inl, sym, subst, ap, length}
use Rattle.bk_raw.specs.Errors.Places.{IsScriptFault, byte_at}
use Rattle.bk_p_proof.specs.Spelled.{IsMisspelled}
use Rattle.bk_p_proof.specs.Stages.{IsUnwrittenAt}
use Rattle.bk_p_proof.proofs.SequenceCuts.{cut_fault, early_fault}
use Rattle.bk_p_proof.proofs.files.unread_at.Goals as goal
use Rattle.bk_p_proof.proofs.files.unread_at.Goals.{in-Ok, in-Err-At, in-Err-Memory}

pub returns : goal.returns
returns c text long shallow =
    let tokens = c.args.tokens.now in
    let front = c.args.front.now in
    elim c.match-file_scripts.branch [
      | in-Ok w ↦
          let r = w.in-Ok.ensures.ok in
          let bad = cut_fault tokens front r.0 c.requires.cut r.1 c.requires.shorter in
          subst (IsUnwrittenAt text) (sym w.result-is) (tokens, shallow, inl (length front, bad, w.byte_of.ensures ∙ ap (λ n. byte_at n tokens (length front)) (sym long)))
      | in-Err-At w ↦
          let bad : IsScriptFault front w.in-Err-At.place = subst (IsMisspelled front) w.in-Err-At.field-0-is w.in-Err-At.ensures.fault in
          let late = early_fault tokens front w.in-Err-At.place c.requires.cut bad c.requires.shorter in
          subst (IsUnwrittenAt text) (sym w.result-is) (tokens, shallow, inl (w.in-Err-At.place, late, w.byte_of-in-Err-At.ensures ∙ ap (λ n. byte_at n tokens w.in-Err-At.place) (sym long)))
      | in-Err-Memory w ↦ subst (IsUnwrittenAt text) (sym w.result-is) tt
    ]
