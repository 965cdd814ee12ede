-- The tokens before the first sign or word of sequences, as the code cuts them off, and the faults of what stands so.
use Rattle.std.specs.Prelude.{◌≡◌, ◌⊎◌, ℕ, ◌+◌, ◌<◌, ◌≤◌, Bool, true, false, cond, List, [], ◌∷◌, ◌++◌, refl}
use Rattle.std.proofs.Common.{length, get_or, take, drop, inl, inr, arith, sym, subst, ◌∙◌, ap, append_assoc, append-nil, length-append}
use Rattle.std.proofs.lemmas.List.{drop_all, drop_more, take_all, take_more}
use Rattle.bk_form.specs.declared.token.Token.{Token}
use Rattle.bk_raw.specs.Errors.Places.{IsLongestWhole, IsScriptFault}
use Rattle.bk_raw.specs.Grammar.ScriptSpelling.{SpellsScripts, IsWholeScripts}
use Rattle.bk_raw.specs.Trees.ScriptTree.{RawScript}
use Rattle.bk_p_proof.specs.Unread.{before_sequences, is_unread, is_before_part, IsWithoutSequences, IsReadFault}

-- ---- as the code cuts
pub cut_goes_on : (tokens : List Token) (end : ℕ) (d : Token) (b next : Bool) → end < length tokens → before_sequences false tokens ≡ take end tokens ++ before_sequences b (drop end tokens) → is_unread b (get_or tokens end d).kind ≡ false → next ≡ is_before_part (get_or tokens end d).kind → before_sequences false tokens ≡ take (end + 1) tokens ++ before_sequences next (drop (end + 1) tokens)
cut_goes_on tokens end d b next l h n e =
    let t : Token = get_or tokens end d in
    let rest : List Token = before_sequences (is_before_part t.kind) (drop (end + 1) tokens) in
    h ∙ ap (λ ts. take end tokens ++ before_sequences b ts) (drop_more tokens end d l) ∙ ap (λ c. take end tokens ++ cond c [] (t ∷ rest)) n
    ∙ sym (append_assoc (take end tokens) (t ∷ []) rest) ∙ ap (λ ts. ts ++ rest) (sym (take_more tokens end d l)) ∙ ap (λ c. take (end + 1) tokens ++ before_sequences c (drop (end + 1) tokens)) (sym e)

pub cut_here : (tokens : List Token) (end : ℕ) (d : Token) (b : Bool) → end < length tokens → before_sequences false tokens ≡ take end tokens ++ before_sequences b (drop end tokens) → is_unread b (get_or tokens end d).kind ≡ true → take end tokens ≡ before_sequences false tokens
cut_here tokens end d b l h n =
    let t : Token = get_or tokens end d in
    let rest : List Token = before_sequences (is_before_part t.kind) (drop (end + 1) tokens) in
    sym (h ∙ ap (λ ts. take end tokens ++ before_sequences b ts) (drop_more tokens end d l) ∙ ap (λ c. take end tokens ++ cond c [] (t ∷ rest)) n ∙ append-nil (take end tokens))

pub cut_nowhere : (tokens : List Token) (end : ℕ) (b : Bool) → length tokens ≤ end → before_sequences false tokens ≡ take end tokens ++ before_sequences b (drop end tokens) → tokens ≡ before_sequences false tokens
cut_nowhere tokens end b l h = sym (h ∙ ap (λ ts. take end tokens ++ before_sequences b ts) (drop_all end tokens l) ∙ append-nil (take end tokens) ∙ take_all end tokens l)

-- ---- all tokens, or fewer
abbrev Rest : Token → List Token → List Token
Rest t ts = before_sequences (is_before_part t.kind) ts

pub same_or_shorter : (b : Bool) (tokens : List Token) → (before_sequences b tokens ≡ tokens) ⊎ (length (before_sequences b tokens) < length tokens)
same_or_shorter b [] = inl refl
same_or_shorter b (t ∷ ts) = by (is_unread b t.kind) refl (same_or_shorter (is_before_part t.kind) ts)
  where
    by : (is : Bool) → is_unread b t.kind ≡ is → (Rest t ts ≡ ts) ⊎ (length (Rest t ts) < length ts) → (before_sequences b (t ∷ ts) ≡ t ∷ ts) ⊎ (length (before_sequences b (t ∷ ts)) < length (t ∷ ts))
    by true e r =
        let none : before_sequences b (t ∷ ts) ≡ [] = λ i. cond (e i) [] (t ∷ Rest t ts) in
        inr (omega (arith, ap length none))
    by false e (inl h) = inl ((λ i. cond (e i) [] (t ∷ Rest t ts)) ∙ ap (λ us. t ∷ us) h)
    by false e (inr l) =
        let more : before_sequences b (t ∷ ts) ≡ t ∷ Rest t ts = λ i. cond (e i) [] (t ∷ Rest t ts) in
        inr (omega (arith, l, ap length more))

pub all_kept : (tokens front : List Token) → front ≡ before_sequences false tokens → (length front < length tokens → ⊥) → IsWithoutSequences tokens
all_kept tokens front e n = elim (same_or_shorter false tokens) [
  | inl same ↦ same
  | inr shorter ↦ absurd (n (omega (arith, shorter, ap length e)))
]

-- ---- faults
-- scripts that take all tokens are the longest in front
whole_cut : (ss : List RawScript) (front : List Token) → SpellsScripts ss front → IsLongestWhole IsWholeScripts front (length front)
whole_cut ss front h = record {
  front = front;
  rest = [];
  splits = sym (append-nil front);
  ends = refl;
  whole = inl (ss, h);
  longest = λ other after e k. omega (arith, ap length e, length-append other after);
}

-- scripts end where the first sign or word of sequences stands
pub cut_fault : (tokens front : List Token) (ss : List RawScript) → front ≡ before_sequences false tokens → SpellsScripts ss front → length front < length tokens → IsReadFault tokens (length front)
cut_fault tokens front ss e h l = record {
  none = λ rs k w. omega (arith, l, ap length e, ap length w);
  first = subst (λ us. IsLongestWhole IsWholeScripts us (length front)) e (whole_cut ss front h);
}

-- no scripts are written up to there
pub early_fault : (tokens front : List Token) (place : ℕ) → front ≡ before_sequences false tokens → IsScriptFault front place → length front < length tokens → IsReadFault tokens place
early_fault tokens front place e h l = record {
  none = λ rs k w. omega (arith, l, ap length e, ap length w);
  first = subst (λ us. IsLongestWhole IsWholeScripts us place) e h.first;
}

-- there are no such signs and words
pub plain_fault : (tokens : List Token) (place : ℕ) → IsWithoutSequences tokens → IsScriptFault tokens place → IsReadFault tokens place
plain_fault tokens place w h = record {
  none = λ rs k v. h.none rs k;
  first = subst (λ us. IsLongestWhole IsWholeScripts us place) (sym w) h.first;
}
