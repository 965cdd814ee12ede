-- A project file has one fault or limit.
use Rattle.std.specs.Prelude.{◌≡◌, ◌⊎◌, ℕ, suc, ◌<◌, true, List, [], ◌∷◌, ◌++◌, length, None}
use Rattle.std.specs.List.{AllZip}
use Rattle.std.proofs.Common.{inl, inr, ap, sym, subst, ◌∙◌, append_assoc}
use Rattle.std.proofs.lemmas.Str.{utf8_valid_len-IsValidUpTo}
use Rattle.bk_lines.specs.Lines.{kept_lines}
use Rattle.bk_sources.proofs.OneFault.{order, front_in}
use Rattle.bk_front.specs.declared.project_file.ProjectLine.{ProjectLine}
use Rattle.bk_front.specs.declared.refusal.Refusal.TheVariants.{Fault, Limit, Memory}
use Rattle.bk_front.specs.ProjectFile.{IsProjectLine, placed_kinds, behind_range, IsChain, IsRightSoFar, kept_of, IsWrongLine, HasNoMachine, NamesTooMany}
use Rattle.bk_front.specs.Laws.{LinesHaveOneRefusal}
use Rattle.bk_front.proofs.ProjectFiles.{lines_once, Cut, cut_at, kept_join, kept_one, kinds_join, all_go_on, go_on_front, right_goes_on, is_right, not_chain}

-- no lines go on behind a wrong one
wrong_not : (text : List ℕ) (place : ℕ) (w : IsWrongLine text place) (after : List (List ℕ)) (named : List ProjectLine) → AllZip IsProjectLine (kept_of (w.before ++ w.line ∷ after)) named → IsRightSoFar (placed_kinds named) → ⊥
wrong_not text place w after named h right =
    let kept : kept_of (w.before ++ w.line ∷ after) ≡ kept_of w.before ++ w.line ∷ kept_of after = kept_join w.before (w.line ∷ after) ∙ ap (λ ls. kept_of w.before ++ ls) (kept_one w.line after w.counts) in
    let c : Cut (kept_of w.before) w.line named = cut_at (kept_of w.before) (kept_of after) w.line named (subst (λ ls. AllZip IsProjectLine ls named) kept h) in
    let same : c.front ≡ w.named = lines_once (kept_of w.before) c.front w.named c.before w.so_far in
    let splits : named ≡ (w.named ++ c.item ∷ []) ++ c.back = c.splits ∙ ap (λ ls. ls ++ c.item ∷ c.back) same ∙ sym (append_assoc w.named (c.item ∷ []) c.back) in
    let kinds : placed_kinds named ≡ placed_kinds (w.named ++ c.item ∷ []) ++ placed_kinds c.back = ap placed_kinds splits ∙ kinds_join (w.named ++ c.item ∷ []) c.back in
    let all : all_go_on None (placed_kinds (w.named ++ c.item ∷ []) ++ placed_kinds c.back) ≡ true = ap (all_go_on None) (sym kinds) ∙ right_goes_on (placed_kinds named) right in
    w.wrong c.item c.is (is_right (placed_kinds (w.named ++ c.item ∷ [])) (go_on_front None (placed_kinds (w.named ++ c.item ∷ [])) (placed_kinds c.back) all))

wrong_not_all : (text : List ℕ) (place : ℕ) → IsWrongLine text place → (named : List ProjectLine) → AllZip IsProjectLine (kept_lines text) named → IsRightSoFar (placed_kinds named) → ⊥
wrong_not_all text place w named h right = wrong_not text place w w.after named (subst (λ ls. AllZip IsProjectLine (kept_of ls) named) w.splits h) right

wrong_before : (text : List ℕ) (p q : ℕ) (h : IsWrongLine text p) (k : IsWrongLine text q) → length h.before < length k.before → ⊥
wrong_before text p q h k l =
    let r = front_in h.before h.line h.after k.before k.line k.after (sym h.splits ∙ k.splits) l in
    wrong_not text p h r.0 k.named (subst (λ ls. AllZip IsProjectLine (kept_of ls) k.named) r.1 k.so_far) k.right

wrong_by : (text : List ℕ) (p q : ℕ) (h : IsWrongLine text p) (k : IsWrongLine text q) → (length h.before < length k.before) ⊎ ((length h.before ≡ length k.before) ⊎ (length k.before < length h.before)) → p ≡ q
wrong_by text p q h k (inl l) = absurd (wrong_before text p q h k l)
wrong_by text p q h k (inr (inl e)) = sym h.counted ∙ ap suc e ∙ k.counted
wrong_by text p q h k (inr (inr l)) = absurd (wrong_before text q p k h l)

abbrev Stops : List ℕ → ℕ → Type 0
Stops text place = IsWrongLine text place ⊎ HasNoMachine text place

one_stop : (text : List ℕ) (p q : ℕ) → Stops text p → Stops text q → p ≡ q
one_stop text p q (inl h) (inl k) = wrong_by text p q h k (order (length h.before) (length k.before))
one_stop text p q (inl h) (inr k) = absurd (wrong_not_all text p h k.named k.written (inl k.none))
one_stop text p q (inr h) (inl k) = absurd (wrong_not_all text q k h.named h.written (inl h.none))
one_stop text p q (inr h) (inr k) = sym h.counted ∙ k.counted

stop_or_many : (text : List ℕ) (p : ℕ) → Stops text p → NamesTooMany text → ⊥
stop_or_many text p (inl h) m = wrong_not_all text p h m.named m.written (inr m.chain)
stop_or_many text p (inr h) m = not_chain (subst IsChain (ap (λ ls. behind_range (placed_kinds ls)) (lines_once (kept_lines text) m.named h.named m.written h.written) ∙ h.none) m.chain)

pub lines_have_one_refusal : LinesHaveOneRefusal
lines_have_one_refusal text (Fault m f p) (Fault n g q) (e, inl (a, u, v)) o (d, inl (b, w, x)) r =
    let number : m ≡ n = a ∙ sym b in
    let file : f ≡ g = e ∙ sym d in
    let place : p ≡ q = sym (utf8_valid_len-IsValidUpTo text p v) ∙ utf8_valid_len-IsValidUpTo text q x in
    λ i. Fault (number i) (file i) (place i)
lines_have_one_refusal text (Fault m f p) (Fault n g q) (e, inl (a, u, v)) o (d, inr (b, w, x)) r = absurd (u w)
lines_have_one_refusal text (Fault m f p) (Fault n g q) (e, inr (a, u, v)) o (d, inl (b, w, x)) r = absurd (w u)
lines_have_one_refusal text (Fault m f p) (Fault n g q) (e, inr (a, u, v)) o (d, inr (b, w, x)) r =
    let number : m ≡ n = a ∙ sym b in
    let file : f ≡ g = e ∙ sym d in
    let place : p ≡ q = one_stop text p q v x in
    λ i. Fault (number i) (file i) (place i)
lines_have_one_refusal text (Fault m f p) (Limit n g) (e, inl (a, u, v)) o (b, d, w, x) r = absurd (u w)
lines_have_one_refusal text (Fault m f p) (Limit n g) (e, inr (a, u, v)) o (b, d, w, x) r = absurd (stop_or_many text p v x)
lines_have_one_refusal text (Limit m f) (Fault n g q) (a, e, u, v) o (d, inl (b, w, x)) r = absurd (w u)
lines_have_one_refusal text (Limit m f) (Fault n g q) (a, e, u, v) o (d, inr (b, w, x)) r = absurd (stop_or_many text q x v)
lines_have_one_refusal text (Limit m f) (Limit n g) (a, e, u, v) o (b, d, w, x) r =
    let number : m ≡ n = a ∙ sym b in
    let file : f ≡ g = e ∙ sym d in
    λ i. Limit (number i) (file i)
lines_have_one_refusal text one Memory h o k r = absurd r
lines_have_one_refusal text Memory other h o k r = absurd o
