-- Adding a multiple to the front of a row, entry by entry.
use Rattle.std.proofs.Common.{◌≡◌, ℕ, suc, ◌+◌, ◌<◌, ◌≤◌, ℤ, pos, ◌+ℤ◌, ◌*ℤ◌, Bool, true, false, ◌&&◌, List, [], ◌∷◌, ◌++◌, map, take, drop, set, length, get_or, refl, ap, sym, ◌∙◌, arith, add-one, drop-cons, Option, Some, None, IsSome}
use Rattle.std.specs.List.{list_all}
use Rattle.std.proofs.lemmas.List.{take_more_set, drop-set-lt, append_assoc, drop_all}
use Rattle.std.proofs.lemmas.Int.{to_z-of_z}
use Rattle.std.specs.Int.{w128, cast_signed, cast_unsigned}
use Rattle.std.specs.Prelude.{FitsSigned}
use Rattle.bk_lin.specs.Inequality.{is_narrow, sum_of_coefs, plus, times}
use Rattle.bk_val.specs.Value.{fits_i128}
use Rattle.bk_lin.specs.Layout.{held_in, shown}

-- a product and the sum with it are both narrow
abbrev pub entry_fits : ℤ → ℤ → ℤ → Bool
entry_fits m s c = fits_i128 (m *ℤ c) && fits_i128 (s +ℤ m *ℤ c)

abbrev pub added : ℤ → List ℤ → List ℤ → List ℤ
added m sums coefs = sum_of_coefs sums (map (λ c. m *ℤ c) coefs)

abbrev pub all_fit : ℤ → List ℤ → List ℤ → Bool
all_fit m sums coefs = list_all fits_i128 (map (λ c. m *ℤ c) coefs) && list_all fits_i128 (added m sums coefs)

-- tests of two lists, where both heads pass, or one fails
pub both_heads : (p q r s : Bool) → (p && r) ≡ true → ((p && q) && (r && s)) ≡ (q && s)
both_heads true q true s h = refl
both_heads true q false s h = cc
both_heads false q r s h = cc

pub a_head_fails : (p q r s : Bool) → (p && r) ≡ false → ((p && q) && (r && s)) ≡ false
a_head_fails true true true s h = cc
a_head_fails true false true s h = refl
a_head_fails true true false s h = refl
a_head_fails true false false s h = refl
a_head_fails false q r s h = refl

all_fit-cons : (m s c : ℤ) (ss cs : List ℤ) → entry_fits m s c ≡ true → all_fit m (s ∷ ss) (c ∷ cs) ≡ all_fit m ss cs
all_fit-cons m s c ss cs h =
    both_heads (fits_i128 (m *ℤ c)) (list_all fits_i128 (map (λ d. m *ℤ d) cs)) (fits_i128 (s +ℤ m *ℤ c)) (list_all fits_i128 (added m ss cs)) h

all_fit-cons_fails : (m s c : ℤ) (ss cs : List ℤ) → entry_fits m s c ≡ false → all_fit m (s ∷ ss) (c ∷ cs) ≡ false
all_fit-cons_fails m s c ss cs h =
    a_head_fails (fits_i128 (m *ℤ c)) (list_all fits_i128 (map (λ d. m *ℤ d) cs)) (fits_i128 (s +ℤ m *ℤ c)) (list_all fits_i128 (added m ss cs)) h

-- the step of the loop: what is left fits where the rest does
pub all_fit-more : (m : ℤ) (sums coefs : List ℤ) (i : ℕ) (v : ℤ) → i < length sums → i < length coefs → entry_fits m (get_or sums i (pos 0)) (get_or coefs i (pos 0)) ≡ true → all_fit m (drop (i + 1) (set sums i v)) (drop (i + 1) coefs) ≡ all_fit m (drop i sums) (drop i coefs)
all_fit-more m sums coefs i v h k f =
    ap (λ ss. all_fit m ss (drop (i + 1) coefs)) (drop-set-lt (i + 1) sums i v (omega arith))
    ∙ sym (all_fit-cons m (get_or sums i (pos 0)) (get_or coefs i (pos 0)) (drop (i + 1) sums) (drop (i + 1) coefs) f)
    ∙ ap (λ n. all_fit m (get_or sums i (pos 0) ∷ drop n sums) (get_or coefs i (pos 0) ∷ drop n coefs)) (add-one i)
    ∙ ap (λ ss. all_fit m ss (get_or coefs i (pos 0) ∷ drop (suc i) coefs)) (sym (drop-cons sums i (pos 0) h))
    ∙ ap (λ cs. all_fit m (drop i sums) cs) (sym (drop-cons coefs i (pos 0) k))

pub all_fit-fails : (m : ℤ) (sums coefs : List ℤ) (i : ℕ) → i < length sums → i < length coefs → entry_fits m (get_or sums i (pos 0)) (get_or coefs i (pos 0)) ≡ false → all_fit m (drop i sums) (drop i coefs) ≡ false
all_fit-fails m sums coefs i h k f =
    ap (λ ss. all_fit m ss (drop i coefs)) (drop-cons sums i (pos 0) h)
    ∙ ap (λ cs. all_fit m (get_or sums i (pos 0) ∷ drop (suc i) sums) cs) (drop-cons coefs i (pos 0) k)
    ∙ all_fit-cons_fails m (get_or sums i (pos 0)) (get_or coefs i (pos 0)) (drop (suc i) sums) (drop (suc i) coefs) f

-- the step of the loop: one more entry is as it ends
pub added-more : (m : ℤ) (sums coefs : List ℤ) (i : ℕ) (v : ℤ) → i < length sums → i < length coefs → v ≡ get_or sums i (pos 0) +ℤ m *ℤ get_or coefs i (pos 0) → take (i + 1) (set sums i v) ++ added m (drop (i + 1) (set sums i v)) (drop (i + 1) coefs) ≡ take i sums ++ added m (drop i sums) (drop i coefs)
added-more m sums coefs i v h k e =
    ap (λ ss. take (i + 1) (set sums i v) ++ added m ss (drop (i + 1) coefs)) (drop-set-lt (i + 1) sums i v (omega arith))
    ∙ ap (λ front. front ++ added m (drop (i + 1) sums) (drop (i + 1) coefs)) (take_more_set sums i v h)
    ∙ append_assoc (take i sums) (v ∷ []) (added m (drop (i + 1) sums) (drop (i + 1) coefs))
    ∙ ap (λ w. take i sums ++ (w ∷ added m (drop (i + 1) sums) (drop (i + 1) coefs))) e
    ∙ ap (λ n. take i sums ++ added m (get_or sums i (pos 0) ∷ drop n sums) (get_or coefs i (pos 0) ∷ drop n coefs)) (add-one i)
    ∙ ap (λ ss. take i sums ++ added m ss (get_or coefs i (pos 0) ∷ drop (suc i) coefs)) (sym (drop-cons sums i (pos 0) h))
    ∙ ap (λ cs. take i sums ++ added m (drop i sums) cs) (sym (drop-cons coefs i (pos 0) k))

-- row by row
pub all_fit-row : (m : ℤ) (target coefs : List ℤ) (constant : ℤ) → 0 < length target → all_fit m target (constant ∷ coefs) ≡ (is_narrow (times m (shown coefs constant)) && is_narrow (plus (held_in target) (times m (shown coefs constant))))
all_fit-row m [] coefs constant h = absurd (omega arith)
all_fit-row m (t ∷ ts) coefs constant h = refl

-- at the end of the loop nothing is left that could be too wide
pub all_fit-end : (m : ℤ) (sums coefs : List ℤ) (i : ℕ) → length sums ≤ i → length coefs ≤ i → all_fit m (drop i sums) (drop i coefs) ≡ true
all_fit-end m sums coefs i h k =
    ap (λ ss. all_fit m ss (drop i coefs)) (drop_all i sums h) ∙ ap (λ cs. all_fit m [] cs) (drop_all i coefs k)

-- a number that fits comes back from its bits
pub back : (z : ℤ) → FitsSigned w128 z → cast_signed w128 (cast_unsigned w128 z) ≡ z
back z h = to_z-of_z w128 z h

pub none_is_not_some : {X : Type 0} (r : Option X) → r ≡ None → IsSome r → ⊥
none_is_not_some None e h = cc
none_is_not_some (Some x) e h = cc
