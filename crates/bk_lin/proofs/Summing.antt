-- A sum of multiples, multiple by multiple.
use Rattle.std.proofs.Common.{◌≡◌, ℕ, ◌+◌, ◌<◌, ℤ, pos, Bool, true, false, ◌&&◌, List, ◌∷◌, drop, length, get_or, ap, sym, ◌∙◌, add-one, drop-cons}
use Rattle.std.specs.List.{list_all}
use Rattle.bk_lin.specs.Inequality.{Inequality, is_narrow, plus, plus_all, partial_sums, times}
use Rattle.bk_lin.specs.Certificate.{fact_at, multiples_of}
use Rattle.bk_lin.proofs.Adding.{both_heads, a_head_fails}

-- the products that are left, and the sums with them from p on, are narrow
abbrev pub rest_fits : Inequality → List Inequality → Bool
rest_fits p qs = list_all is_narrow qs && list_all is_narrow (partial_sums p qs)

-- the multiple at an index
abbrev pub multiple_at : List Inequality → List (ℤ × ℕ) → ℕ → Inequality
multiple_at standing parts i = times (get_or parts i (pos 0, 0)).0 (fact_at standing (get_or parts i (pos 0, 0)).1)

multiples_of-drop : (standing : List Inequality) (parts : List (ℤ × ℕ)) (i : ℕ) → i < length parts → multiples_of standing (drop i parts) ≡ multiple_at standing parts i ∷ multiples_of standing (drop (i + 1) parts)
multiples_of-drop standing parts i h =
    ap (λ ps. multiples_of standing ps) (drop-cons parts i (pos 0, 0) h)
    ∙ ap (λ n. multiple_at standing parts i ∷ multiples_of standing (drop n parts)) (sym (add-one i))

pub rest_fits-more : (standing : List Inequality) (parts : List (ℤ × ℕ)) (i : ℕ) (p : Inequality) → i < length parts → (is_narrow (multiple_at standing parts i) && is_narrow (plus p (multiple_at standing parts i))) ≡ true → rest_fits (plus p (multiple_at standing parts i)) (multiples_of standing (drop (i + 1) parts)) ≡ rest_fits p (multiples_of standing (drop i parts))
rest_fits-more standing parts i p h k =
    sym (both_heads (is_narrow (multiple_at standing parts i)) (list_all is_narrow (multiples_of standing (drop (i + 1) parts)))
    (is_narrow (plus p (multiple_at standing parts i))) (list_all is_narrow (partial_sums (plus p (multiple_at standing parts i)) (multiples_of standing (drop (i + 1) parts)))) k)
    ∙ ap (λ qs. rest_fits p qs) (sym (multiples_of-drop standing parts i h))

pub rest_fits-fails : (standing : List Inequality) (parts : List (ℤ × ℕ)) (i : ℕ) (p : Inequality) → i < length parts → (is_narrow (multiple_at standing parts i) && is_narrow (plus p (multiple_at standing parts i))) ≡ false → rest_fits p (multiples_of standing (drop i parts)) ≡ false
rest_fits-fails standing parts i p h k =
    ap (λ qs. rest_fits p qs) (multiples_of-drop standing parts i h)
    ∙ a_head_fails (is_narrow (multiple_at standing parts i)) (list_all is_narrow (multiples_of standing (drop (i + 1) parts)))
    (is_narrow (plus p (multiple_at standing parts i))) (list_all is_narrow (partial_sums (plus p (multiple_at standing parts i)) (multiples_of standing (drop (i + 1) parts)))) k

pub plus_all-more : (standing : List Inequality) (parts : List (ℤ × ℕ)) (i : ℕ) (p : Inequality) → i < length parts → plus_all (plus p (multiple_at standing parts i)) (multiples_of standing (drop (i + 1) parts)) ≡ plus_all p (multiples_of standing (drop i parts))
plus_all-more standing parts i p h = ap (λ qs. plus_all p qs) (sym (multiples_of-drop standing parts i h))
