-- A pool has the parts of its members, and grows by formulas whose parts it has.
use Rattle.std.proofs.Common.{◌≡◌, inl, inr, ◌<◌, ℕ, List, [], ◌∷◌, ◌++◌, length, sym, ◌∙◌, ap, subst, arith}
use Rattle.std.specs.Prelude.{Some, slice_get}
use Rattle.bk_form.specs.Formula.{Formula, unary, binary, for_all, for_some, comprehension, lambda, Formulas, no_formulas, formula_and}
use Rattle.bk_form.specs.Parts.{EachIs, PartsAre, IsPart, IsPartOfOne}
use Rattle.bk_form.specs.Pools.{Stands, StandsBefore, IsPool}
use Rattle.bk_form.proofs.Pools.Lists.{get-below, get-left, get-cases}

-- ---- weaker properties of parts
pub each-weaker : (P Q : Formula → Type 0) → ((f : Formula) → P f → Q f) → (fs : Formulas) → EachIs P fs → EachIs Q fs
each-weaker P Q w no_formulas h = tt
each-weaker P Q w (formula_and f fs) h = (w f h.0, each-weaker P Q w fs h.1)

pub parts-weaker : (P Q : Formula → Type 0) → ((f : Formula) → P f → Q f) → (f : Formula) → PartsAre P f → PartsAre Q f
parts-weaker P Q w (unary o a) h = w a h
parts-weaker P Q w (binary o a b) h = (w a h.0, w b h.1)
parts-weaker P Q w (for_all ts p) h = w p h
parts-weaker P Q w (for_some ts p) h = w p h
parts-weaker P Q w (comprehension rs p) h = (each-weaker P Q w rs h.0, w p h.1)
parts-weaker P Q w (lambda rs p v) h = (each-weaker P Q w rs h.0, w p h.1, w v h.2)
parts-weaker P Q w _ h = tt

-- ---- closed
module _ (l : List Formula) (pool : IsPool l) where
  parts-stand : (f : Formula) → Stands l f → PartsAre (Stands l) f
  parts-stand f s = parts-weaker (StandsBefore l s.0) (Stands l) (λ g b. (b.0, b.2)) f (pool.before s.0 f s.1)

  mutual
    pub closed : (f : Formula) → Stands l f → (g : Formula) → IsPart g f → Stands l g
    closed (unary o a) s g (inl e) = subst (Stands l) (sym e) s
    closed (unary o a) s g (inr k) = closed a (parts-stand (unary o a) s) g k
    closed (binary o a b) s g (inl e) = subst (Stands l) (sym e) s
    closed (binary o a b) s g (inr (inl k)) = closed a (parts-stand (binary o a b) s).0 g k
    closed (binary o a b) s g (inr (inr k)) = closed b (parts-stand (binary o a b) s).1 g k
    closed (for_all ts p) s g (inl e) = subst (Stands l) (sym e) s
    closed (for_all ts p) s g (inr k) = closed p (parts-stand (for_all ts p) s) g k
    closed (for_some ts p) s g (inl e) = subst (Stands l) (sym e) s
    closed (for_some ts p) s g (inr k) = closed p (parts-stand (for_some ts p) s) g k
    closed (comprehension rs p) s g (inl e) = subst (Stands l) (sym e) s
    closed (comprehension rs p) s g (inr (inl k)) = all-closed rs (parts-stand (comprehension rs p) s).0 g k
    closed (comprehension rs p) s g (inr (inr k)) = closed p (parts-stand (comprehension rs p) s).1 g k
    closed (lambda rs p v) s g (inl e) = subst (Stands l) (sym e) s
    closed (lambda rs p v) s g (inr (inl k)) = all-closed rs (parts-stand (lambda rs p v) s).0 g k
    closed (lambda rs p v) s g (inr (inr (inl k))) = closed p (parts-stand (lambda rs p v) s).1 g k
    closed (lambda rs p v) s g (inr (inr (inr k))) = closed v (parts-stand (lambda rs p v) s).2 g k
    closed f s g e = subst (Stands l) (sym e) s

    all-closed : (fs : Formulas) → EachIs (Stands l) fs → (g : Formula) → IsPartOfOne g fs → Stands l g
    all-closed no_formulas s g k = absurd k
    all-closed (formula_and f fs) s g (inl k) = closed f s.0 g k
    all-closed (formula_and f fs) s g (inr k) = all-closed fs s.1 g k

-- ---- one formula more
pub grows : (l : List Formula) → IsPool l → (f : Formula) → (Stands l f → ⊥) → PartsAre (Stands l) f → IsPool (l ++ f ∷ [])
grows l pool f fresh parts = record { different = different; before = before }
  where
    different : (i j : ℕ) (g : Formula) → slice_get (l ++ f ∷ []) i ≡ Some g → slice_get (l ++ f ∷ []) j ≡ Some g → i ≡ j
    different i j g h k = elim (get-cases l f i g h) [
      | inl p ↦ elim (get-cases l f j g k) [ inl q ↦ pool.different i j g p q | inr q ↦ absurd (fresh (i, p ∙ ap Some q.1)) ]
      | inr p ↦ elim (get-cases l f j g k) [ inl q ↦ absurd (fresh (j, q ∙ ap Some p.1)) | inr q ↦ p.0 ∙ sym q.0 ]
    ]

    before : (i : ℕ) (g : Formula) → slice_get (l ++ f ∷ []) i ≡ Some g → PartsAre (StandsBefore (l ++ f ∷ []) i) g
    before i g h = elim (get-cases l f i g h) [
      | inl p ↦ parts-weaker (StandsBefore l i) (StandsBefore (l ++ f ∷ []) i) (λ x b. (b.0, b.1, get-left l (f ∷ []) b.0 x b.2)) g (pool.before i g p)
      | inr p ↦ subst (λ x. PartsAre (StandsBefore (l ++ f ∷ []) i) x) (sym p.1) (parts-weaker (Stands l) (StandsBefore (l ++ f ∷ []) i) (λ x s. (s.0, low i (length l) s.0 p.0 (get-below l s.0 x s.1), get-left l (f ∷ []) s.0 x s.1)) f parts)
    ]
      where
        low : (i n j : ℕ) → i ≡ n → j < n → j < i
        low i n j e k = omega (arith, e, k)
