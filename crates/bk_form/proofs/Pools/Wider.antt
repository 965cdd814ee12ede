-- What is held stays so where the lists of types and of ranges grow.
use Rattle.std.proofs.Common.{◌≡◌, ◌⊎◌, inl, inr, ℕ, List, [], ◌∷◌, ◌++◌, length, refl, sym, ◌∙◌, ap, subst}
use Rattle.std.specs.Prelude.{Some, slice_get}
use Rattle.bk_val.specs.ValueType.{ValueType}
use Rattle.bk_form.specs.Formula.{Formula}
use Rattle.bk_form.specs.declared.pool.key.Key.{Key}
use Rattle.bk_form.specs.declared.pool.key.Key.TheVariants.{Var, Bound, Int, Bool, Elem, Empty, Name, True, False, Un, Bin, All, Some as Exists, Compr, Lam}
use Rattle.bk_form.specs.PoolKeys.{IsKey, Differ, held, IsHeld}
use Rattle.bk_form.proofs.Pools.Lists.{get-left, get-cases}
use Rattle.bk_form.proofs.Pools.Keyed.{variable-form, bound-form, literal-form, truth_value-form, named-form, element-form, empty-form, true-form, false-form, unary-form, binary-form, all-form, some-form, compr-form, lam-form}

-- one more that is not there yet
pub differ-one : {A : Type 0} (xs : List A) → Differ xs → (y : A) → ((i : ℕ) → slice_get xs i ≡ Some y → ⊥) → Differ (xs ++ y ∷ [])
differ-one {A} xs d y new i j x h k = by (get-cases xs y i x h) (get-cases xs y j x k)
  where
    by : (slice_get xs i ≡ Some x) ⊎ ((i ≡ length xs) × (x ≡ y)) → (slice_get xs j ≡ Some x) ⊎ ((j ≡ length xs) × (x ≡ y)) → i ≡ j
    by (inl p) (inl q) = d i j x p q
    by (inl p) (inr q) = absurd (new i (p ∙ ap Some q.1))
    by (inr p) (inl q) = absurd (new j (q ∙ ap Some p.1))
    by (inr p) (inr q) = p.0 ∙ sym q.0

module _ (ts us : List (List ValueType)) (rs qs : List (List ℕ)) (l : List Formula) where
  pub wider : (k : Key) (f : Formula) → IsKey ts rs l k f → IsKey (ts ++ us) (rs ++ qs) l k f
  wider (Var n) f h = subst (IsKey (ts ++ us) (rs ++ qs) l (Var n)) (sym (variable-form ts rs l n f h)) refl
  wider (Bound n) f h = subst (IsKey (ts ++ us) (rs ++ qs) l (Bound n)) (sym (bound-form ts rs l n f h)) refl
  wider (Int n) f h = subst (IsKey (ts ++ us) (rs ++ qs) l (Int n)) (sym (literal-form ts rs l n f h)) refl
  wider (Bool n) f h = subst (IsKey (ts ++ us) (rs ++ qs) l (Bool n)) (sym (truth_value-form ts rs l n f h)) refl
  wider (Name n) f h = subst (IsKey (ts ++ us) (rs ++ qs) l (Name n)) (sym (named-form ts rs l n f h)) refl
  wider (Elem s n) f h = subst (IsKey (ts ++ us) (rs ++ qs) l (Elem s n)) (sym (element-form ts rs l s n f h)) (refl, refl)
  wider (Empty t) f h = let p = empty-form ts rs l t f h in subst (IsKey (ts ++ us) (rs ++ qs) l (Empty t)) (sym p.1) (get-left ts us t (p.0 ∷ []) p.2)
  wider True f h = subst (IsKey (ts ++ us) (rs ++ qs) l True) (sym (true-form ts rs l f h)) tt
  wider False f h = subst (IsKey (ts ++ us) (rs ++ qs) l False) (sym (false-form ts rs l f h)) tt
  wider (Un o n) f h = let p = unary-form ts rs l o n f h in subst (IsKey (ts ++ us) (rs ++ qs) l (Un o n)) (sym p.1) (refl, p.2)
  wider (Bin o j n) f h = let p = binary-form ts rs l o j n f h in subst (IsKey (ts ++ us) (rs ++ qs) l (Bin o j n)) (sym p.2) (refl, p.3, p.4)
  wider (All t n) f h = let p = all-form ts rs l t n f h in subst (IsKey (ts ++ us) (rs ++ qs) l (All t n)) (sym p.2) (get-left ts us t p.0 p.3, p.4)
  wider (Exists t n) f h = let p = some-form ts rs l t n f h in subst (IsKey (ts ++ us) (rs ++ qs) l (Exists t n)) (sym p.2) (get-left ts us t p.0 p.3, p.4)
  wider (Compr r n) f h = let p = compr-form ts rs l r n f h in subst (IsKey (ts ++ us) (rs ++ qs) l (Compr r n)) (sym p.2) (p.3, get-left rs qs r p.3 p.4, p.5, p.6)
  wider (Lam r j n) f h = let p = lam-form ts rs l r j n f h in subst (IsKey (ts ++ us) (rs ++ qs) l (Lam r j n)) (sym p.3) (p.4, get-left rs qs r p.4 p.5, p.6, p.7, p.8)

pub held-wider : (ts us : List (List ValueType)) (rs qs : List (List ℕ)) (es : List (Key × Formula)) → IsHeld ts rs es → Differ (ts ++ us) → Differ (rs ++ qs) → IsHeld (ts ++ us) (rs ++ qs) es
held-wider ts us rs qs es is t r = record {
  types_differ = t;
  ranges_differ = r;
  pool = is.pool;
  keyed = λ i k f h. wider ts us rs qs (held es) k f (is.keyed i k f h);
}
