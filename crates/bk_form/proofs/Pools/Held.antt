-- What looking up a key tells, and one formula more.
use Rattle.std.proofs.Common.{◌≡◌, ◌⊎◌, inl, inr, ℕ, suc, zero, List, [], ◌∷◌, ◌++◌, length, refl, sym, ◌∙◌, ap, subst, true, false, true≢false, cond, Option, None, is_some, if◌then◌else◌}
use Rattle.std.specs.Prelude.{Some, slice_get, Bool as Boolean}
use Rattle.std.specs.Map.{lookup}
use Rattle.std.proofs.lemmas.List.{map-append, length-map}
use Rattle.indexmap.specs.IndexMap.{insert_entry}
use Rattle.bk_val.specs.ValueType.{ValueType}
use Rattle.bk_form.specs.Formula.{Formula, Formulas, no_formulas, formula_and}
use Rattle.bk_form.specs.declared.pool.key.Key.{Key}
use Rattle.bk_form.specs.declared.pool.key.Key.TheVariants.{Var, Bound, Int, Bool, Elem, Empty, Name, True, False, Un, Bin, All, Some as Exists, Compr, Lam}
use Rattle.bk_form.specs.contracts.pool.key.KeyPartialEq.TheImpl.{ghosts}
use Rattle.bk_form.specs.Parts.{EachIs, PartsAre}
use Rattle.bk_form.specs.Pools.{Stands, IsPool}
use Rattle.bk_form.specs.PoolKeys.{AreAt, IsKey, held, IsHeld, IsWith}
use Rattle.bk_form.proofs.Pools.Lists.{some-same, get-left, get-last, get-cases}
use Rattle.bk_form.proofs.Pools.Pooled.{grows}
use Rattle.bk_form.proofs.Pools.KeyDecided.{key-decided}
use Rattle.bk_form.proofs.Pools.Keyed.{one-formula, one-key, variable-form, bound-form, literal-form, truth_value-form, named-form, element-form, empty-form, true-form, false-form, unary-form, binary-form, all-form, some-form, compr-form, lam-form}

-- ---- looking up
abbrev IsNone : {A : Type 0} → Option A → Type 0
IsNone None = Unit {0}
IsNone (Some x) = ⊥

module _ (test : Key → Boolean) where
  pub lookup-some : (es : List (Key × Formula)) (f : Formula) → lookup test es ≡ Some f → (i : ℕ) × (k : Key) × (slice_get es i ≡ Some (k, f)) × (test k ≡ true)
  lookup-some [] f h = absurd (subst IsNone h tt)
  lookup-some (e ∷ es) f h = by (test e.0) refl (lookup-some es f) h
    where
      by : (b : Boolean) → test e.0 ≡ b → (lookup test es ≡ Some f → (i : ℕ) × (k : Key) × (slice_get es i ≡ Some (k, f)) × (test k ≡ true)) → cond b (Some e.1) (lookup test es) ≡ Some f
          → (i : ℕ) × (k : Key) × (slice_get (e ∷ es) i ≡ Some (k, f)) × (test k ≡ true)
      by true g later h = (zero, e.0, ap (λ x. Some (e.0, x)) (some-same e.1 f h), g)
      by false g later h = let p = later h in (suc p.0, p.1, p.2, p.3)

  pub lookup-none : (es : List (Key × Formula)) → lookup test es ≡ None → (i : ℕ) (k : Key) (f : Formula) → slice_get es i ≡ Some (k, f) → test k ≡ true → ⊥
  lookup-none [] n i k f h t = absurd (subst IsNone h tt)
  lookup-none (e ∷ es) n i k f h t = by (test e.0) refl (λ n i h. lookup-none es n i k f h t) n i h
    where
      by : (b : Boolean) → test e.0 ≡ b → (lookup test es ≡ None → (i : ℕ) → slice_get es i ≡ Some (k, f) → ⊥) → cond b (Some e.1) (lookup test es) ≡ None → (i : ℕ) → slice_get (e ∷ es) i ≡ Some (k, f) → ⊥
      by true g later n i h = subst IsNone (sym n) tt
      by false g later n zero h = true≢false (sym t ∙ ap test (sym (ap (λ (x : Key × Formula). x.0) (some-same e (k, f) h))) ∙ g)
      by false g later n (suc i) h = later n i h

pub held-at : (es : List (Key × Formula)) (i : ℕ) (f : Formula) → slice_get (held es) i ≡ Some f → (k : Key) × (slice_get es i ≡ Some (k, f))
held-at [] i f h = absurd (subst IsNone h tt)
held-at (e ∷ es) zero f h = (e.0, ap (λ x. Some (e.0, x)) (some-same e.1 f h))
held-at (e ∷ es) (suc i) f h = held-at es i f h

-- ---- a key in a longer list
module _ (ts : List (List ValueType)) (rs : List (List ℕ)) (l m : List Formula) where
  pub all-left : (ns : List ℕ) (fs : Formulas) → AreAt l ns fs → AreAt (l ++ m) ns fs
  all-left [] no_formulas h = tt
  all-left [] (formula_and f fs) h = absurd h
  all-left (n ∷ ns) no_formulas h = absurd h
  all-left (n ∷ ns) (formula_and f fs) h = (get-left l m n f h.0, all-left ns fs h.1)

  pub more : (k : Key) (f : Formula) → IsKey ts rs l k f → IsKey ts rs (l ++ m) k f
  more (Var n) f h = subst (IsKey ts rs (l ++ m) (Var n)) (sym (variable-form ts rs l n f h)) refl
  more (Bound n) f h = subst (IsKey ts rs (l ++ m) (Bound n)) (sym (bound-form ts rs l n f h)) refl
  more (Int n) f h = subst (IsKey ts rs (l ++ m) (Int n)) (sym (literal-form ts rs l n f h)) refl
  more (Bool n) f h = subst (IsKey ts rs (l ++ m) (Bool n)) (sym (truth_value-form ts rs l n f h)) refl
  more (Name n) f h = subst (IsKey ts rs (l ++ m) (Name n)) (sym (named-form ts rs l n f h)) refl
  more (Elem s n) f h = subst (IsKey ts rs (l ++ m) (Elem s n)) (sym (element-form ts rs l s n f h)) (refl, refl)
  more (Empty t) f h = let p = empty-form ts rs l t f h in subst (IsKey ts rs (l ++ m) (Empty t)) (sym p.1) p.2
  more True f h = subst (IsKey ts rs (l ++ m) True) (sym (true-form ts rs l f h)) tt
  more False f h = subst (IsKey ts rs (l ++ m) False) (sym (false-form ts rs l f h)) tt
  more (Un o n) f h = let p = unary-form ts rs l o n f h in subst (IsKey ts rs (l ++ m) (Un o n)) (sym p.1) (refl, get-left l m n p.0 p.2)
  more (Bin o j n) f h = let p = binary-form ts rs l o j n f h in subst (IsKey ts rs (l ++ m) (Bin o j n)) (sym p.2) (refl, get-left l m j p.0 p.3, get-left l m n p.1 p.4)
  more (All t n) f h = let p = all-form ts rs l t n f h in subst (IsKey ts rs (l ++ m) (All t n)) (sym p.2) (p.3, get-left l m n p.1 p.4)
  more (Exists t n) f h = let p = some-form ts rs l t n f h in subst (IsKey ts rs (l ++ m) (Exists t n)) (sym p.2) (p.3, get-left l m n p.1 p.4)
  more (Compr r n) f h = let p = compr-form ts rs l r n f h in subst (IsKey ts rs (l ++ m) (Compr r n)) (sym p.2) (p.3, p.4, all-left p.3 p.0 p.5, get-left l m n p.1 p.6)
  more (Lam r j n) f h = let p = lam-form ts rs l r j n f h in subst (IsKey ts rs (l ++ m) (Lam r j n)) (sym p.3) (p.4, p.5, all-left p.4 p.0 p.6, get-left l m j p.1 p.7, get-left l m n p.2 p.8)

-- ---- the parts of what has a key stand there
module _ (ts : List (List ValueType)) (rs : List (List ℕ)) (l : List Formula) where
  each-stands : (ns : List ℕ) (fs : Formulas) → AreAt l ns fs → EachIs (Stands l) fs
  each-stands [] no_formulas h = tt
  each-stands [] (formula_and f fs) h = absurd h
  each-stands (n ∷ ns) no_formulas h = absurd h
  each-stands (n ∷ ns) (formula_and f fs) h = ((n, h.0), each-stands ns fs h.1)

  pub parts-stand : (k : Key) (f : Formula) → IsKey ts rs l k f → PartsAre (Stands l) f
  parts-stand (Var n) f h = subst (PartsAre (Stands l)) (sym (variable-form ts rs l n f h)) tt
  parts-stand (Bound n) f h = subst (PartsAre (Stands l)) (sym (bound-form ts rs l n f h)) tt
  parts-stand (Int n) f h = subst (PartsAre (Stands l)) (sym (literal-form ts rs l n f h)) tt
  parts-stand (Bool n) f h = subst (PartsAre (Stands l)) (sym (truth_value-form ts rs l n f h)) tt
  parts-stand (Name n) f h = subst (PartsAre (Stands l)) (sym (named-form ts rs l n f h)) tt
  parts-stand (Elem s n) f h = subst (PartsAre (Stands l)) (sym (element-form ts rs l s n f h)) tt
  parts-stand (Empty t) f h = subst (PartsAre (Stands l)) (sym (empty-form ts rs l t f h).1) tt
  parts-stand True f h = subst (PartsAre (Stands l)) (sym (true-form ts rs l f h)) tt
  parts-stand False f h = subst (PartsAre (Stands l)) (sym (false-form ts rs l f h)) tt
  parts-stand (Un o n) f h = let p = unary-form ts rs l o n f h in subst (PartsAre (Stands l)) (sym p.1) (n, p.2)
  parts-stand (Bin o j n) f h = let p = binary-form ts rs l o j n f h in subst (PartsAre (Stands l)) (sym p.2) ((j, p.3), (n, p.4))
  parts-stand (All t n) f h = let p = all-form ts rs l t n f h in subst (PartsAre (Stands l)) (sym p.2) (n, p.4)
  parts-stand (Exists t n) f h = let p = some-form ts rs l t n f h in subst (PartsAre (Stands l)) (sym p.2) (n, p.4)
  parts-stand (Compr r n) f h = let p = compr-form ts rs l r n f h in subst (PartsAre (Stands l)) (sym p.2) (each-stands p.3 p.0 p.5, (n, p.6))
  parts-stand (Lam r j n) f h = let p = lam-form ts rs l r j n f h in subst (PartsAre (Stands l)) (sym p.3) (each-stands p.4 p.0 p.6, (j, p.7), (n, p.8))

-- ---- what a look-up tells
module _ (ts : List (List ValueType)) (rs : List (List ℕ)) (es : List (Key × Formula)) (is : IsHeld ts rs es) (k : Key) (f : Formula) (of : IsKey ts rs (held es) k f) where
  pub hit : (g : Formula) → lookup (ghosts.eq k) es ≡ Some g → g ≡ f
  hit g h =
      let p = lookup-some (ghosts.eq k) es g h in
      let e = (key-decided k p.1).0 p.3 in
      one-formula ts rs (held es) p.1 g f (is.keyed p.0 p.1 g p.2) (subst (λ j. IsKey ts rs (held es) j f) e of)

  pub miss : lookup (ghosts.eq k) es ≡ None → Stands (held es) f → ⊥
  miss h s =
      let p = held-at es s.0 f s.1 in
      let e = one-key ts rs (held es) is.types_differ is.ranges_differ is.pool k p.0 f of (is.keyed s.0 p.0 f p.1) in
      lookup-none (ghosts.eq k) es h s.0 p.0 f p.1 ((key-decided k p.0).1 e)

  pub held-more : held (es ++ (k, f) ∷ []) ≡ held es ++ f ∷ []
  held-more = map-append (λ e. e.1) es ((k, f) ∷ [])

  pub grown : lookup (ghosts.eq k) es ≡ None → IsHeld ts rs (es ++ (k, f) ∷ [])
  grown h = record {
    types_differ = is.types_differ;
    ranges_differ = is.ranges_differ;
    pool = subst IsPool (sym held-more) (grows (held es) is.pool f (miss h) (parts-stand ts rs (held es) k f of));
    keyed = λ i j g at. subst (λ l. IsKey ts rs l j g) (sym held-more) (by i j g (get-cases es (k, f) i (j, g) at));
  }
    where
      by : (i : ℕ) (j : Key) (g : Formula) → (slice_get es i ≡ Some (j, g)) ⊎ ((i ≡ length es) × (◌≡◌ {A = Key × Formula} (j, g) (k, f))) → IsKey ts rs (held es ++ f ∷ []) j g
      by i j g (inl p) = more ts rs (held es) (f ∷ []) j g (is.keyed i j g p)
      by i j g (inr p) = subst (λ (e : Key × Formula). IsKey ts rs (held es ++ f ∷ []) e.0 e.1) (sym p.1) (more ts rs (held es) (f ∷ []) k f of)

-- ---- answers of a look-up
pub insert-new : (k : Key) (f : Formula) (es : List (Key × Formula)) → lookup (ghosts.eq k) es ≡ None → insert_entry ghosts.eq es k f ≡ es ++ (k, f) ∷ []
insert-new k f [] h = refl
insert-new k f (e ∷ es) h = by (ghosts.eq k e.0) (insert-new k f es) h
  where
    by : (b : Boolean) → (lookup (ghosts.eq k) es ≡ None → insert_entry ghosts.eq es k f ≡ es ++ (k, f) ∷ []) → cond b (Some e.1) (lookup (ghosts.eq k) es) ≡ None
        → (if b then (e.0, f) ∷ es else e ∷ insert_entry ghosts.eq es k f) ≡ e ∷ es ++ (k, f) ∷ []
    by true m h = absurd (subst IsNone (sym h) tt)
    by false m h = ap (λ l. e ∷ l) (m h)

is-none : {A : Type 0} (o : Option A) → is_some o ≡ false → o ≡ None
is-none None h = refl
is-none (Some x) h = absurd (true≢false h)

module _ (ts : List (List ValueType)) (rs : List (List ℕ)) (es : List (Key × Formula)) (is : IsHeld ts rs es) (k : Key) (f : Formula) (of : IsKey ts rs (held es) k f) where
  pub found-there : (n : ℕ) → is_some (lookup (ghosts.eq k) es) ≡ true → slice_get (held es) n ≡ lookup (ghosts.eq k) es → slice_get (held es) n ≡ Some f
  found-there n h e = by (lookup (ghosts.eq k) es) refl h e
    where
      by : (o : Option Formula) → lookup (ghosts.eq k) es ≡ o → is_some o ≡ true → slice_get (held es) n ≡ o → slice_get (held es) n ≡ Some f
      by None l h e = absurd (true≢false (sym h))
      by (Some g) l h e = e ∙ ap Some (hit ts rs es is k f of g l)

  pub not-there : is_some (lookup (ghosts.eq k) es) ≡ false → lookup (ghosts.eq k) es ≡ None
  not-there h = is-none (lookup (ghosts.eq k) es) h

  -- after it was put there
  pub put-there : is_some (lookup (ghosts.eq k) es) ≡ false → (new : List (Key × Formula)) → new ≡ insert_entry ghosts.eq es k f
      → IsHeld ts rs new × (slice_get (held new) (length es) ≡ Some f) × IsWith (held es) f (held new)
  put-there h new e =
      let none = not-there h in
      let last = e ∙ insert-new k f es none in
      let more = ap held last ∙ held-more ts rs es is k f of in (
        subst (IsHeld ts rs) (sym last) (grown ts rs es is k f of none),
        ap (λ l. slice_get l (length es)) more ∙ (ap (slice_get (held es ++ f ∷ [])) (sym (length-map es (λ e. e.1))) ∙ get-last (held es) f),
        inr (miss ts rs es is k f of none, more),
      )
