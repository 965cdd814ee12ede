-- Sharing formulas with lists: quantifiers, comprehensions and lambdas, and the empty sets.
use Rattle.std.proofs.Common.{◌≡◌, ◌<◌, ◌≤◌, ◌+◌, inl, inr, ℕ, zero, suc, List, [], ◌∷◌, ◌++◌, length, take, get_or, refl, sym, ◌∙◌, ap, subst, arith}
use Rattle.std.specs.Prelude.{Some, slice_get, Result, Ok, Err, OnOk, OnErr}
use Rattle.std.proofs.lemmas.List.{take_more}
use Rattle.bk_val.specs.ValueType.{ValueType}
use Rattle.bk_form.specs.Formula.{Formula, unary, binary, empty_set, for_all, for_some, comprehension, lambda, Formulas, no_formulas, formula_and, formulas_of}
use Rattle.bk_form.specs.declared.operator.UnOp.{UnOp}
use Rattle.bk_form.specs.declared.operator.BinOp.{BinOp}
use Rattle.bk_form.specs.declared.pool.key.Key.{Key}
use Rattle.bk_form.specs.declared.pool.key.Key.TheVariants.{Empty, Un, Bin, All, Some as Exists, Compr, Lam}
use Rattle.bk_form.specs.Parts.{IsPart, IsPartOfOne}
use Rattle.bk_form.specs.PoolKeys.{AreAt, IsKey, IsHeld, IsWith, AddsOnly, Differ, Grows}
use Rattle.bk_form.proofs.Pools.Lists.{append-none, get-left}
use Rattle.bk_form.proofs.Pools.Held.{all-left}
use Rattle.bk_form.proofs.Pools.Wider.{held-wider}
use Rattle.bk_form.proofs.Pools.Shared.{adds-none, adds-weaker, adds-then, adds-either, itself}

-- ---- the lists grow
pub grows-same : {A : Type 0} (l : List A) → Grows l l
grows-same l = ([], sym (append-none l))

pub types-grow : (ts us : List (List ValueType)) (rs : List (List ℕ)) (es : List (Key × Formula)) → IsHeld ts rs es → Grows ts us → Differ us → IsHeld us rs es
types-grow ts us rs es is g d =
    let wide : IsHeld (ts ++ g.0) (rs ++ []) es = held-wider ts g.0 rs [] es is (subst Differ g.1 d) (subst Differ (sym (append-none rs)) is.ranges_differ) in
    subst (λ x. IsHeld x rs es) (sym g.1) (subst (λ x. IsHeld (ts ++ g.0) x es) (append-none rs) wide)

pub ranges-grow : (ts : List (List ValueType)) (rs qs : List (List ℕ)) (es : List (Key × Formula)) → IsHeld ts rs es → Grows rs qs → Differ qs → IsHeld ts qs es
ranges-grow ts rs qs es is g d =
    let wide : IsHeld (ts ++ []) (rs ++ g.0) es = held-wider ts [] rs g.0 es is (subst Differ (sym (append-none ts)) is.types_differ) (subst Differ g.1 d) in
    subst (λ x. IsHeld ts x es) (sym g.1) (subst (λ x. IsHeld x (rs ++ g.0) es) (append-none ts) wide)

pub lists-grow : (ts us : List (List ValueType)) (rs qs : List (List ℕ)) (es : List (Key × Formula)) → IsHeld ts rs es → Grows ts us → Differ us → Grows rs qs → Differ qs → IsHeld us qs es
lists-grow ts us rs qs es is g d h e = ranges-grow us rs qs es (types-grow ts us rs es is g d) h e

-- ---- what was there stays there
pub stays : (P : Formula → Type 0) (l m : List Formula) (n : ℕ) (a : Formula) → AddsOnly P l m → slice_get l n ≡ Some a → slice_get m n ≡ Some a
stays P l m n a h s = ap (λ x. slice_get x n) h.1 ∙ get-left l h.0 n a s

pub all-stay : (P : Formula → Type 0) (l m : List Formula) (ns : List ℕ) (fs : Formulas) → AddsOnly P l m → AreAt l ns fs → AreAt m ns fs
all-stay P l m ns fs h s = subst (λ x. AreAt x ns fs) (sym h.1) (all-left [] [] l h.0 ns fs s)

-- ---- one number more
pub one-more-at : (l : List Formula) (ns : List ℕ) (fs : List Formula) (n : ℕ) (f : Formula) → AreAt l ns (formulas_of fs) → slice_get l n ≡ Some f → AreAt l (ns ++ n ∷ []) (formulas_of (fs ++ f ∷ []))
one-more-at l [] [] n f h k = (k, tt)
one-more-at l [] (g ∷ fs) n f h k = absurd h
one-more-at l (m ∷ ns) [] n f h k = absurd h
one-more-at l (m ∷ ns) (g ∷ fs) n f h k = (h.0, one-more-at l ns fs n f h.1 k)

pub numbered : (l : List Formula) (ns ms : List ℕ) (fs : List Formula) (i n : ℕ) (f : Formula) → AreAt l ns (formulas_of (take i fs)) → ms ≡ ns ++ n ∷ [] → f ≡ get_or fs i f → i < length fs → slice_get l n ≡ Some f → AreAt l ms (formulas_of (take (i + 1) fs))
numbered l ns ms fs i n f h e is w k =
    subst (λ x. AreAt l x (formulas_of (take (i + 1) fs))) (sym e)
    (subst (λ x. AreAt l (ns ++ n ∷ []) (formulas_of x)) (sym (take_more fs i f w)) (one-more-at l ns (take i fs) n (get_or fs i f) h (k ∙ ap Some is)))

pub one-of : (fs : List Formula) (i : ℕ) (f g : Formula) → f ≡ get_or fs i f → i < length fs → IsPart g f → IsPartOfOne g (formulas_of fs)
one-of [] i f g e w p = absurd (omega (arith, w))
one-of (x ∷ fs) zero f g e w p = inl (subst (IsPart g) e p)
one-of (x ∷ fs) (suc i) f g e w p = let less : suc i < suc (length fs) = w in inr (one-of fs i f g e (omega (arith, less)) p)

-- ---- parts of parts
pub unary-part : (o : UnOp) (a f : Formula) → unary o a ≡ f → (g : Formula) → IsPart g a → IsPart g f
unary-part o a f e g p = subst (IsPart g) e (inr p)

pub left-part : (o : BinOp) (a b f : Formula) → binary o a b ≡ f → (g : Formula) → IsPart g a → IsPart g f
left-part o a b f e g p = subst (IsPart g) e (inr (inl p))

pub right-part : (o : BinOp) (a b f : Formula) → binary o a b ≡ f → (g : Formula) → IsPart g b → IsPart g f
right-part o a b f e g p = subst (IsPart g) e (inr (inr p))

pub all-part : (us : List ValueType) (a f : Formula) → for_all us a ≡ f → (g : Formula) → IsPart g a → IsPart g f
all-part us a f e g p = subst (IsPart g) e (inr p)

pub some-part : (us : List ValueType) (a f : Formula) → for_some us a ≡ f → (g : Formula) → IsPart g a → IsPart g f
some-part us a f e g p = subst (IsPart g) e (inr p)

pub compr-range : (fs : Formulas) (a f : Formula) → comprehension fs a ≡ f → (g : Formula) → IsPartOfOne g fs → IsPart g f
compr-range fs a f e g p = subst (IsPart g) e (inr (inl p))

pub compr-body : (fs : Formulas) (a f : Formula) → comprehension fs a ≡ f → (g : Formula) → IsPart g a → IsPart g f
compr-body fs a f e g p = subst (IsPart g) e (inr (inr p))

pub lam-range : (fs : Formulas) (a b f : Formula) → lambda fs a b ≡ f → (g : Formula) → IsPartOfOne g fs → IsPart g f
lam-range fs a b f e g p = subst (IsPart g) e (inr (inl p))

pub lam-body : (fs : Formulas) (a b f : Formula) → lambda fs a b ≡ f → (g : Formula) → IsPart g a → IsPart g f
lam-body fs a b f e g p = subst (IsPart g) e (inr (inr (inl p)))

pub lam-value : (fs : Formulas) (a b f : Formula) → lambda fs a b ≡ f → (g : Formula) → IsPart g b → IsPart g f
lam-value fs a b f e g p = subst (IsPart g) e (inr (inr (inr p)))

-- ---- keys
module _ (ts : List (List ValueType)) (rs : List (List ℕ)) (l : List Formula) where
  pub is-empty : (t : ℕ) (y : ValueType) (f : Formula) → empty_set y ≡ f → slice_get ts t ≡ Some (y ∷ []) → IsKey ts rs l (Empty t) f
  is-empty t y f e h = subst (λ x. IsKey ts rs l (Empty t) x) e h

  pub is-unary : (o : UnOp) (n : ℕ) (a f : Formula) → unary o a ≡ f → slice_get l n ≡ Some a → IsKey ts rs l (Un o n) f
  is-unary o n a f e h = subst (λ x. IsKey ts rs l (Un o n) x) e (refl, h)

  pub is-binary : (o : BinOp) (m n : ℕ) (a b f : Formula) → binary o a b ≡ f → slice_get l m ≡ Some a → slice_get l n ≡ Some b → IsKey ts rs l (Bin o m n) f
  is-binary o m n a b f e h k = subst (λ x. IsKey ts rs l (Bin o m n) x) e (refl, h, k)

  pub is-all : (t n : ℕ) (us : List ValueType) (a f : Formula) → for_all us a ≡ f → slice_get ts t ≡ Some us → slice_get l n ≡ Some a → IsKey ts rs l (All t n) f
  is-all t n us a f e h k = subst (λ x. IsKey ts rs l (All t n) x) e (h, k)

  pub is-some : (t n : ℕ) (us : List ValueType) (a f : Formula) → for_some us a ≡ f → slice_get ts t ≡ Some us → slice_get l n ≡ Some a → IsKey ts rs l (Exists t n) f
  is-some t n us a f e h k = subst (λ x. IsKey ts rs l (Exists t n) x) e (h, k)

  pub is-compr : (r n : ℕ) (ns : List ℕ) (fs : Formulas) (a f : Formula) → comprehension fs a ≡ f → slice_get rs r ≡ Some ns → AreAt l ns fs → slice_get l n ≡ Some a → IsKey ts rs l (Compr r n) f
  is-compr r n ns fs a f e h i k = subst (λ x. IsKey ts rs l (Compr r n) x) e (ns, h, i, k)

  pub is-lam : (r m n : ℕ) (ns : List ℕ) (fs : Formulas) (a b f : Formula) → lambda fs a b ≡ f → slice_get rs r ≡ Some ns → AreAt l ns fs → slice_get l m ≡ Some a → slice_get l n ≡ Some b → IsKey ts rs l (Lam r m n) f
  is-lam r m n ns fs a b f e h i k j = subst (λ x. IsKey ts rs l (Lam r m n) x) e (ns, h, i, k, j)

-- ---- one walk after another
module _ (f : Formula) where
  abbrev pub Adds : List Formula → List Formula → Type 0
  Adds l m = AddsOnly (λ g. IsPart g f) l m

  pub one-adds : (a : Formula) → ((g : Formula) → IsPart g a → IsPart g f) → (l m : List Formula) → AddsOnly (λ g. IsPart g a) l m → Adds l m
  one-adds a w l m h = adds-weaker (λ g. IsPart g a) (λ g. IsPart g f) w l m h

  pub list-adds : (fs : Formulas) → ((g : Formula) → IsPartOfOne g fs → IsPart g f) → (l m : List Formula) → AddsOnly (λ g. IsPartOfOne g fs) l m → Adds l m
  list-adds fs w l m h = adds-weaker (λ g. IsPartOfOne g fs) (λ g. IsPart g f) w l m h

  pub then-adds : (l m n : List Formula) → Adds l m → Adds m n → Adds l n
  then-adds l m n h k = adds-then (λ g. IsPart g f) l m n h k

  pub last : {E T : Type 0} (r : Result T E) (m n : List Formula) → OnOk r (IsWith m f n) → OnErr r (n ≡ m) → Adds m n
  last r m n k j = adds-either r (λ g. IsPart g f) m f n (itself f) k j

-- ---- a walk over a list
pub range-adds : (fs : List Formula) (i : ℕ) (f : Formula) (l m n : List Formula) → f ≡ get_or fs i f → i < length fs → AddsOnly (λ g. IsPartOfOne g (formulas_of fs)) l m → AddsOnly (λ g. IsPart g f) m n → AddsOnly (λ g. IsPartOfOne g (formulas_of fs)) l n
range-adds fs i f l m n e w h k = adds-then (λ g. IsPartOfOne g (formulas_of fs)) l m n h (adds-weaker (λ g. IsPart g f) (λ g. IsPartOfOne g (formulas_of fs)) (λ g p. one-of fs i f g e w p) m n k)

take-whole : (fs : List Formula) (i : ℕ) → length fs ≤ i → take i fs ≡ fs
take-whole [] zero w = refl
take-whole [] (suc i) w = refl
take-whole (f ∷ fs) zero w = absurd (omega (arith, w))
take-whole (f ∷ fs) (suc i) w = let less : suc (length fs) ≤ suc i = w in ap (λ x. f ∷ x) (take-whole fs i (omega (arith, less)))

pub at-end : (l : List Formula) (ns : List ℕ) (fs : List Formula) (i : ℕ) → length fs ≤ i → AreAt l ns (formulas_of (take i fs)) → AreAt l ns (formulas_of fs)
at-end l ns fs i w h = subst (λ x. AreAt l ns (formulas_of x)) (take-whole fs i w) h
