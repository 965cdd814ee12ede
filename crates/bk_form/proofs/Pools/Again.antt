-- What a formula with a key is made of.
use Rattle.std.proofs.Common.{Option, None, ◌≡◌, ◌<◌, ◌≤◌, ◌+◌, ℕ, zero, suc, map, take, get_or, List, [], ◌∷◌, ◌++◌, length, refl, sym, ◌∙◌, ap, subst, arith}
use Rattle.std.specs.Prelude.{Some, slice_get}
use Rattle.std.specs.Option.{option_map}
use Rattle.std.proofs.lemmas.List.{take_more, length-map}
use Rattle.std.proofs.lemmas.Option.{slice_get-map, slice_get_read}
use Rattle.bk_val.specs.ValueType.{ValueType}
use Rattle.bk_form.specs.Formula.{Formula, unary, binary, for_all, for_some, comprehension, lambda, Formulas, no_formulas, formula_and, formulas_of}
use Rattle.bk_form.specs.declared.operator.UnOp.{UnOp}
use Rattle.bk_form.specs.declared.operator.BinOp.{BinOp}
use Rattle.bk_form.specs.declared.pool.key.Key.{Key}
use Rattle.bk_form.specs.declared.pool.key.Key.TheVariants.{Un, Bin, All, Some as Exists, Compr, Lam}
use Rattle.bk_form.specs.PoolKeys.{AreAt, AllBelow, IsKey, held}
use Rattle.bk_form.proofs.Pools.Lists.{some-same, get-below}
use Rattle.bk_form.proofs.Pools.Held.{held-at}
use Rattle.bk_form.proofs.Pools.Binders.{one-more-at}
use Rattle.bk_form.proofs.Pools.Keyed.{same-at, all-same-at, unary-form, binary-form, all-form, some-form, compr-form, lam-form}

pub all-below : (l : List Formula) (ns : List ℕ) (fs : Formulas) → AreAt l ns fs → AllBelow ns (length l)
all-below l [] no_formulas h = tt
all-below l [] (formula_and f fs) h = absurd h
all-below l (n ∷ ns) no_formulas h = absurd h
all-below l (n ∷ ns) (formula_and f fs) h = (get-below l n f h.0, all-below l ns fs h.1)

module _ (ts : List (List ValueType)) (rs : List (List ℕ)) (l : List Formula) (f : Formula) where
  pub un-below : (o : UnOp) (n : ℕ) → IsKey ts rs l (Un o n) f → n < length l
  un-below o n h = let p = unary-form ts rs l o n f h in get-below l n p.0 p.2

  pub un-again : (o : UnOp) (n : ℕ) → IsKey ts rs l (Un o n) f → (x : Formula) → slice_get l n ≡ Some x → unary o x ≡ f
  un-again o n h x s = let p = unary-form ts rs l o n f h in ap (unary o) (same-at ts rs l n x p.0 s p.2) ∙ sym p.1

  pub bin-left-below : (o : BinOp) (m n : ℕ) → IsKey ts rs l (Bin o m n) f → m < length l
  bin-left-below o m n h = let p = binary-form ts rs l o m n f h in get-below l m p.0 p.3

  pub bin-right-below : (o : BinOp) (m n : ℕ) → IsKey ts rs l (Bin o m n) f → n < length l
  bin-right-below o m n h = let p = binary-form ts rs l o m n f h in get-below l n p.1 p.4

  pub bin-again : (o : BinOp) (m n : ℕ) → IsKey ts rs l (Bin o m n) f → (x y : Formula) → slice_get l m ≡ Some x → slice_get l n ≡ Some y → binary o x y ≡ f
  bin-again o m n h x y s r = let p = binary-form ts rs l o m n f h in (λ i. binary o (same-at ts rs l m x p.0 s p.3 i) (same-at ts rs l n y p.1 r p.4 i)) ∙ sym p.2

  pub all-types : (t n : ℕ) → IsKey ts rs l (All t n) f → t < length ts
  all-types t n h = let p = all-form ts rs l t n f h in get-below ts t p.0 p.3

  pub all-body : (t n : ℕ) → IsKey ts rs l (All t n) f → n < length l
  all-body t n h = let p = all-form ts rs l t n f h in get-below l n p.1 p.4

  pub all-again : (t n : ℕ) → IsKey ts rs l (All t n) f → (us : List ValueType) (x : Formula) → slice_get ts t ≡ Some us → slice_get l n ≡ Some x → for_all us x ≡ f
  all-again t n h us x s r = let p = all-form ts rs l t n f h in (λ i. for_all (some-same us p.0 (sym s ∙ p.3) i) (same-at ts rs l n x p.1 r p.4 i)) ∙ sym p.2

  pub some-types : (t n : ℕ) → IsKey ts rs l (Exists t n) f → t < length ts
  some-types t n h = let p = some-form ts rs l t n f h in get-below ts t p.0 p.3

  pub some-body : (t n : ℕ) → IsKey ts rs l (Exists t n) f → n < length l
  some-body t n h = let p = some-form ts rs l t n f h in get-below l n p.1 p.4

  pub some-again : (t n : ℕ) → IsKey ts rs l (Exists t n) f → (us : List ValueType) (x : Formula) → slice_get ts t ≡ Some us → slice_get l n ≡ Some x → for_some us x ≡ f
  some-again t n h us x s r = let p = some-form ts rs l t n f h in (λ i. for_some (some-same us p.0 (sym s ∙ p.3) i) (same-at ts rs l n x p.1 r p.4 i)) ∙ sym p.2

  pub compr-ranges : (r n : ℕ) → IsKey ts rs l (Compr r n) f → r < length rs
  compr-ranges r n h = let p = compr-form ts rs l r n f h in get-below rs r p.3 p.4

  pub compr-body : (r n : ℕ) → IsKey ts rs l (Compr r n) f → n < length l
  compr-body r n h = let p = compr-form ts rs l r n f h in get-below l n p.1 p.6

  pub compr-list-below : (r n : ℕ) → IsKey ts rs l (Compr r n) f → (ns : List ℕ) → slice_get rs r ≡ Some ns → AllBelow ns (length l)
  compr-list-below r n h ns s = let p = compr-form ts rs l r n f h in subst (λ x. AllBelow x (length l)) (some-same p.3 ns (sym p.4 ∙ s)) (all-below l p.3 p.0 p.5)

  pub compr-again : (r n : ℕ) → IsKey ts rs l (Compr r n) f → (ns : List ℕ) (gs : Formulas) (x : Formula) → slice_get rs r ≡ Some ns → AreAt l ns gs → slice_get l n ≡ Some x → comprehension gs x ≡ f
  compr-again r n h ns gs x s at q =
      let p = compr-form ts rs l r n f h in
      (λ i. comprehension (all-same-at ts rs l ns p.3 (some-same ns p.3 (sym s ∙ p.4)) gs p.0 at p.5 i) (same-at ts rs l n x p.1 q p.6 i)) ∙ sym p.2

  pub lam-ranges : (r m n : ℕ) → IsKey ts rs l (Lam r m n) f → r < length rs
  lam-ranges r m n h = let p = lam-form ts rs l r m n f h in get-below rs r p.4 p.5

  pub lam-body : (r m n : ℕ) → IsKey ts rs l (Lam r m n) f → m < length l
  lam-body r m n h = let p = lam-form ts rs l r m n f h in get-below l m p.1 p.7

  pub lam-value : (r m n : ℕ) → IsKey ts rs l (Lam r m n) f → n < length l
  lam-value r m n h = let p = lam-form ts rs l r m n f h in get-below l n p.2 p.8

  pub lam-list-below : (r m n : ℕ) → IsKey ts rs l (Lam r m n) f → (ns : List ℕ) → slice_get rs r ≡ Some ns → AllBelow ns (length l)
  lam-list-below r m n h ns s = let p = lam-form ts rs l r m n f h in subst (λ x. AllBelow x (length l)) (some-same p.4 ns (sym p.5 ∙ s)) (all-below l p.4 p.0 p.6)

  pub lam-again : (r m n : ℕ) → IsKey ts rs l (Lam r m n) f → (ns : List ℕ) (gs : Formulas) (x y : Formula) → slice_get rs r ≡ Some ns → AreAt l ns gs → slice_get l m ≡ Some x → slice_get l n ≡ Some y → lambda gs x y ≡ f
  lam-again r m n h ns gs x y s at q w =
      let p = lam-form ts rs l r m n f h in
      (λ i. lambda (all-same-at ts rs l ns p.4 (some-same ns p.4 (sym s ∙ p.5)) gs p.0 at p.6 i) (same-at ts rs l m x p.1 q p.7 i) (same-at ts rs l n y p.2 w p.8 i)) ∙ sym p.3

-- ---- members at numbers
pub numbers_below : (ns : List ℕ) (k i : ℕ) (d : ℕ) → AllBelow ns k → i < length ns → get_or ns i d < k
numbers_below [] k i d h w = absurd (omega (arith, w))
numbers_below (n ∷ ns) k zero d h w = h.0
numbers_below (n ∷ ns) k (suc i) d h w = let less : suc i < suc (length ns) = w in numbers_below ns k i d h.1 (omega (arith, less))

pub copied : (l : List Formula) (ns : List ℕ) (i d : ℕ) (fs gs : List Formula) (x f : Formula) → AreAt l (take i ns) (formulas_of fs) → i < length ns → slice_get l (get_or ns i d) ≡ Some x → f ≡ x → gs ≡ fs ++ f ∷ [] → AreAt l (take (i + 1) ns) (formulas_of gs)
copied l ns i d fs gs x f h w s e p =
    subst (λ y. AreAt l (take (i + 1) ns) (formulas_of y)) (sym p)
    (subst (λ y. AreAt l y (formulas_of (fs ++ f ∷ []))) (sym (take_more ns i d w)) (one-more-at l (take i ns) fs (get_or ns i d) f h (s ∙ ap Some (sym e))))

take-whole : (ns : List ℕ) (i : ℕ) → length ns ≤ i → take i ns ≡ ns
take-whole [] zero w = refl
take-whole [] (suc i) w = refl
take-whole (n ∷ ns) zero w = absurd (omega (arith, w))
take-whole (n ∷ ns) (suc i) w = let less : suc (length ns) ≤ suc i = w in ap (λ x. n ∷ x) (take-whole ns i (omega (arith, less)))

pub all-copied : (l : List Formula) (ns : List ℕ) (i : ℕ) (fs : List Formula) → length ns ≤ i → AreAt l (take i ns) (formulas_of fs) → AreAt l ns (formulas_of fs)
all-copied l ns i fs w h = subst (λ x. AreAt l x (formulas_of fs)) (take-whole ns i w) h

-- ---- values of a list
pub mapped-below : {A B : Type 0} (f : A → B) (xs : List A) (i : ℕ) → i < length (map f xs) → i < length xs
mapped-below f xs i w = subst (λ n. i < n) (length-map xs f) w

pub mapped-at : {A B : Type 0} (f : A → B) (xs : List A) (i : ℕ) (x : A) (y : B) → slice_get xs i ≡ Some x → y ≡ f x → slice_get (map f xs) i ≡ Some y
mapped-at f xs i x y s e = slice_get-map f xs i ∙ (ap (option_map f) s ∙ ap Some (sym e))

pub mapped-read : {A B : Type 0} (f : A → B) (xs : List A) (i : ℕ) (x : A) (y : B) → i < length (map f xs) → x ≡ get_or xs i x → y ≡ f x → slice_get (map f xs) i ≡ Some y
mapped-read f xs i x y w g e = mapped-at f xs i x y (slice_get_read xs (length xs) i x refl (mapped-below f xs i w) g) e

-- ---- the key of a member
pub key-there : (es : List (Key × Formula)) (n : ℕ) (k : Key) (v : Formula) → Some (k, v) ≡ slice_get es n → (f : Formula) → slice_get (held es) n ≡ Some f → slice_get es n ≡ Some (k, f)
key-there es n k v e f s =
    let p = held-at es n f s in
    p.1 ∙ ap (λ (x : Key × Formula). Some (x.0, f)) (sym (some-same (k, v) (p.0, f) (e ∙ p.1)))

pub members-length : (es : List (Key × Formula)) (now : List Formula) (n : ℕ) → held es ≡ now → n < length now → n < length es
members-length es now n e w = mapped-below (λ x. x.1) es n (subst (λ l. n < length l) (sym e) w)

abbrev IsNone : {A : Type 0} → Option A → Type 0
IsNone None = Unit {0}
IsNone (Some x) = ⊥

pub key-not-there : (es : List (Key × Formula)) (n : ℕ) → None ≡ slice_get es n → (k : Key) → (f : Formula) → slice_get (held es) n ≡ Some f → slice_get es n ≡ Some (k, f)
key-not-there es n e k f s = let p = held-at es n f s in absurd (subst IsNone (e ∙ p.1) tt)

pub entry-below : (es : List (Key × Formula)) (n : ℕ) → n < length (held es) → n < length es
entry-below es n w = mapped-below (λ x. x.1) es n w
