-- Sharing step by step: what is added are parts alone, and the rest follows where the list is a pool that has the formula.
use Rattle.std.proofs.Common.{◌≡◌, ◌<◌, ◌+◌, inl, inr, ℕ, zero, suc, List, [], ◌∷◌, ◌++◌, length, refl, sym, ◌∙◌, ap, subst, arith}
use Rattle.std.specs.Prelude.{Some, slice_get}
use Rattle.std.proofs.lemmas.List.{append_assoc}
use Rattle.std.specs.Prelude.{Result, Ok, Err, OnOk, OnErr}
use Rattle.bk_form.specs.Formula.{Formula, variable, bound, literal, truth_value, element, empty_set, named, btrue, bfalse, unary, binary, for_all, for_some, comprehension, lambda}
use Rattle.bk_form.specs.declared.operator.UnOp.{UnOp}
use Rattle.bk_form.specs.declared.operator.BinOp.{BinOp}
use Rattle.bk_form.specs.Parts.{IsPart}
use Rattle.bk_form.specs.Pools.{Stands, IsPool, IsShared}
use Rattle.bk_form.specs.PoolKeys.{IsWith, AddsOnly}
use Rattle.bk_form.proofs.Pools.Lists.{append-none, get-below, get-left, get-cases}
use Rattle.bk_form.proofs.Pools.Pooled.{closed}

pub adds-none : (P : Formula → Type 0) (l : List Formula) → AddsOnly P l l
adds-none P l = ([], sym (append-none l), λ i g h. absurd (nothing i g h))
  where
    nothing : (i : ℕ) (g : Formula) → slice_get [] i ≡ Some g → ⊥
    nothing i g h =
        let below : i < 0 = get-below [] i g h in
        absurd (omega (arith, below))

pub adds-weaker : (P Q : Formula → Type 0) → ((g : Formula) → P g → Q g) → (l m : List Formula) → AddsOnly P l m → AddsOnly Q l m
adds-weaker P Q w l m h = (h.0, h.1, λ i g e. w g (h.2 i g e))

each-of-two : (P : Formula → Type 0) (a b : List Formula) → ((i : ℕ) (g : Formula) → slice_get a i ≡ Some g → P g) → ((i : ℕ) (g : Formula) → slice_get b i ≡ Some g → P g) → (i : ℕ) (g : Formula) → slice_get (a ++ b) i ≡ Some g → P g
each-of-two P [] b h k i g e = k i g e
each-of-two P (x ∷ a) b h k zero g e = h zero g e
each-of-two P (x ∷ a) b h k (suc i) g e = each-of-two P a b (λ j f d. h (suc j) f d) k i g e

pub adds-then : (P : Formula → Type 0) (l m n : List Formula) → AddsOnly P l m → AddsOnly P m n → AddsOnly P l n
adds-then P l m n h k = (h.0 ++ k.0, k.1 ∙ ap (λ x. x ++ k.0) h.1 ∙ append_assoc l h.0 k.0, each-of-two P h.0 k.0 h.2 k.2)

pub adds-one : (P : Formula → Type 0) (l : List Formula) (f : Formula) (m : List Formula) → P f → IsWith l f m → AddsOnly P l m
adds-one P l f m p (inl h) = subst (AddsOnly P l) (sym h.1) (adds-none P l)
adds-one P l f m p (inr h) = (f ∷ [], h.1, one)
  where
    one : (i : ℕ) (g : Formula) → slice_get (f ∷ []) i ≡ Some g → P g
    one i g e = elim (get-cases [] f i g e) [
      | inl q ↦ (let below : i < 0 = get-below [] i g q in absurd (omega (arith, below)))
      | inr q ↦ subst P (sym q.1) p
    ]

get-right : (l m : List Formula) (i k : ℕ) → k ≡ length l + i → slice_get (l ++ m) k ≡ slice_get m i
get-right [] m i k e =
    let same : k ≡ i = omega (arith, e) in
    ap (slice_get m) same
get-right (x ∷ l) m i zero e =
    let not : 0 ≡ suc (length l) + i = e in
    absurd (omega (arith, not))
get-right (x ∷ l) m i (suc k) e =
    let more : suc k ≡ suc (length l) + i = e in
    get-right l m i k (omega (arith, more))

pub shared : (old : List Formula) (f : Formula) (new : List Formula) → IsPool new → Stands new f → AddsOnly (λ g. IsPart g f) old new → IsShared old f new
shared old f new pool s h = record {
  added = h.0;
  continues = h.1;
  parts_alone = h.2;
  not_old = λ i g e o.
      let left : slice_get new o.0 ≡ Some g = ap (λ l. slice_get l o.0) h.1 ∙ get-left old h.0 o.0 g o.1 in
      let right : slice_get new (length old + i) ≡ Some g = ap (λ l. slice_get l (length old + i)) h.1 ∙ (get-right old h.0 i (length old + i) refl ∙ e) in
      apart o.0 i (get-below old o.0 g o.1) (pool.different o.0 (length old + i) g left right);
  all_parts = λ g p. closed new pool f s g p;
}
  where
    apart : (j i : ℕ) → j < length old → j ≡ length old + i → ⊥
    apart j i b e = absurd (omega (arith, b, e))

-- ---- steps of a walk
pub itself : (f : Formula) → IsPart f f
itself (unary o a) = inl refl
itself (binary o a b) = inl refl
itself (for_all ts p) = inl refl
itself (for_some ts p) = inl refl
itself (comprehension rs p) = inl refl
itself (lambda rs p v) = inl refl
itself (variable x) = refl
itself (bound x) = refl
itself (literal x) = refl
itself (truth_value x) = refl
itself (element x y) = refl
itself (empty_set x) = refl
itself (named x) = refl
itself btrue = refl
itself bfalse = refl

pub adds-either : {E T : Type 0} (r : Result T E) (P : Formula → Type 0) (l : List Formula) (f : Formula) (m : List Formula) → P f → OnOk r (IsWith l f m) → OnErr r (m ≡ l) → AddsOnly P l m
adds-either (Ok x) P l f m p h k = adds-one P l f m p h
adds-either (Err x) P l f m p h k = subst (AddsOnly P l) (sym k) (adds-none P l)

module _ (o : UnOp) (a f : Formula) (e : unary o a ≡ f) where
  pub unary-adds : {E T : Type 0} (r : Result T E) (l m n : List Formula) → AddsOnly (λ g. IsPart g a) l m → OnOk r (IsWith m f n) → OnErr r (n ≡ m) → AddsOnly (λ g. IsPart g f) l n
  unary-adds r l m n h k j =
      adds-then (λ g. IsPart g f) l m n
      (adds-weaker (λ g. IsPart g a) (λ g. IsPart g f) (λ g p. subst (IsPart g) e (inr p)) l m h)
      (adds-either r (λ g. IsPart g f) m f n (itself f) k j)

module _ (o : BinOp) (a b f : Formula) (e : binary o a b ≡ f) where
  pub two-add : (l m n : List Formula) → AddsOnly (λ g. IsPart g a) l m → AddsOnly (λ g. IsPart g b) m n → AddsOnly (λ g. IsPart g f) l n
  two-add l m n h k =
      adds-then (λ g. IsPart g f) l m n
      (adds-weaker (λ g. IsPart g a) (λ g. IsPart g f) (λ g p. subst (IsPart g) e (inr (inl p))) l m h)
      (adds-weaker (λ g. IsPart g b) (λ g. IsPart g f) (λ g p. subst (IsPart g) e (inr (inr p))) m n k)

  pub binary-adds : {E T : Type 0} (r : Result T E) (l m n q : List Formula) → AddsOnly (λ g. IsPart g a) l m → AddsOnly (λ g. IsPart g b) m n → OnOk r (IsWith n f q) → OnErr r (q ≡ n) → AddsOnly (λ g. IsPart g f) l q
  binary-adds r l m n q h k i j = adds-then (λ g. IsPart g f) l n q (two-add l m n h k) (adds-either r (λ g. IsPart g f) n f q (itself f) i j)

pub on-ok : {E T : Type 0} (r : Result T E) (X : Type 0) → X → OnOk r X
on-ok (Ok x) X h = h
on-ok (Err x) X h = tt
