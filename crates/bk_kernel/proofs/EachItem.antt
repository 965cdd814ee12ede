-- Facts of each item, and hypotheses that hold.
use Rattle.std.proofs.Common.{◌≡◌, ℕ, zero, suc, List, [], ◌∷◌, ◌++◌, subst, true, arith, All}
use Rattle.std.specs.Prelude.{Some, slice_get}
use Rattle.bk_form.specs.Formula.{Formula}
use Rattle.bk_form.specs.Search.{Finder}
use Rattle.bk_form.specs.Environment.{Environment}
use Rattle.bk_form.specs.Meaning.{truth}
use Rattle.bk_form.specs.Predicates.{AllHold}
use Rattle.bk_seq.specs.Paths.{numbered_item}
use Rattle.bk_form.specs.Each.{Each}

pub each-append : {A : Type 0} (P : A → Type 0) (xs ys : List A) → Each P xs → Each P ys → Each P (xs ++ ys)
each-append P [] ys h k = k
each-append P (x ∷ xs) ys h k = (h.0, each-append P xs ys h.1 k)

pub each-left : {A : Type 0} (P : A → Type 0) (xs ys : List A) → Each P (xs ++ ys) → Each P xs
each-left P [] ys h = tt
each-left P (x ∷ xs) ys h = (h.0, each-left P xs ys h.1)

pub each-right : {A : Type 0} (P : A → Type 0) (xs ys : List A) → Each P (xs ++ ys) → Each P ys
each-right P [] ys h = h
each-right P (x ∷ xs) ys h = each-right P xs ys h.1

each-at : {A : Type 0} (P : A → Type 0) (xs : List A) (i : ℕ) (x : A) → Each P xs → slice_get xs i ≡ Some x → P x
each-at P [] i x h e = absurd (cc)
each-at P (y ∷ ys) zero x h e = let same : y ≡ x = cc in subst P same h.0
each-at P (y ∷ ys) (suc i) x h e = each-at P ys i x h.1 e

pub each-item : {A : Type 0} (P : A → Type 0) (xs : List A) (i : ℕ) (x : A) → Each P xs → numbered_item xs i ≡ Some x → P x
each-item P xs zero x h e = absurd (cc)
each-item P xs (suc i) x h e = each-at P xs i x h e

pub all-each : {A : Type 0} (P : A → Type 0) (xs : List A) → Each P xs → All P xs
all-each P [] h k d less = absurd (omega arith)
all-each P (x ∷ xs) h zero d less = h.0
all-each P (x ∷ xs) h (suc k) d less = all-each P xs h.1 k d (omega arith)

module _ (find : Finder) (e : Environment) where
  pub hold-append : (ps qs : List Formula) → AllHold find e ps → AllHold find e qs → AllHold find e (ps ++ qs)
  hold-append [] qs h k = k
  hold-append (p ∷ ps) qs h k = (h.0, hold-append ps qs h.1 k)

  hold-at : (ps : List Formula) (i : ℕ) (p : Formula) → AllHold find e ps → slice_get ps i ≡ Some p → truth find e p ≡ true
  hold-at [] i p h k = absurd (cc)
  hold-at (q ∷ qs) zero p h k = let same : q ≡ p = cc in subst (λ x. truth find e x ≡ true) same h.0
  hold-at (q ∷ qs) (suc i) p h k = hold-at qs i p h.1 k

  pub hold-item : (ps : List Formula) (i : ℕ) (p : Formula) → AllHold find e ps → numbered_item ps i ≡ Some p → truth find e p ≡ true
  hold-item ps zero p h k = absurd (cc)
  hold-item ps (suc i) p h k = hold-at ps i p h k
