-- The goal that joins two levels: it is a predicate, and what it names.
use Rattle.std.proofs.Common.{◌≡◌, ◌⊎◌, inl, inr, ℕ, List, [], ◌∷◌, map, sym, subst, Bool, true, false, not, cond, nat_eq}
use Rattle.std.specs.List.{filter}
use Rattle.bk_form.specs.Table.{Table}
use Rattle.bk_form.specs.Formula.{Formula, binary}
use Rattle.bk_form.specs.Replacement.{occurs}
use Rattle.bk_form.specs.declared.operator.BinOp.TheVariants.{And}
use Rattle.bk_form.proofs.Members.{or-cases, or-left, or-right}
use Rattle.bk_gsl.specs.State.{among}
use Rattle.bk_form.specs.Predicates.{IsPredicate, equation}
use Rattle.bk_gsl.proofs.States.{nat_eq-same, nat_eq-self}
use Rattle.bk_dev.specs.Development.{Level, is_btrue}
use Rattle.bk_form.specs.Each.{Each}
use Rattle.bk_dev.specs.Facts.{AreAlike}
use Rattle.bk_dev.specs.Claims.{beside}
use Rattle.bk_po.specs.Obligations.{joined_onto, joined_all, conjunction, joined_goal}
use Rattle.bk_po.proofs.Predicates.{conjunction-predicate, links-predicate}

-- ---- it is a predicate
module _ (table : Table) where
  pub joined_goal-predicate : (l : Level) (outputs above : List ℕ) → IsPredicate table l.invariant → Each (λ p. AreAlike table p.0 p.1) l.links → Each (λ p. AreAlike table p.0 p.1) (beside outputs above) → IsPredicate table (joined_goal l outputs above)
  joined_goal-predicate l outputs above h k m =
      conjunction-predicate table (l.invariant ∷ conjunction (map equation l.links) ∷ conjunction (map equation (beside outputs above)) ∷ [])
      (h, (links-predicate table l.links k, (links-predicate table (beside outputs above) m, tt)))

-- ---- what it names
abbrev pub SomeNames : ℕ → List Formula → Type 0
SomeNames n [] = ⊥
SomeNames n (p ∷ ps) = (occurs n p ≡ true) ⊎ SomeNames n ps

onto-names : (n : ℕ) (p : Formula) (qs : List Formula) → occurs n (joined_onto p qs) ≡ true → (occurs n p ≡ true) ⊎ SomeNames n qs
onto-names n p [] h = inl h
onto-names n p (q ∷ qs) h = elim (onto-names n (binary And p q) qs h) [
  | inl k ↦ elim (or-cases (occurs n p) (occurs n q) k) [ inl y ↦ inl y | inr y ↦ inr (inl y) ]
  | inr k ↦ inr (inr k)
]

all-names : (n : ℕ) (ps : List Formula) → occurs n (joined_all ps) ≡ true → SomeNames n ps
all-names n [] h = absurd (cc)
all-names n (p ∷ ps) h = onto-names n p ps h

filter-names : (n : ℕ) (test : Formula → Bool) (ps : List Formula) → SomeNames n (filter test ps) → SomeNames n ps
filter-names n test [] h = h
filter-names n test (p ∷ ps) h = by_test (filter-names n test ps) (test p) h
  where
    by_test : (SomeNames n (filter test ps) → SomeNames n ps) → (b : Bool) → SomeNames n (cond b (p ∷ filter test ps) (filter test ps)) → SomeNames n (p ∷ ps)
    by_test f true (inl k) = inl k
    by_test f true (inr k) = inr (f k)
    by_test f false k = inr (f k)

conjunction-names : (n : ℕ) (ps : List Formula) → occurs n (conjunction ps) ≡ true → SomeNames n ps
conjunction-names n ps h = filter-names n (λ p. not (is_btrue p)) ps (all-names n (filter (λ p. not (is_btrue p)) ps) h)

-- both sides of some link
abbrev pub LinkNames : ℕ → List (ℕ × ℕ) → Type 0
LinkNames n [] = ⊥
LinkNames n (p ∷ ps) = ((n ≡ p.0) ⊎ (n ≡ p.1)) ⊎ LinkNames n ps

link-names : (n : ℕ) (ps : List (ℕ × ℕ)) → SomeNames n (map equation ps) → LinkNames n ps
link-names n [] h = h
link-names n (p ∷ ps) (inl h) = inl (elim (or-cases (nat_eq p.0 n) (nat_eq p.1 n) h) [ inl y ↦ inl (sym (nat_eq-same p.0 n y)) | inr y ↦ inr (sym (nat_eq-same p.1 n y)) ])
link-names n (p ∷ ps) (inr h) = inr (link-names n ps h)

pub joined_goal-names : (l : Level) (outputs above : List ℕ) (n : ℕ) → occurs n (joined_goal l outputs above) ≡ true → (occurs n l.invariant ≡ true) ⊎ (LinkNames n l.links ⊎ LinkNames n (beside outputs above))
joined_goal-names l outputs above n h = elim (conjunction-names n (l.invariant ∷ conjunction (map equation l.links) ∷ conjunction (map equation (beside outputs above)) ∷ []) h) [
  | inl k ↦ inl k
  | inr k ↦ elim k [
    | inl y ↦ inr (inl (link-names n l.links (conjunction-names n (map equation l.links) y)))
    | inr y ↦ elim y [
      | inl z ↦ inr (inr (link-names n (beside outputs above) (conjunction-names n (map equation (beside outputs above)) z)))
      | inr z ↦ absurd z
    ]
  ]
]

pub beside-among : (xs ys : List ℕ) (n : ℕ) → LinkNames n (beside xs ys) → (among xs n ≡ true) ⊎ (among ys n ≡ true)
beside-among [] ys n h = absurd h
beside-among (x ∷ xs) [] n h = absurd h
beside-among (x ∷ xs) (y ∷ ys) n (inl (inl h)) = inl (or-left (nat_eq n x) (among xs n) (subst (λ m. nat_eq n m ≡ true) h (nat_eq-self n)))
beside-among (x ∷ xs) (y ∷ ys) n (inl (inr h)) = inr (or-left (nat_eq n y) (among ys n) (subst (λ m. nat_eq n m ≡ true) h (nat_eq-self n)))
beside-among (x ∷ xs) (y ∷ ys) n (inr h) = elim (beside-among xs ys n h) [ inl k ↦ inl (or-right (nat_eq n x) (among xs n) k) | inr k ↦ inr (or-right (nat_eq n y) (among ys n) k) ]
