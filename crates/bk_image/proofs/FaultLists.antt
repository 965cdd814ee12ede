-- The first fault of parts that stand one after another.
use Rattle.std.proofs.Common.{◌≡◌, ℕ, ◌+◌, ◌<◌, ◌≤◌, List, [], ◌∷◌, ◌++◌, length, take, get_or, Some, sym, ap, subst, ◌∙◌, arith, inl, inr}
use Rattle.std.specs.Prelude.{slice_get}
use Rattle.std.specs.List.{flat_map}
use Rattle.std.proofs.lemmas.Bool.{cases_lt}
use Rattle.std.proofs.lemmas.List.{length-append, take-take, take_more}
use Rattle.std.proofs.lemmas.List.Concat.{flat_map-append}
use Rattle.std.proofs.lemmas.Option.{get_or_from_slice_get, slice_get_within}
use Rattle.bk_image.specs.declared.fault.LoadFault.{LoadFault}
use Rattle.bk_image.specs.Faults.{place, IsFirst, part_place, IsFaultIn}
use Rattle.bk_image.proofs.Sizes.{parts_within}

-- a part's faults stand within it, and a good part has none
pub record Judges {A : Type 0} (spell : A → List ℕ) (IsFault : ℕ → ℕ → A → LoadFault → Type 0) (IsGood : ℕ → A → Type 0) : Type 0 where
  pub within : (k at : ℕ) (x : A) (e : LoadFault) → IsFault k at x e → (at ≤ place e) × (place e < at + length (spell x))
  pub none : (k at : ℕ) (x : A) (e : LoadFault) → IsGood k x → IsFault k at x e → ⊥

-- the first n parts are good
abbrev pub AreGood : {A : Type 0} → (ℕ → A → Type 0) → List A → ℕ → Type 0
AreGood {A} IsGood xs n = (k : ℕ) (d : A) → k < n → IsGood k (get_or xs k d)

good_at : {A : Type 0} (IsGood : ℕ → A → Type 0) (xs : List A) (n k : ℕ) (x : A) → AreGood IsGood xs n → k < n → slice_get xs k ≡ Some x → IsGood k x
good_at IsGood xs n k x good lt get = subst (IsGood k) (get_or_from_slice_get xs k x x get) (good k x lt)

-- the parts before a later one are no shorter
before_later : {A : Type 0} (spell : A → List ℕ) (xs : List A) (j k : ℕ) → j ≤ k → length (flat_map spell (take j xs)) ≤ length (flat_map spell (take k xs))
before_later spell xs j k le = subst (λ ys. length (flat_map spell ys) ≤ length (flat_map spell (take k xs))) (take-take j k xs le) (parts_within spell (take k xs) j)

-- the next part begins where this one ends
pub place_more : {A : Type 0} (spell : A → List ℕ) (at : ℕ) (xs : List A) (k : ℕ) (x : A) → slice_get xs k ≡ Some x → part_place spell at xs (k + 1) ≡ part_place spell at xs k + length (spell x)
place_more spell at xs k x get =
    let e : take (k + 1) xs ≡ take k xs ++ x ∷ [] = take_more xs k x (slice_get_within xs k x get) ∙ ap (λ y. take k xs ++ y ∷ []) (get_or_from_slice_get xs k x x get) in
    let f : flat_map spell (take (k + 1) xs) ≡ flat_map spell (take k xs) ++ flat_map spell (x ∷ []) = ap (flat_map spell) e ∙ flat_map-append spell (take k xs) (x ∷ []) in
    let nil : length (spell x ++ []) ≡ length (spell x) + 0 = length-append (spell x) [] in
    omega (arith, ap length f, length-append (flat_map spell (take k xs)) (flat_map spell (x ∷ [])), nil)

-- and within the whole
pub place_within : {A : Type 0} (spell : A → List ℕ) (at : ℕ) (xs : List A) (k : ℕ) (x : A) → slice_get xs k ≡ Some x → part_place spell at xs k + length (spell x) ≤ at + length (flat_map spell xs)
place_within spell at xs k x get = omega (arith, place_more spell at xs k x get, parts_within spell xs (k + 1))

some_is : {A : Type 0} (y z : A) → Some y ≡ Some z → y ≡ z
some_is y z h = cc

pub first_in : {A : Type 0} (spell : A → List ℕ) (IsFault : ℕ → ℕ → A → LoadFault → Type 0) (IsGood : ℕ → A → Type 0) (judges : Judges spell IsFault IsGood) (at : ℕ) (xs : List A) (n : ℕ) (x : A) (e : LoadFault)
    → AreGood IsGood xs n → slice_get xs n ≡ Some x → IsFirst (IsFault n (part_place spell at xs n) x) e → IsFirst (IsFaultIn spell IsFault at xs) e
first_in {A} spell IsFault IsGood judges at xs n x e good here first =
    record { is = (n, x, here, first.is); least = λ other f. later other f }
  where
    later : (other : LoadFault) → IsFaultIn spell IsFault at xs other → place e ≤ place other
    later other f =
        let mine = judges.within n (part_place spell at xs n) x e first.is in
        let theirs = judges.within f.0 (part_place spell at xs f.0) f.1 other f.3 in
        elim (cases_lt f.0 n) [
          | inl before ↦ absurd (judges.none f.0 (part_place spell at xs f.0) f.1 other (good_at IsGood xs n f.0 f.1 good before f.2) f.3)
          | inr after ↦ elim (cases_lt n f.0) [
            | inl behind ↦ omega (arith, mine.1, theirs.0, place_more spell at xs n x here, before_later spell xs (n + 1) f.0 (omega arith))
            | inr same ↦
                let k-is : f.0 ≡ n = omega arith in
                let there : slice_get xs n ≡ Some f.1 = ap (slice_get xs) (sym k-is) ∙ f.2 in
                let x-is : x ≡ f.1 = some_is x f.1 (sym here ∙ there) in
                let g : IsFault n (part_place spell at xs n) f.1 other = subst (λ k. IsFault k (part_place spell at xs k) f.1 other) k-is f.3 in
                first.least other (subst (λ y. IsFault n (part_place spell at xs n) y other) (sym x-is) g)
          ]
        ]

pub none_in : {A : Type 0} (spell : A → List ℕ) (IsFault : ℕ → ℕ → A → LoadFault → Type 0) (IsGood : ℕ → A → Type 0) (judges : Judges spell IsFault IsGood) (at : ℕ) (xs : List A) (e : LoadFault)
    → AreGood IsGood xs (length xs) → IsFaultIn spell IsFault at xs e → ⊥
none_in spell IsFault IsGood judges at xs e good f =
    judges.none f.0 (part_place spell at xs f.0) f.1 e (good_at IsGood xs (length xs) f.0 f.1 good (slice_get_within xs f.0 f.1 f.2) f.2) f.3

pub within_in : {A : Type 0} (spell : A → List ℕ) (IsFault : ℕ → ℕ → A → LoadFault → Type 0) (IsGood : ℕ → A → Type 0) (judges : Judges spell IsFault IsGood) (at : ℕ) (xs : List A) (e : LoadFault)
    → IsFaultIn spell IsFault at xs e → (at ≤ place e) × (place e < at + length (flat_map spell xs))
within_in spell IsFault IsGood judges at xs e f =
    let mine = judges.within f.0 (part_place spell at xs f.0) f.1 e f.3 in
    let end = place_within spell at xs f.0 f.1 f.2 in
    (omega (arith, mine.0), omega (arith, mine.1, end))

-- one more part is good
pub good_more : {A : Type 0} (IsGood : ℕ → A → Type 0) (xs : List A) (n : ℕ) (x : A) → AreGood IsGood xs n → slice_get xs n ≡ Some x → IsGood n x → AreGood IsGood xs (n + 1)
good_more IsGood xs n x good get h k d lt =
    elim (cases_lt k n) [
      | inl before ↦ good k d before
      | inr after ↦
          let k-is : n ≡ k = omega arith in
          subst (λ j. IsGood j (get_or xs j d)) k-is (subst (IsGood n) (sym (get_or_from_slice_get xs n x d get)) h)
    ]

-- a later part begins where this one ends, or behind
pub later_place : {A : Type 0} (spell : A → List ℕ) (at : ℕ) (xs : List A) (j k : ℕ) (x : A) → slice_get xs j ≡ Some x → j < k → part_place spell at xs j + length (spell x) ≤ part_place spell at xs k
later_place spell at xs j k x get lt = omega (arith, place_more spell at xs j x get, before_later spell xs (j + 1) k (omega arith))
