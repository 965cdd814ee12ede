-- What a sort and a `dedup` leave of a list of variables.
use Rattle.std.proofs.Common.{◌≡◌, ℕ, List, [], ◌∷◌, refl, sym, ◌∙◌, ap, Bool, true, false, cond, ◌||◌, arith, nat_eq, nat_lt}
use Rattle.std.specs.declared.cmp.Ordering.TheVariants.{Less, Equal, Greater}
use Rattle.std.specs.Ordering.{nat_cmp}
use Rattle.std.specs.List.{AllByRecursion, Contains, dedup, list_any}
use Rattle.std.specs.List.Sorted.{IsStrictlySortedBy, IsSorted, IsPermutation}
use Rattle.std.proofs.lemmas.Bool.Decides.{nat_tests}
use Rattle.std.specs.Cmp.{both_ways, unsigned_ties}
use Rattle.std.proofs.lemmas.Cmp.{nat_cmp_total, nat_eq_equiv}
use Rattle.std.proofs.lemmas.Map.Views.{list_any-from_Contains, Contains-from_any}
use Rattle.std.proofs.lemmas.List.Sorted.{Contains-permutation, IsPermutation-sym}
use Rattle.std.proofs.lemmas.List.Kept.{Contains-dedup, Contains-from_dedup, IsStrictlySortedBy-dedup}
use Rattle.bk_gsl.specs.State.{among}
use Rattle.bk_gsl.specs.Writes.{inserted, in_order}
use Rattle.bk_gsl.proofs.States.{nat_eq-same, nat_eq-self, among-in_order}

abbrev Rises : List ℕ → Type 0
Rises = IsStrictlySortedBy nat_cmp

abbrev Below : ℕ → List ℕ → Type 0
Below x ys = AllByRecursion (λ y. nat_cmp x y ≡ Less) ys

less : (x y : ℕ) → nat_lt x y ≡ true → nat_cmp x y ≡ Less
less x y h = rw h

above : (k x : ℕ) → nat_lt k x ≡ false → nat_eq k x ≡ false → nat_cmp x k ≡ Less
above k x p q = less x k (grind (arith, nat_tests))

below_rest : (x y : ℕ) (ys : List ℕ) → nat_cmp x y ≡ Less → Below y ys → Below x ys
below_rest x y [] h a = tt
below_rest x y (z ∷ zs) h a = (nat_cmp_total.trans x y z h a.0, below_rest x y zs h a.1)

below_inserted : (x k : ℕ) (xs : List ℕ) → nat_cmp x k ≡ Less → Below x xs → Below x (inserted k xs)
below_inserted x k [] h a = (h, tt)
below_inserted x k (y ∷ ys) h a = by_tests (below_inserted x k ys h a.1) (nat_lt k y) (nat_eq k y)
  where
    by_tests : Below x (inserted k ys) → (b c : Bool) → Below x (cond b (k ∷ y ∷ ys) (cond c (y ∷ ys) (y ∷ inserted k ys)))
    by_tests on true c = (h, a)
    by_tests on false true = a
    by_tests on false false = (a.0, on)

rises-inserted : (k : ℕ) (xs : List ℕ) → Rises xs → Rises (inserted k xs)
unfolding IsStrictlySortedBy
rises-inserted k [] s = (tt, tt)
rises-inserted k (x ∷ xs) s = by_tests (rises-inserted k xs s.1) (nat_lt k x) (nat_eq k x) refl refl
  where
    by_tests : Rises (inserted k xs) → (b c : Bool) → nat_lt k x ≡ b → nat_eq k x ≡ c → Rises (cond b (k ∷ x ∷ xs) (cond c (x ∷ xs) (x ∷ inserted k xs)))
    by_tests on true c p q = ((less k x p, below_rest k x xs (less k x p) s.0), s)
    by_tests on false true p q = s
    by_tests on false false p q = (below_inserted x k xs (above k x p q) s.0, on)

rises-in_order : (xs : List ℕ) → Rises (in_order xs)
unfolding IsStrictlySortedBy
rises-in_order [] = tt
rises-in_order (x ∷ xs) = rises-inserted x (in_order xs) (rises-in_order xs)

-- ---- a rising list is known by its members
any_is : (xs : List ℕ) (x : ℕ) → list_any (nat_eq x) xs ≡ among xs x
any_is [] x = refl
any_is (y ∷ ys) x = ap (λ b. nat_eq x y || b) (any_is ys x)

among-Contains : (xs : List ℕ) (x : ℕ) → Contains xs x → among xs x ≡ true
among-Contains xs x c = sym (any_is xs x) ∙ list_any-from_Contains nat_eq_equiv x xs c

Contains-among : (xs : List ℕ) (x : ℕ) → among xs x ≡ true → Contains xs x
Contains-among xs x h = Contains-from_any nat_eq-same x xs (any_is xs x ∙ h)

not_self : (x y : ℕ) → nat_cmp x y ≡ Less → nat_eq x y ≡ false
not_self x y h = by_test (nat_lt x y) (nat_eq x y) refl refl h
  where
    by_test : (b c : Bool) → nat_lt x y ≡ b → nat_eq x y ≡ c → cond b Less (cond c Equal Greater) ≡ Less → nat_eq x y ≡ false
    by_test true c p q k = grind (arith, nat_tests)
    by_test false true p q k = absurd (cc)
    by_test false false p q k = absurd (cc)

among-below : (x : ℕ) (ys : List ℕ) → Below x ys → among ys x ≡ false
among-below x [] a = refl
among-below x (y ∷ ys) a = rw (not_self x y a.0, among-below x ys a.1)

among-first : (x : ℕ) (xs : List ℕ) → among (x ∷ xs) x ≡ true
among-first x xs = rw (nat_eq-self x)

same_rest : (x : ℕ) (xs ys : List ℕ) → Below x xs → Below x ys → ((q : ℕ) → among (x ∷ xs) q ≡ among (x ∷ ys) q) → (q : ℕ) → among xs q ≡ among ys q
same_rest x xs ys a b h q = by_test (nat_eq q x) refl (h q)
  where
    by_test : (t : Bool) → nat_eq q x ≡ t → (t || among xs q) ≡ (t || among ys q) → among xs q ≡ among ys q
    by_test true e k = let f : q ≡ x = nat_eq-same q x e in rw (f, among-below x xs a, among-below x ys b)
    by_test false e k = k

same_members : (xs ys : List ℕ) → Rises xs → Rises ys → ((q : ℕ) → among xs q ≡ among ys q) → xs ≡ ys
unfolding IsStrictlySortedBy
same_members [] [] s t h = refl
same_members [] (y ∷ ys) s t h = let e : false ≡ true = h y ∙ among-first y ys in cc
same_members (x ∷ xs) [] s t h = let e : true ≡ false = sym (among-first x xs) ∙ h x in cc
same_members (x ∷ xs) (y ∷ ys) s t h = by_tests (λ k. same_members xs ys s.1 t.1 k) (nat_lt x y) (nat_eq x y) refl refl
  where
    by_tests : (((q : ℕ) → among xs q ≡ among ys q) → xs ≡ ys) → (b c : Bool) → nat_lt x y ≡ b → nat_eq x y ≡ c → x ∷ xs ≡ y ∷ ys
    by_tests on true c p q = let e : true ≡ false = sym (among-first x xs) ∙ h x ∙ among-below x (y ∷ ys) (less x y p, below_rest x y ys (less x y p) t.0) in cc
    by_tests on false false p q = let e : true ≡ false = sym (among-first y ys) ∙ sym (h y) ∙ among-below y (x ∷ xs) (above x y p q, below_rest y x xs (above x y p q) s.0) in cc
    by_tests on false true p q =
        let e : x ≡ y = nat_eq-same x y q in
        let below : Below x ys = rw e t.0 in
        let same : (m : ℕ) → among (x ∷ xs) m ≡ among (x ∷ ys) m = λ m. h m ∙ ap (λ z. nat_eq m z || among ys m) (sym e) in
        cc (e, on (same_rest x xs ys s.0 below same))

among-deduped : (xs ys : List ℕ) → IsPermutation xs ys → (q : ℕ) → among (dedup nat_eq ys) q ≡ among xs q
among-deduped xs ys p q = both_ways _ _
    (λ h. among-Contains xs q (Contains-permutation ys xs q (IsPermutation-sym xs ys p) (Contains-from_dedup nat_eq ys q (Contains-among _ q h))))
    (λ h. among-Contains _ q (Contains-dedup nat_eq_equiv nat_eq-same ys q (Contains-permutation xs ys q p (Contains-among xs q h))))

pub deduped_is : (xs ys : List ℕ) → IsPermutation xs ys → IsSorted nat_cmp ys → dedup nat_eq ys ≡ in_order xs
deduped_is xs ys p s = same_members _ _ (IsStrictlySortedBy-dedup nat_cmp_total unsigned_ties ys s) (rises-in_order xs) (λ q. among-deduped xs ys p q ∙ sym (among-in_order xs q))
