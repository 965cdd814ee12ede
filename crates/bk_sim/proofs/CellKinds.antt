-- The cells of variables: they lie apart, and hold numbers of their kinds.
use Rattle.std.proofs.Common.{◌≡◌, ◌≢◌, ◌<◌, ◌≤◌, ℕ, zero, suc, ◌+◌, ℤ, pos, List, [], ◌∷◌, length, take, drop, refl, sym, ◌∙◌, ap, subst, Bool, true, false, ◌||◌, cond, nat_eq, arith}
use Rattle.std.specs.Prelude.{slice_index_or, slice_set}
use Rattle.std.specs.List.{list_all}
use Rattle.std.proofs.lemmas.Bool.Decides.{nat_tests}
use Rattle.std.proofs.lemmas.List.{take-set-le, drop-set-lt, drop-set-add, get_or-drop}
use Rattle.bk_form.proofs.Members.{and-both, and-true}
use Rattle.bk_gsl.specs.State.{among}
use Rattle.bk_gsl.proofs.States.{nat_eq-same, clash}
use Rattle.bk_dev.specs.Development.{Development}
use Rattle.bk_dev.specs.Layout.{cells_of, cell_among}
use Rattle.bk_b0.specs.Kinds.{is_of_kind, cell_type}
use Rattle.bk_sim.specs.Shown.{AreOfKinds}

-- ---- lists
first-inside : (k : ℕ) (m : List ℤ) (i : ℕ) → length (take k m) ≡ k → i < k → i < length m
first-inside zero m i h l = absurd (omega arith)
first-inside (suc k) [] i h l = absurd (omega (arith, h))
first-inside (suc k) (z ∷ m) zero h l = omega arith
first-inside (suc k) (z ∷ m) (suc i) h l = let rest = first-inside k m i (omega (arith, h)) (omega arith) in omega arith

first-passes : (test : ℤ → Bool) (k : ℕ) (m : List ℤ) (i : ℕ) (d : ℤ) → length (take k m) ≡ k → list_all test (take k m) ≡ true → i < k → test (slice_index_or m i d) ≡ true
first-passes test zero m i d h q l = absurd (omega arith)
first-passes test (suc k) [] i d h q l = absurd (omega (arith, h))
first-passes test (suc k) (z ∷ m) zero d h q l = (and-both (test z) (list_all test (take k m)) q).0
first-passes test (suc k) (z ∷ m) (suc i) d h q l = first-passes test k m i d (omega (arith, h)) (and-both (test z) (list_all test (take k m)) q).1 (omega arith)

first-set : (test : ℤ → Bool) (k : ℕ) (m : List ℤ) (i : ℕ) (z : ℤ) → list_all test (take k m) ≡ true → test z ≡ true → list_all test (take k (slice_set m i z)) ≡ true
first-set test zero m i z q t = refl
first-set test (suc k) [] i z q t = refl
first-set test (suc k) (y ∷ m) zero z q t = and-true (test z) (list_all test (take k m)) t (and-both (test y) (list_all test (take k m)) q).1
first-set test (suc k) (y ∷ m) (suc i) z q t = let w = and-both (test y) (list_all test (take k m)) q in and-true (test y) (list_all test (take k (slice_set m i z))) w.0 (first-set test k m i z w.1 t)

first-length-set : (k : ℕ) (m : List ℤ) (i : ℕ) (z : ℤ) → length (take k (slice_set m i z)) ≡ length (take k m)
first-length-set zero m i z = refl
first-length-set (suc k) [] i z = refl
first-length-set (suc k) (y ∷ m) zero z = refl
first-length-set (suc k) (y ∷ m) (suc i) z = ap suc (first-length-set k m i z)

rest-long : (k : ℕ) (m : List ℤ) (i : ℕ) → i < length (drop k m) → k + i < length m
rest-long zero m i h = omega (arith, h)
rest-long (suc k) [] i h = absurd (omega (arith, h))
rest-long (suc k) (z ∷ m) i h = let rest = rest-long k m i h in omega arith

-- ---- reading
module _ (dev : Development) (x : ℕ) where
  pub inside : (xs : List ℕ) (m : List ℤ) → AreOfKinds dev xs m → among xs x ≡ true → (i : ℕ) → i < cells_of dev x → cell_among dev x xs + i < length m
  inside [] m q h i l = absurd (cc)
  inside (y ∷ ys) m q h i l = by_test (λ k. inside ys (drop (cells_of dev y) m) q.2 k i l) (nat_eq x y) refl h
    where
      by_test : (among ys x ≡ true → cell_among dev x ys + i < length (drop (cells_of dev y) m)) → (b : Bool) → nat_eq x y ≡ b → b || among ys x ≡ true → cond b 0 (cells_of dev y + cell_among dev x ys) + i < length m
      by_test rest true e k =
          let low : i < cells_of dev y = subst (λ n. i < cells_of dev n) (nat_eq-same x y e) l in
          let stands : i < length m = first-inside (cells_of dev y) m i q.0 low in
          omega (arith, stands)
      by_test rest false e k = let there = rest-long (cells_of dev y) m (cell_among dev x ys + i) (rest k) in omega (arith, there)

  pub kind-at : (xs : List ℕ) (m : List ℤ) → AreOfKinds dev xs m → among xs x ≡ true → (i : ℕ) → i < cells_of dev x → is_of_kind dev (cell_type dev x) (slice_index_or m (cell_among dev x xs + i) (pos 0)) ≡ true
  kind-at [] m q h i l = absurd (cc)
  kind-at (y ∷ ys) m q h i l = by_test (λ k. kind-at ys (drop (cells_of dev y) m) q.2 k i l) (nat_eq x y) refl h
    where
      by_test : (among ys x ≡ true → is_of_kind dev (cell_type dev x) (slice_index_or (drop (cells_of dev y) m) (cell_among dev x ys + i) (pos 0)) ≡ true) → (b : Bool) → nat_eq x y ≡ b → b || among ys x ≡ true → is_of_kind dev (cell_type dev x) (slice_index_or m (cond b 0 (cells_of dev y + cell_among dev x ys) + i) (pos 0)) ≡ true
      by_test rest true e k =
          let same = nat_eq-same x y e in
          let low : i < cells_of dev y = subst (λ n. i < cells_of dev n) same l in
          let none : 0 + i ≡ i = omega arith in
          subst (λ n. is_of_kind dev (cell_type dev x) (slice_index_or m n (pos 0)) ≡ true) (sym none)
          (subst (λ n. is_of_kind dev (cell_type dev n) (slice_index_or m i (pos 0)) ≡ true) (sym same) (first-passes (is_of_kind dev (cell_type dev y)) (cells_of dev y) m i (pos 0) q.0 q.1 low))
      by_test rest false e k =
          let more : cells_of dev y + (cell_among dev x ys + i) ≡ cells_of dev y + cell_among dev x ys + i = omega arith in
          subst (λ n. is_of_kind dev (cell_type dev x) (slice_index_or m n (pos 0)) ≡ true) more
          (subst (λ z. is_of_kind dev (cell_type dev x) z ≡ true) (get_or-drop (cells_of dev y) m (cell_among dev x ys + i) (pos 0)) (rest k))

  -- ---- writing
  pub kinds-set : (xs : List ℕ) (m : List ℤ) → AreOfKinds dev xs m → among xs x ≡ true → (i : ℕ) → i < cells_of dev x → (z : ℤ) → is_of_kind dev (cell_type dev x) z ≡ true → AreOfKinds dev xs (slice_set m (cell_among dev x xs + i) z)
  kinds-set [] m q h i l z t = absurd (cc)
  kinds-set (y ∷ ys) m q h i l z t = by_test (λ k. kinds-set ys (drop (cells_of dev y) m) q.2 k i l z t) (nat_eq x y) refl h
    where
      by_test : (among ys x ≡ true → AreOfKinds dev ys (slice_set (drop (cells_of dev y) m) (cell_among dev x ys + i) z)) → (b : Bool) → nat_eq x y ≡ b → b || among ys x ≡ true → AreOfKinds dev (y ∷ ys) (slice_set m (cond b 0 (cells_of dev y + cell_among dev x ys) + i) z)
      by_test rest true e k =
          let same = nat_eq-same x y e in
          let low : i < cells_of dev y = subst (λ n. i < cells_of dev n) same l in
          let none : 0 + i ≡ i = omega arith in
          let kind : is_of_kind dev (cell_type dev y) z ≡ true = subst (λ n. is_of_kind dev (cell_type dev n) z ≡ true) same t in
          subst (λ n. AreOfKinds dev (y ∷ ys) (slice_set m n z)) (sym none) (
            first-length-set (cells_of dev y) m i z ∙ q.0,
            first-set (is_of_kind dev (cell_type dev y)) (cells_of dev y) m i z q.1 kind,
            subst (AreOfKinds dev ys) (sym (drop-set-lt (cells_of dev y) m i z low)) q.2,
          )
      by_test rest false e k =
          let more : cells_of dev y + (cell_among dev x ys + i) ≡ cells_of dev y + cell_among dev x ys + i = omega arith in
          let far : cells_of dev y ≤ cells_of dev y + (cell_among dev x ys + i) = omega arith in
          let front = take-set-le (cells_of dev y) m (cells_of dev y + (cell_among dev x ys + i)) z far in
          subst (λ n. AreOfKinds dev (y ∷ ys) (slice_set m n z)) more (
            ap length front ∙ q.0,
            ap (list_all (is_of_kind dev (cell_type dev y))) front ∙ q.1,
            subst (AreOfKinds dev ys) (sym (drop-set-add (cells_of dev y) m (cell_among dev x ys + i) z)) (rest k),
          )

  -- different variables have different cells
  pub apart : (y : ℕ) → nat_eq y x ≡ false → (xs : List ℕ) → among xs x ≡ true → (i j : ℕ) → i < cells_of dev x → j < cells_of dev y → cell_among dev y xs + j ≢ cell_among dev x xs + i
  apart y n [] h i j l k same = absurd (cc)
  apart y n (v ∷ vs) h i j l k same = by_tests (λ q. apart y n vs q i j l k) (nat_eq x v) refl (nat_eq y v) refl h same
    where
      by_tests : (among vs x ≡ true → cell_among dev y vs + j ≢ cell_among dev x vs + i) → (a : Bool) → nat_eq x v ≡ a → (b : Bool) → nat_eq y v ≡ b → a || among vs x ≡ true → cond b 0 (cells_of dev v + cell_among dev y vs) + j ≡ cond a 0 (cells_of dev v + cell_among dev x vs) + i → ⊥
      by_tests rest true p true q g e = let eq : nat_eq y x ≡ true = grind (arith, nat_tests) in clash (nat_eq y x) eq n
      by_tests rest true p false q g e = let low : i < cells_of dev v = subst (λ a. i < cells_of dev a) (nat_eq-same x v p) l in absurd (omega (arith, e, low))
      by_tests rest false p true q g e = let low : j < cells_of dev v = subst (λ a. j < cells_of dev a) (nat_eq-same y v q) k in absurd (omega (arith, e, low))
      by_tests rest false p false q g e = rest g (omega (arith, e))
