-- How many members a function has whose domain is 1 .. n.
use Rattle.std.proofs.Common.{◌≡◌, inl, inr, refl, sym, ◌∙◌, ap, subst, Bool, true, false, ◌||◌, ℤ, pos, ℕ, zero, suc, arith, length, List, [], ◌∷◌, map, ◌+ℤ◌, ◌-ℤ◌, ◌≤ℤ◌}
use Rattle.std.specs.Prelude.{int_le}
use Rattle.std.proofs.lemmas.Int.{ints}
use Rattle.bk_val.specs.Value.{MathValue, int, pair}
use Rattle.bk_val.specs.Sets.{has, set_of}
use Rattle.bk_val.specs.CmpLaws.{same_value}
use Rattle.bk_form.specs.Operators.{is_equal, is_element, first_part, numbers_from, count_of, interval}
use Rattle.bk_form.proofs.Members.{Has, has-then, has-if, both_ways, and-true, and-both, element-set_value, Has-map-then, Has-map-if}
use Rattle.bk_form.proofs.Domains.{interval-has, interval-only}
use Rattle.bk_form.proofs.ElementCounts.{count-more, same-set}
use Rattle.bk_laws.proofs.Numbers.{le-then, le-if}

-- ---- a list and its image
already : (x : MathValue) (xs : List MathValue) → has xs x ≡ true → (q : MathValue) → has (x ∷ xs) q ≡ has xs q
already x xs k q = by_equal (is_equal q x) refl
  where
    by_equal : (b : Bool) → is_equal q x ≡ b → (is_equal q x || has xs q) ≡ has xs q
    by_equal true g = ap (λ b. b || has xs q) g ∙ sym (ap (has xs) (same_value q x g) ∙ k)
    by_equal false g = ap (λ b. b || has xs q) g

not-has : (xs : List MathValue) (v : MathValue) → (Has v xs → ⊥) → has xs v ≡ false
not-has xs v n = by_test (has xs v) refl
  where
    by_test : (b : Bool) → has xs v ≡ b → has xs v ≡ false
    by_test true h = absurd (n (has-then v xs h))
    by_test false h = h

-- the image of a list under what takes none of its two members to one has as many elements
pub count-image : (f : MathValue → MathValue) (xs : List MathValue) → ((v w : MathValue) → Has v xs → Has w xs → f v ≡ f w → v ≡ w) → length (set_of (map f xs)) ≡ length (set_of xs)
count-image f [] apart = refl
count-image f (x ∷ xs) apart = by_test (count-image f xs (λ v w h k e. apart v w (inr h) (inr k) e)) (has xs x) refl
  where
    by_test : length (set_of (map f xs)) ≡ length (set_of xs) → (b : Bool) → has xs x ≡ b → length (set_of (f x ∷ map f xs)) ≡ length (set_of (x ∷ xs))
    by_test on true h =
        let image : has (map f xs) (f x) ≡ true = has-if (f x) (map f xs) (Has-map-if f (f x) xs x (has-then x xs h) refl) in
        ap length (same-set (f x ∷ map f xs) (map f xs) (already (f x) (map f xs) image)) ∙ on ∙ ap length (sym (same-set (x ∷ xs) xs (already x xs h)))
    by_test on false h =
        let new : has (map f xs) (f x) ≡ false = not-has (map f xs) (f x) (λ k.
        let w = Has-map-then f (f x) xs k in
        let same : x ≡ w.0 = apart x w.0 (inl refl) (inr w.1) w.2 in
        let there : has xs x ≡ true = has-if x xs (subst (λ z. Has z xs) (sym same) w.1) in
        let never : true ≡ false = sym there ∙ h in
        cc) in
        count-more (map f xs) (f x) new ∙ ap suc on ∙ sym (count-more xs x h)

-- ---- the numbers from 1 to n
is-above : (n : ℕ) (z w : ℤ) → Has (int w) (numbers_from z n) → z ≤ℤ w
is-above zero z w h = absurd h
is-above (suc n) z w (inl h) = let e : w ≡ z = cc in omega (arith, ints)
is-above (suc n) z w (inr h) = let k = is-above n (z +ℤ pos 1) w h in omega (arith, ints)

not-later : (n : ℕ) (z : ℤ) (b : Bool) → has (numbers_from (z +ℤ pos 1) n) (int z) ≡ b → b ≡ false
not-later n z false h = refl
not-later n z true h = let k = is-above n (z +ℤ pos 1) z (has-then (int z) (numbers_from (z +ℤ pos 1) n) h) in absurd (omega (arith, ints))

count-interval : (n : ℕ) (z : ℤ) → length (set_of (numbers_from z n)) ≡ n
count-interval zero z = refl
count-interval (suc n) z = count-more (numbers_from (z +ℤ pos 1) n) (int z) (let b = has (numbers_from (z +ℤ pos 1) n) (int z) in not-later n z b refl) ∙ ap suc (count-interval n (z +ℤ pos 1))

gap : (n : ℕ) → ((pos n +ℤ pos 1) -ℤ pos 1) ≡ pos n
gap n = omega (arith, ints)

-- the list of them
abbrev first_numbers : ℕ → List MathValue
first_numbers n = numbers_from (pos 1) (count_of ((pos n +ℤ pos 1) -ℤ pos 1))

count-first : (n : ℕ) → length (set_of (first_numbers n)) ≡ n
count-first n = count-interval (count_of ((pos n +ℤ pos 1) -ℤ pos 1)) (pos 1) ∙ ap count_of (gap n)

-- ---- functions from 1 .. n
-- it has a pair that begins with each number from 1 to n, and no others, and no two that begin alike
pub record IsNumbered (xs : List MathValue) (n : ℕ) : Type 0 where
  pub inside : (v : MathValue) → Has v xs → (i : ℤ) × (y : MathValue) × (v ≡ pair (int i) y) × (pos 1 ≤ℤ i) × (i ≤ℤ pos n)
  pub once : (i : ℤ) (y z : MathValue) → Has (pair (int i) y) xs → Has (pair (int i) z) xs → y ≡ z
  pub there : (i : ℤ) → pos 1 ≤ℤ i → i ≤ℤ pos n → (y : MathValue) × Has (pair (int i) y) xs

-- so it has n elements
pub count-numbered : (xs : List MathValue) (n : ℕ) → IsNumbered xs n → length (set_of xs) ≡ n
count-numbered xs n h = sym (count-image first_part xs apart) ∙ ap length (same-set (map first_part xs) (first_numbers n) same) ∙ count-first n
  where
    apart : (v w : MathValue) → Has v xs → Has w xs → first_part v ≡ first_part w → v ≡ w
    apart v w k l e =
        let p = h.inside v k in
        let q = h.inside w l in
        let index : int p.0 ≡ int q.0 = sym (ap first_part p.2) ∙ e ∙ ap first_part q.2 in
        let value = h.once p.0 p.1 q.1 (subst (λ z. Has z xs) p.2 k) (subst (λ z. Has z xs) (q.2 ∙ ap (λ i. pair i q.1) (sym index)) l) in
        p.2 ∙ (λ i. pair (index i) (value i)) ∙ sym q.2

    same : (q : MathValue) → has (map first_part xs) q ≡ has (first_numbers n) q
    same q = both_ways (has (map first_part xs) q) (has (first_numbers n) q)
        (λ k.
        let m = Has-map-then first_part q xs (has-then q (map first_part xs) k) in
        let p = h.inside m.0 m.1 in
        let index : q ≡ int p.0 = m.2 ∙ ap first_part p.2 in
        subst (λ z. has (first_numbers n) z ≡ true) (sym index)
        (sym (element-set_value (first_numbers n) (int p.0)) ∙ interval-has (pos 1) (pos n) p.0 ∙ and-true (int_le (pos 1) p.0) (int_le p.0 (pos n)) (le-if (pos 1) p.0 p.3) (le-if p.0 (pos n) p.4)))
        (λ k.
        let inside : is_element q (interval (pos 1) (pos n)) ≡ true = element-set_value (first_numbers n) q ∙ k in
        let z = interval-only (pos 1) (pos n) q inside in
        let ends = and-both (int_le (pos 1) z.0) (int_le z.0 (pos n)) (sym (interval-has (pos 1) (pos n) z.0) ∙ subst (λ x. is_element x (interval (pos 1) (pos n)) ≡ true) z.1 inside) in
        let w = h.there z.0 (le-then (pos 1) z.0 ends.0) (le-then z.0 (pos n) ends.1) in
        has-if q (map first_part xs) (Has-map-if first_part q xs (pair (int z.0) w.0) w.1 z.1))
