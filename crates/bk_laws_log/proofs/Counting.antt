-- The rows of numbers of elements.
use Rattle.std.proofs.Common.{◌≡◌, inl, inr, refl, sym, ◌∙◌, ap, subst, Bool, true, false, ◌||◌, not, ℤ, pos, negsuc, ℕ, suc, ◌+◌, arith, length, List, [], ◌∷◌, ◌&&◌, ◌+ℤ◌, ◌-ℤ◌, ◌≤ℤ◌, zero, ◌≤◌}
use Rattle.std.specs.Prelude.{int_le}
use Rattle.std.proofs.lemmas.Int.{ints}
use Rattle.bk_val.specs.Value.{MathValue, int, set, none, values_of}
use Rattle.bk_val.specs.ValueType.{set_type, int_type}
use Rattle.bk_val.specs.Sets.{has, set_of, union_of, minus_of}
use Rattle.bk_val.specs.CmpLaws.{value_eq-self, same_value}
use Rattle.bk_val.proofs.Elements.{has-union_of, has-filter}
use Rattle.bk_form.specs.Formula.{unary, binary, literal}
use Rattle.bk_form.specs.Environment.{bound_types}
use Rattle.bk_form.specs.Role.{role}
use Rattle.bk_form.specs.Table.{set_size}
use Rattle.bk_form.specs.Operators.{is_equal, number_in, elements, is_element, numbers_from, count_of}
use Rattle.bk_form.specs.Meaning.{value, within}
use Rattle.bk_form.specs.declared.operator.UnOp.TheVariants.{Single, Card}
use Rattle.bk_form.specs.declared.operator.BinOp.TheVariants.{Union, Inter, Minus}
use Rattle.bk_form.proofs.Members.{list_of-values_of, Has, has-then, and-true, both_ways}
use Rattle.bk_form.proofs.Valued.{sound_typing}
use Rattle.std.specs.List.{filter}
use Rattle.bk_laws.specs.Rows.{built}
use Rattle.bk_laws.specs.Laws.{IsTrueRow}
use Rattle.bk_form.proofs.RoleParts.{card-parts, comparison-parts, equality-parts}
use Rattle.bk_form.proofs.Forms.{member, set-sorted, set-again}
use Rattle.bk_form.proofs.SetMembers.{two-sets, in-inter, in-power}
use Rattle.bk_laws.proofs.Truths.{or-assoc, or-none, and-none, apart}
use Rattle.bk_laws.proofs.Numbers.{le-if}
use Rattle.bk_laws.proofs.ByForm.{by_truth, by_value}
use Rattle.bk_form.proofs.ElementCounts.{count-more, same-set, set-of-sorted}
use Rattle.bk_laws_log.specs.Order.{o22, o23, o24, o25, o26, o27, o28, o29, o30}

pub true-o22 : IsTrueRow o22
true-o22 picks = by_value (built o22 picks) refl (λ find e c t l r s. refl)

pub true-o23 : IsTrueRow o23
true-o23 picks = by_value (built o23 picks) refl (λ find e c t l r s. refl)

or-turn : (a b : Bool) → (a || (b || false)) ≡ (b || a)
or-turn true true = refl
or-turn true false = refl
or-turn false true = refl
or-turn false false = refl

not-true : (b : Bool) → not b ≡ true → b ≡ false
not-true false h = refl
not-true true h = absurd (cc)

pub true-o24 : IsTrueRow o24
true-o24 picks = by_value (built o24 picks) refl (λ find e c t l r s.
    let a = picks 0 in let x = picks 1 in let v = value find e x in
    let k = card-parts (role e.table (bound_types e) (binary Union a (unary Single x))) t l in
    let types = two-sets find e a (unary Single x) k.0 k.1 in
    let xs = elements (value find e a) in
    let sorted = set-sorted (set_size e.table) k.0 (value find e a) (sound_typing.typed find e c.well c.typed a (set_type k.0) types.0) in
    let new : has xs v ≡ false = sym (member find e a k.0 types.0 v) ∙ not-true (within find e v a) s.1 in
    let joined = same-set (union_of xs (v ∷ [])) (v ∷ xs) (λ q. has-union_of xs (v ∷ []) q ∙ or-turn (has xs q) (is_equal q v)) in
    ap (λ l. int (pos (length l))) (list_of-values_of (set_of (union_of xs (v ∷ []))) ∙ joined) ∙ ap (λ n. int (pos n)) (count-more xs v new ∙ ap (λ l. suc (length l)) (set-of-sorted xs sorted) ∙ one-more (length xs)))
  where
    one-more : (n : ℕ) → suc n ≡ n + 1
    one-more n = omega arith

-- without a member there is one element less
less-one : (xs : List MathValue) (v : MathValue) → has xs v ≡ true → length (set_of xs) ≡ suc (length (set_of (minus_of xs (v ∷ []))))
less-one xs v h = ap length (same-set xs (v ∷ zs) with-it) ∙ count-more zs v lacks
  where
    zs : List MathValue
    zs = minus_of xs (v ∷ [])

    in-rest : (q : MathValue) → has zs q ≡ (has xs q && not (is_equal q v))
    in-rest q = has-filter (λ x. not (has (v ∷ []) x)) xs q ∙ ap (λ b. has xs q && not b) (or-none (is_equal q v))

    lacks : has zs v ≡ false
    lacks = in-rest v ∙ ap (λ b. has xs v && not b) (value_eq-self v) ∙ and-none (has xs v)

    with-it : (q : MathValue) → has xs q ≡ has (v ∷ zs) q
    with-it q = by_test (is_equal q v) refl ∙ ap (λ b. is_equal q v || b) (sym (in-rest q))
      where
        by_test : (b : Bool) → is_equal q v ≡ b → has xs q ≡ (is_equal q v || (has xs q && not (is_equal q v)))
        by_test true k = ap (has xs) (same_value q v k) ∙ h ∙ sym (ap (λ b. b || (has xs q && not b)) k)
        by_test false k = same (has xs q) ∙ sym (ap (λ b. b || (has xs q && not b)) k)
          where
            same : (b : Bool) → b ≡ (b && true)
            same true = refl
            same false = refl

pub true-o25 : IsTrueRow o25
true-o25 picks = by_value (built o25 picks) refl (λ find e c t l r s.
    let a = picks 0 in let x = picks 1 in let v = value find e x in
    let k = card-parts (role e.table (bound_types e) (binary Minus a (unary Single x))) t l in
    let types = two-sets find e a (unary Single x) k.0 k.1 in
    let xs = elements (value find e a) in
    let sorted = set-sorted (set_size e.table) k.0 (value find e a) (sound_typing.typed find e c.well c.typed a (set_type k.0) types.0) in
    let old : has xs v ≡ true = sym (member find e a k.0 types.0 v) ∙ s.1 in
    let counts = sym (ap length (set-of-sorted xs sorted)) ∙ less-one xs v old in
    ap (λ ys. int (pos (length ys))) (list_of-values_of (set_of (minus_of xs (v ∷ [])))) ∙ ap int (one-less (length xs) (length (set_of (minus_of xs (v ∷ [])))) counts))
  where
    one-less : (m n : ℕ) → m ≡ suc n → pos n ≡ (pos m -ℤ pos 1)
    one-less m n h = omega (arith, ints)

is-above : (n : ℕ) (z w : ℤ) → Has (int w) (numbers_from z n) → z ≤ℤ w
is-above zero z w h = absurd h
is-above (suc n) z w (inl h) = let e : w ≡ z = cc in omega (arith, ints)
is-above (suc n) z w (inr h) = let k = is-above n (z +ℤ pos 1) w h in omega (arith, ints)

not-later : (n : ℕ) (z : ℤ) (b : Bool) → has (numbers_from (z +ℤ pos 1) n) (int z) ≡ b → b ≡ false
not-later n z false h = refl
not-later n z true h = let k = is-above n (z +ℤ pos 1) z (has-then (int z) (numbers_from (z +ℤ pos 1) n) h) in absurd (omega (arith, ints))

count-interval : (n : ℕ) (z : ℤ) → length (set_of (numbers_from z n)) ≡ n
count-interval zero z = refl
count-interval (suc n) z = count-more (numbers_from (z +ℤ pos 1) n) (int z) (let b = has (numbers_from (z +ℤ pos 1) n) (int z) in not-later n z b refl) ∙ ap suc (count-interval n (z +ℤ pos 1))

count-is : (d : ℤ) → int_le (pos 0) d ≡ true → pos (count_of d) ≡ d
count-is (pos n) h = refl
count-is (negsuc n) h = absurd (cc)

gap-counts : (a b : ℤ) → int_le a (b +ℤ pos 1) ≡ true → pos (count_of ((b +ℤ pos 1) -ℤ a)) ≡ ((b -ℤ a) +ℤ pos 1)
gap-counts a b h = count-is ((b +ℤ pos 1) -ℤ a) (le-if (pos 0) ((b +ℤ pos 1) -ℤ a) (from-test a b h)) ∙ omega (arith, ints)
  where
    from-test : (a b : ℤ) → int_le a (b +ℤ pos 1) ≡ true → pos 0 ≤ℤ ((b +ℤ pos 1) -ℤ a)
    from-test a b h = grind (arith, ints)

pub true-o26 : IsTrueRow o26
true-o26 picks = by_value (built o26 picks) refl (λ find e c t l r s.
    let a = number_in (value find e (picks 0)) in
    let b = number_in (value find e (picks 1)) in
    let n = count_of ((b +ℤ pos 1) -ℤ a) in
    ap (λ xs. int (pos (length xs))) (list_of-values_of (set_of (numbers_from a n))) ∙ ap (λ k. int (pos k)) (count-interval n a) ∙ ap int (gap-counts a b s.1))

pub true-o27 : IsTrueRow o27
true-o27 picks = by_truth (built o27 picks) refl (λ find e c l r s. le-if (pos 0) (pos (length (elements (value find e (picks 0))))) (omega (arith, ints)))

others-lack : (x : MathValue) (ys : List MathValue) → has (filter (λ y. not (is_equal y x)) ys) x ≡ false
others-lack x ys = has-filter (λ y. not (is_equal y x)) ys x ∙ ap (λ b. has ys x && not b) (value_eq-self x) ∙ none-left (has ys x)
  where
    none-left : (b : Bool) → (b && false) ≡ false
    none-left true = refl
    none-left false = refl

-- a list has what stands in front and its others
with-others : (x : MathValue) (ys : List MathValue) → has ys x ≡ true → (q : MathValue) → has ys q ≡ has (x ∷ filter (λ y. not (is_equal y x)) ys) q
with-others x ys h q = by_test (is_equal q x) refl ∙ ap (λ b. is_equal q x || b) (sym (has-filter (λ y. not (is_equal y x)) ys q))
  where
    by_test : (b : Bool) → is_equal q x ≡ b → has ys q ≡ (is_equal q x || (has ys q && not (is_equal q x)))
    by_test true k = ap (has ys) (same_value q x k) ∙ h ∙ sym (ap (λ b. b || (has ys q && not b)) k)
    by_test false k = same (has ys q) ∙ sym (ap (λ b. b || (has ys q && not b)) k)
      where
        same : (b : Bool) → b ≡ (b && true)
        same true = refl
        same false = refl

count-subset : (xs ys : List MathValue) → ((q : MathValue) → has xs q ≡ true → has ys q ≡ true) → length (set_of xs) ≤ length (set_of ys)
count-subset [] ys h = omega arith
count-subset (x ∷ xs) ys h = by_test (count-subset xs) (has xs x) refl
  where
    or-right : (a b : Bool) → b ≡ true → (a || b) ≡ true
    or-right true b k = refl
    or-right false b k = k

    again : has xs x ≡ true → (q : MathValue) → has (x ∷ xs) q ≡ has xs q
    again k q = by_equal (is_equal q x) refl
      where
        by_equal : (b : Bool) → is_equal q x ≡ b → (is_equal q x || has xs q) ≡ has xs q
        by_equal true g = ap (λ b. b || has xs q) g ∙ sym (ap (has xs) (same_value q x g) ∙ k)
        by_equal false g = ap (λ b. b || has xs q) g

    first : has (x ∷ xs) x ≡ true
    first = ap (λ b. b || has xs x) (value_eq-self x)

    rest : has xs x ≡ false → (q : MathValue) → has xs q ≡ true → has (filter (λ y. not (is_equal y x)) ys) q ≡ true
    rest k q g = has-filter (λ y. not (is_equal y x)) ys q ∙ and-true (has ys q) (not (is_equal q x)) (h q (or-right (is_equal q x) (has xs q) g)) (by_equal (is_equal q x) refl)
      where
        by_equal : (b : Bool) → is_equal q x ≡ b → not b ≡ true
        by_equal false m = refl
        by_equal true m = let z : true ≡ false = sym g ∙ ap (has xs) (same_value q x m) ∙ k in cc

    by_test : ((zs : List MathValue) → ((q : MathValue) → has xs q ≡ true → has zs q ≡ true) → length (set_of xs) ≤ length (set_of zs)) → (b : Bool) → has xs x ≡ b → length (set_of (x ∷ xs)) ≤ length (set_of ys)
    by_test on true k = subst (λ zs. length zs ≤ length (set_of ys)) (sym (same-set (x ∷ xs) xs (again k))) (on ys (λ q g. h q (or-right (is_equal q x) (has xs q) g)))
    by_test on false k =
        let zs = filter (λ y. not (is_equal y x)) ys in
        let more = count-more xs x k in
        let more-ys = ap length (same-set ys (x ∷ zs) (with-others x ys (h x first))) ∙ count-more zs x (others-lack x ys) in
        let le = on zs (rest k) in
        omega (arith, more, more-ys, le)

le-test : (m n : ℕ) → m ≤ n → int_le (pos m) (pos n) ≡ true
le-test m n h = grind (arith, ints)

pub true-o28 : IsTrueRow o28
true-o28 picks = by_truth (built o28 picks) refl (λ find e c l r s.
    let a = picks 0 in let b = picks 1 in
    let k = comparison-parts (role e.table (bound_types e) (unary Card a)) (role e.table (bound_types e) (unary Card b)) l in
    let p = card-parts (role e.table (bound_types e) a) int_type k.0 in
    let q = card-parts (role e.table (bound_types e) b) int_type k.1 in
    let xs = elements (value find e a) in
    let ys = elements (value find e b) in
    let sorted-a = set-sorted (set_size e.table) p.0 (value find e a) (sound_typing.typed find e c.well c.typed a (set_type p.0) p.1) in
    let sorted-b = set-sorted (set_size e.table) q.0 (value find e b) (sound_typing.typed find e c.well c.typed b (set_type q.0) q.1) in
    let within-b = (in-power find e c a b p.0 p.1).0 s.1 in
    let le = count-subset xs ys (λ v h. sym (member find e b q.0 q.1 v) ∙ within-b v (member find e a p.0 p.1 v ∙ h)) in
    le-test (length xs) (length ys) (subst (λ zs. length zs ≤ length ys) (set-of-sorted xs sorted-a) (subst (λ zs. length (set_of xs) ≤ length zs) (set-of-sorted ys sorted-b) le)))

no-length : (xs : List MathValue) → pos (length xs) ≡ pos 0 → xs ≡ []
no-length [] h = refl
no-length (x ∷ xs) h = absurd (omega (arith, ints))

pub true-o29 : IsTrueRow o29
true-o29 picks = by_truth (built o29 picks) refl (λ find e c l r s.
    let a = picks 0 in
    let v = value find e a in
    let k = equality-parts (role e.table (bound_types e) (unary Card a)) (role e.table (bound_types e) (literal (pos 0))) l in
    let p = card-parts (role e.table (bound_types e) a) k.0 k.1 in
    let again = set-again (set_size e.table) p.0 v (sound_typing.typed find e c.well c.typed a (set_type p.0) p.1) in
    both_ways (is_equal (int (pos (length (elements v)))) (int (pos 0))) (is_equal v (set none))
    (λ h. let none-left = again ∙ ap (λ xs. set (values_of xs)) (no-length (elements v) (ap number_in (same_value (int (pos (length (elements v)))) (int (pos 0)) h))) in
    subst (λ w. is_equal v w ≡ true) none-left (value_eq-self v))
    (λ h. ap (λ w. is_equal (int (pos (length (elements w)))) (int (pos 0))) (same_value v (set none) h)))

already : (x : MathValue) (xs : List MathValue) → has xs x ≡ true → (q : MathValue) → has (x ∷ xs) q ≡ has xs q
already x xs k q = by_equal (is_equal q x) refl
  where
    by_equal : (b : Bool) → is_equal q x ≡ b → (is_equal q x || has xs q) ≡ has xs q
    by_equal true g = ap (λ b. b || has xs q) g ∙ sym (ap (has xs) (same_value q x g) ∙ k)
    by_equal false g = ap (λ b. b || has xs q) g

count-union : (xs ys : List MathValue) → ((q : MathValue) → has xs q ≡ true → has ys q ≡ false) → length (set_of (union_of xs ys)) ≡ length (set_of xs) + length (set_of ys)
count-union [] ys h = omega arith
count-union (x ∷ xs) ys h = by_test (count-union xs ys (λ q g. h q (later q g))) (has xs x) refl
  where
    later : (q : MathValue) → has xs q ≡ true → has (x ∷ xs) q ≡ true
    later q g = ap (λ b. is_equal q x || b) g ∙ or-true (is_equal q x)
      where
        or-true : (b : Bool) → (b || true) ≡ true
        or-true true = refl
        or-true false = refl

    joined : (q : MathValue) → has (union_of (x ∷ xs) ys) q ≡ has (x ∷ union_of xs ys) q
    joined q = has-union_of (x ∷ xs) ys q ∙ or-assoc (is_equal q x) (has xs q) (has ys q) ∙ ap (λ b. is_equal q x || b) (sym (has-union_of xs ys q))

    by_test : length (set_of (union_of xs ys)) ≡ length (set_of xs) + length (set_of ys) → (b : Bool) → has xs x ≡ b → length (set_of (union_of (x ∷ xs) ys)) ≡ length (set_of (x ∷ xs)) + length (set_of ys)
    by_test on true k =
        let left = ap length (same-set (union_of (x ∷ xs) ys) (x ∷ union_of xs ys) joined ∙ same-set (x ∷ union_of xs ys) (union_of xs ys) (already x (union_of xs ys) (has-union_of xs ys x ∙ ap (λ b. b || has ys x) k))) in
        let right = ap length (same-set (x ∷ xs) xs (already x xs k)) in
        omega (arith, on, left, right)
    by_test on false k =
        let new : has (union_of xs ys) x ≡ false = has-union_of xs ys x ∙ ap (λ b. b || has ys x) k ∙ h x (ap (λ b. b || has xs x) (value_eq-self x)) in
        let left = ap length (same-set (union_of (x ∷ xs) ys) (x ∷ union_of xs ys) joined) ∙ count-more (union_of xs ys) x new in
        let right = count-more xs x k in
        omega (arith, on, left, right)

pub true-o30 : IsTrueRow o30
true-o30 picks = by_value (built o30 picks) refl (λ find e c t l r s.
    let a = picks 0 in let b = picks 1 in
    let k = card-parts (role e.table (bound_types e) (binary Union a b)) t l in
    let types = two-sets find e a b k.0 k.1 in
    let xs = elements (value find e a) in
    let ys = elements (value find e b) in
    let sorted-a = set-sorted (set_size e.table) k.0 (value find e a) (sound_typing.typed find e c.well c.typed a (set_type k.0) types.0) in
    let sorted-b = set-sorted (set_size e.table) k.0 (value find e b) (sound_typing.typed find e c.well c.typed b (set_type k.0) types.1) in
    let none-in = λ (v : MathValue). sym (in-inter find e a b k.0 k.1 v) ∙ ap (λ w. is_element v w) (same_value (value find e (binary Inter a b)) (set none) s.1) in
    let count = count-union xs ys (λ v h. sym (member find e b k.0 types.1 v) ∙ apart (within find e v a) (within find e v b) (none-in v) (member find e a k.0 types.0 v ∙ h)) in
    ap (λ zs. int (pos (length zs))) (list_of-values_of (set_of (union_of xs ys))) ∙ ap (λ n. int (pos n)) (count ∙ (λ i. length (set-of-sorted xs sorted-a i) + length (set-of-sorted ys sorted-b i))))
