-- What is in comprehensions, intervals and arrows.
use Rattle.std.proofs.Common.{◌≡◌, ◌↔◌, ◌⊎◌, inl, inr, ℕ, zero, suc, ◌+◌, ◌<◌, ℤ, pos, negsuc, ◌+ℤ◌, ◌-ℤ◌, ◌≤ℤ◌, List, [], ◌∷◌, map, refl, sym, ◌∙◌, ap, subst, Bool, true, false, not, ◌&&◌, arith}
use Rattle.std.specs.Prelude.{int_le}
use Rattle.std.specs.List.{filter}
use Rattle.std.proofs.lemmas.Int.{ints}
use Rattle.bk_val.specs.Value.{MathValue, int, pair}
use Rattle.bk_val.specs.ValueType.{ValueType, int_type, is_value_of, are_of_types}
use Rattle.bk_val.specs.Sets.{has, second_of}
use Rattle.bk_form.specs.Table.{set_size}
use Rattle.bk_form.specs.Formula.{Formula, named, binary, comprehension, lambda, Formulas}
use Rattle.bk_form.specs.Search.{Finder, IsSearch}
use Rattle.bk_form.specs.Environment.{Environment, bound_types, under}
use Rattle.bk_form.specs.Role.{Role, role, element_type}
use Rattle.bk_form.specs.Operators.{elements, first_part, numbers_from, count_of, interval, set_value, covers, passes, tuple_of, choices, is_element, number_in}
use Rattle.bk_form.specs.Meaning.{meaning, meanings, value, truth, within, range_types}
use Rattle.bk_form.specs.Defined.{IsChoice, InRanges}
use Rattle.bk_form.specs.declared.operator.BinOp.TheVariants.{PartialFunctions, TotalFunctions, PartialSurjections}
use Rattle.bk_form.specs.declared.operator.Domain.TheVariants.{Natural}
use Rattle.bk_form.proofs.Members.{both_ways, and-true, and-both, Has, has-then, has-if, Has-map-then, Has-map-if, Has-filter-then, Has-filter-if, Has-flat_map-then, Has-flat_map-if, element-set_value}
use Rattle.bk_form.specs.Laws.{TakesOneOfEach, ChoicesAre, IntervalHas}
use Rattle.bk_form.proofs.Roles.{meaning-role}
use Rattle.bk_form.proofs.Truth.{no_choice-then, no_choice-if}

-- ---- comprehensions and lambdas
choice-has : (wss : List (List MathValue)) (vs : List MathValue) → IsChoice wss vs → Has vs wss
choice-has [] vs h = h
choice-has (ws ∷ wss) vs (inl h) = inl h
choice-has (ws ∷ wss) vs (inr h) = inr (choice-has wss vs h)

has-choice : (wss : List (List MathValue)) (vs : List MathValue) → Has vs wss → IsChoice wss vs
has-choice [] vs h = h
has-choice (ws ∷ wss) vs (inl h) = inl h
has-choice (ws ∷ wss) vs (inr h) = inr (has-choice wss vs h)

module _ (find : Finder) (e : Environment) (rs : Formulas) where
  -- the environment of one choice
  abbrev pub inner : List MathValue → Environment
  inner vs = under e (range_types (meanings find e rs)) vs

  -- the members of a set of results of the choices for which the body is true
  results-have : (p : Formula) (f : List MathValue → MathValue) (v : MathValue) →
      let all = choices (map (λ m. m.value) (meanings find e rs)) in
      (is_element v (set_value (map f (filter (λ vs. truth find (inner vs) p) all))) ≡ true) ↔ ((vs : List MathValue) × InRanges find e rs vs × (truth find (inner vs) p ≡ true) × (v ≡ f vs))
  results-have p f v =
      let all = choices (map (λ m. m.value) (meanings find e rs)) in
      let test : List MathValue → Bool = λ vs. truth find (inner vs) p in
      let kept = map f (filter test all) in (
        (λ h.
            let m = Has-map-then f v (filter test all) (has-then v kept (sym (element-set_value kept v) ∙ h)) in
            let k = Has-filter-then test m.0 all m.1 in
            (m.0, has-choice all m.0 k.0, k.1, m.2)),
        (λ w. element-set_value kept v ∙ has-if v kept (Has-map-if f v (filter test all) w.0 (Has-filter-if test w.0 all (choice-has all w.0 w.1) w.2) w.3)),
      )

  pub comprehension-has : (p : Formula) (v : MathValue) → (within find e v (comprehension rs p) ≡ true) ↔ ((vs : List MathValue) × InRanges find e rs vs × (truth find (inner vs) p ≡ true) × (v ≡ tuple_of vs))
  comprehension-has p v = results-have p tuple_of v

  pub lambda-has : (p q : Formula) (v : MathValue) → (within find e v (lambda rs p q) ≡ true) ↔ ((vs : List MathValue) × InRanges find e rs vs × (truth find (inner vs) p ≡ true) × (v ≡ pair (tuple_of vs) (value find (inner vs) q)))
  lambda-has p q v = results-have p (λ vs. pair (tuple_of vs) (value find (inner vs) q)) v

-- ---- choices
choices-then : (ws vs : List MathValue) → Has vs (choices ws) → TakesOneOfEach ws vs
choices-then [] [] h = tt
choices-then [] (v ∷ vs) (inl h) = absurd (cc)
choices-then [] (v ∷ vs) (inr h) = absurd h
choices-then (w ∷ ws) [] h = let k = Has-flat_map-then (λ v. map (λ vs. v ∷ vs) (choices ws)) [] (elements w) h in let m = Has-map-then (λ vs. k.0 ∷ vs) [] (choices ws) k.2 in absurd (cc)
choices-then (w ∷ ws) (v ∷ vs) h =
    let k = Has-flat_map-then (λ v. map (λ vs. v ∷ vs) (choices ws)) (v ∷ vs) (elements w) h in
    let m = Has-map-then (λ vs. k.0 ∷ vs) (v ∷ vs) (choices ws) k.2 in
    let e : v ≡ k.0 = cc in
    let d : vs ≡ m.0 = cc in
    (has-if v (elements w) (subst (λ x. Has x (elements w)) (sym e) k.1), choices-then ws vs (subst (λ x. Has x (choices ws)) (sym d) m.1))

choices-if : (ws vs : List MathValue) → TakesOneOfEach ws vs → Has vs (choices ws)
choices-if [] [] h = inl refl
choices-if [] (v ∷ vs) h = absurd h
choices-if (w ∷ ws) [] h = absurd h
choices-if (w ∷ ws) (v ∷ vs) h = Has-flat_map-if (λ v. map (λ vs. v ∷ vs) (choices ws)) (v ∷ vs) (elements w) v (has-then v (elements w) h.0) (Has-map-if (λ vs. v ∷ vs) (v ∷ vs) (choices ws) vs (choices-if ws vs h.1) refl)

pub choices-are : ChoicesAre
choices-are ws vs = ((λ h. choices-then ws vs (choice-has (choices ws) vs h)), (λ h. has-choice (choices ws) vs (choices-if ws vs h)))

-- ---- intervals
int_le-then : (x y : ℤ) → int_le x y ≡ true → x ≤ℤ y
int_le-then x y h = grind (arith, ints)

int_le-if : (x y : ℤ) → x ≤ℤ y → int_le x y ≡ true
int_le-if x y h = grind (arith, ints)

numbers-then : (n : ℕ) (x z : ℤ) → Has (int z) (numbers_from x n) → (x ≤ℤ z) × ((z +ℤ pos 1) ≤ℤ (x +ℤ pos n))
numbers-then zero x z h = absurd h
numbers-then (suc n) x z (inl h) = let e : z ≡ x = cc in (omega (arith, ints), omega (arith, ints))
numbers-then (suc n) x z (inr h) = let k = numbers-then n (x +ℤ pos 1) z h in (omega (arith, ints), omega (arith, ints))

numbers-if : (n : ℕ) (x z : ℤ) → x ≤ℤ z → (z +ℤ pos 1) ≤ℤ (x +ℤ pos n) → Has (int z) (numbers_from x n)
numbers-if zero x z h k = absurd (omega (arith, ints))
numbers-if (suc n) x z h k = elim (here x z h) [ inl e ↦ inl (ap int e) | inr l ↦ inr (numbers-if n (x +ℤ pos 1) z l (omega (arith, ints))) ]
  where
    here : (x z : ℤ) → x ≤ℤ z → (z ≡ x) ⊎ ((x +ℤ pos 1) ≤ℤ z)
    here x z h = grind (arith, ints)

count-is : (d z : ℤ) → pos 0 ≤ℤ z → (z +ℤ pos 1) ≤ℤ d → d ≡ pos (count_of d)
count-is (pos n) z h k = refl
count-is (negsuc n) z h k = absurd (omega (arith, ints))

count-le : (d w : ℤ) → pos 0 ≤ℤ w → (w +ℤ pos 1) ≤ℤ pos (count_of d) → (w +ℤ pos 1) ≤ℤ d
count-le (pos n) w h k = k
count-le (negsuc n) w h k = absurd (omega (arith, ints))

no-other : (n : ℕ) (x : ℤ) (v : MathValue) → Has v (numbers_from x n) → (z : ℤ) × (v ≡ int z)
no-other zero x v h = absurd h
no-other (suc n) x v (inl h) = (x, h)
no-other (suc n) x v (inr h) = no-other n (x +ℤ pos 1) v h

-- a number is in an interval exactly where it lies between its ends
pub interval-has : (a b z : ℤ) → is_element (int z) (interval a b) ≡ (int_le a z && int_le z b)
interval-has a b z =
    let d = (b +ℤ pos 1) -ℤ a in
    let n = count_of d in
    element-set_value (numbers_from a n) (int z)
    ∙ both_ways (has (numbers_from a n) (int z)) (int_le a z && int_le z b)
    (λ h.
    let k = numbers-then n a z (has-then (int z) (numbers_from a n) h) in
    let l = k.0 in
    let m = k.1 in
    let g = count-le d (z -ℤ a) (omega (arith, ints)) (omega (arith, ints)) in
    and-true (int_le a z) (int_le z b) (int_le-if a z l) (int_le-if z b (omega (arith, ints))))
    (λ h.
    let w = and-both (int_le a z) (int_le z b) h in
    let l = int_le-then a z w.0 in
    let m = int_le-then z b w.1 in
    let e = count-is d (z -ℤ a) (omega (arith, ints)) (omega (arith, ints)) in
    has-if (int z) (numbers_from a n) (numbers-if n a z l (omega (arith, ints))))

-- nothing else is
pub interval-only : (a b : ℤ) (v : MathValue) → is_element v (interval a b) ≡ true → (z : ℤ) × (v ≡ int z)
interval-only a b v h = let xs = numbers_from a (count_of ((b +ℤ pos 1) -ℤ a)) in no-other (count_of ((b +ℤ pos 1) -ℤ a)) a v (has-then v xs (sym (element-set_value xs v) ∙ h))

-- ---- arrows
both-false : (a b c : Bool) → (a && (b && not c)) ≡ false → a ≡ true → b ≡ true → c ≡ true
both-false true true true h k l = refl
both-false true true false h k l = absurd (cc)
both-false true false c h k l = absurd (cc)
both-false false b c h k l = absurd (cc)

false-both : (a b c : Bool) → (a ≡ true → b ≡ true → c ≡ true) → (a && (b && not c)) ≡ false
false-both true true c h = rw (h refl refl)
false-both true false c h = refl
false-both false b c h = refl

and-one : (a : Bool) → (a && true) ≡ a
and-one true = refl
and-one false = refl

-- every value of the type that is in the domain is among these
pub covers-true : (find : Finder) → IsSearch find → (sizes : ℕ → ℕ) (t : ValueType) (in_a : MathValue → Bool) (xs : List MathValue) → (covers find sizes t in_a xs ≡ true) ↔ ((v : MathValue) → is_value_of sizes t v ≡ true → in_a v ≡ true → has xs v ≡ true)
covers-true find law sizes t in_a xs =
    let missing : MathValue → Bool = λ v. in_a v && not (has xs v) in
    let test : List MathValue → Bool = λ vs. are_of_types sizes (t ∷ []) vs && passes missing vs in (
      (λ h v o k. both-false (is_value_of sizes t v) (in_a v) (has xs v) (sym (ap (λ b. b && missing v) (and-one (is_value_of sizes t v))) ∙ no_choice-then find law test h (v ∷ [])) o k),
      (λ h. no_choice-if find law test (by_list h)),
    )
  where
    by_list : ((v : MathValue) → is_value_of sizes t v ≡ true → in_a v ≡ true → has xs v ≡ true) → (vs : List MathValue) → (are_of_types sizes (t ∷ []) vs && passes (λ v. in_a v && not (has xs v)) vs) ≡ false
    by_list h [] = refl
    by_list h (v ∷ []) = ap (λ b. b && (in_a v && not (has xs v))) (and-one (is_value_of sizes t v)) ∙ false-both (is_value_of sizes t v) (in_a v) (has xs v) (h v)
    by_list h (v ∷ w ∷ vs) = longer (is_value_of sizes t v) (passes (λ v. in_a v && not (has xs v)) (v ∷ w ∷ vs))
      where
        longer : (a b : Bool) → ((a && false) && b) ≡ false
        longer true b = refl
        longer false b = refl

module _ (find : Finder) (law : IsSearch find) (e : Environment) (a b : Formula) (f : MathValue) where
  pub total-means : (within find e f (binary TotalFunctions a b) ≡ true) ↔ ((within find e f (binary PartialFunctions a b) ≡ true) × ((v : MathValue) → is_value_of (set_size e.table) (element_type (meaning find e a).role) v ≡ true → within find e v a ≡ true → has (map first_part (elements f)) v ≡ true))
  total-means =
      let partial = within find e f (binary PartialFunctions a b) in
      let all = covers find (set_size e.table) (element_type (meaning find e a).role) (meaning find e a).contains (map first_part (elements f)) in
      let c = covers-true find law (set_size e.table) (element_type (meaning find e a).role) (meaning find e a).contains (map first_part (elements f)) in (
        (λ h. let k = and-both partial all h in (k.0, c.0 k.1)),
        (λ k. and-true partial all k.0 (c.1 k.1)),
      )

  pub onto-means : (within find e f (binary PartialSurjections a b) ≡ true) ↔ ((within find e f (binary PartialFunctions a b) ≡ true) × ((v : MathValue) → is_value_of (set_size e.table) (element_type (meaning find e b).role) v ≡ true → within find e v b ≡ true → has (map second_of (elements f)) v ≡ true))
  onto-means =
      let partial = within find e f (binary PartialFunctions a b) in
      let all = covers find (set_size e.table) (element_type (meaning find e b).role) (meaning find e b).contains (map second_of (elements f)) in
      let c = covers-true find law (set_size e.table) (element_type (meaning find e b).role) (meaning find e b).contains (map second_of (elements f)) in (
        (λ h. let k = and-both partial all h in (k.0, c.0 k.1)),
        (λ k. and-true partial all k.0 (c.1 k.1)),
      )

-- ---- no finite set has all natural numbers
-- one more than a natural number
natural_in : MathValue → ℕ
natural_in (int (pos n)) = suc n
natural_in _ = 0

abbrev sum_above : List MathValue → ℕ
sum_above [] = 0
sum_above (v ∷ vs) = natural_in v + sum_above vs

is-above : (n : ℕ) (xs : List MathValue) → Has (int (pos n)) xs → n < sum_above xs
unfolding natural_in
is-above n [] h = absurd h
is-above n (v ∷ vs) (inl h) = let e : natural_in v ≡ suc n = sym (ap natural_in h) in omega arith
is-above n (v ∷ vs) (inr h) = let k = is-above n vs h in omega arith

pub natural-not-covered : (find : Finder) → IsSearch find → (sizes : ℕ → ℕ) (xs : List MathValue) (in_natural : MathValue → Bool) → ((n : ℕ) → in_natural (int (pos n)) ≡ true) → covers find sizes int_type in_natural xs ≡ false
natural-not-covered find law sizes xs in_natural all = by_answer (covers find sizes int_type in_natural xs) refl
  where
    by_answer : (b : Bool) → covers find sizes int_type in_natural xs ≡ b → covers find sizes int_type in_natural xs ≡ false
    by_answer false h = h
    by_answer true h =
        let n = sum_above xs in
        let k = is-above n xs (has-then (int (pos n)) xs ((covers-true find law sizes int_type in_natural xs).0 h (int (pos n)) refl (all n))) in
        absurd (omega arith)

and-false : (a b : Bool) → b ≡ false → (a && b) ≡ false
and-false true b h = h
and-false false b h = refl

pub no-total-function : (find : Finder) → IsSearch find → (e : Environment) (b : Formula) (f : MathValue) → within find e f (binary TotalFunctions (named Natural) b) ≡ false
no-total-function find law e b f = and-false (within find e f (binary PartialFunctions (named Natural) b)) (covers find (set_size e.table) int_type (meaning find e (named Natural)).contains (map first_part (elements f))) (natural-not-covered find law (set_size e.table) (map first_part (elements f)) (meaning find e (named Natural)).contains (λ n. non_negative n))
  where
    non_negative : (n : ℕ) → int_le (pos 0) (pos n) ≡ true
    non_negative n = int_le-if (pos 0) (pos n) (omega (arith, ints))

-- ---- the same, with the roles of the formulas
pub total-role : (find : Finder) → IsSearch find → (e : Environment) (a b : Formula) (f : MathValue) → (within find e f (binary TotalFunctions a b) ≡ true) ↔ ((within find e f (binary PartialFunctions a b) ≡ true) × ((v : MathValue) → is_value_of (set_size e.table) (element_type (role e.table (bound_types e) a)) v ≡ true → within find e v a ≡ true → has (map first_part (elements f)) v ≡ true))
total-role find law e a b f =
    let P : Role → Type 0 = λ r. (within find e f (binary TotalFunctions a b) ≡ true) ↔ ((within find e f (binary PartialFunctions a b) ≡ true) × ((v : MathValue) → is_value_of (set_size e.table) (element_type r) v ≡ true → within find e v a ≡ true → has (map first_part (elements f)) v ≡ true)) in
    subst P (meaning-role find e a) (total-means find law e a b f)

pub onto-role : (find : Finder) → IsSearch find → (e : Environment) (a b : Formula) (f : MathValue) → (within find e f (binary PartialSurjections a b) ≡ true) ↔ ((within find e f (binary PartialFunctions a b) ≡ true) × ((v : MathValue) → is_value_of (set_size e.table) (element_type (role e.table (bound_types e) b)) v ≡ true → within find e v b ≡ true → has (map second_of (elements f)) v ≡ true))
onto-role find law e a b f =
    let P : Role → Type 0 = λ r. (within find e f (binary PartialSurjections a b) ≡ true) ↔ ((within find e f (binary PartialFunctions a b) ≡ true) × ((v : MathValue) → is_value_of (set_size e.table) (element_type r) v ≡ true → within find e v b ≡ true → has (map second_of (elements f)) v ≡ true)) in
    subst P (meaning-role find e b) (onto-means find law e a b f)

pub interval-members : IntervalHas
interval-members = record {
  numbers = λ find e a b z. interval-has (number_in (value find e a)) (number_in (value find e b)) z;
  others = λ find e a b v h. interval-only (number_in (value find e a)) (number_in (value find e b)) v h;
}
