-- An instance of a law is within the limits only where its picks are: each letter stands in some pattern of its row, or stands for an
-- empty set.
use Rattle.std.proofs.Common.{◌≡◌, inl, inr, ℕ, zero, suc, ◌+◌, ◌≤◌, ◌<◌, List, [], ◌∷◌, length, map, refl, sym, subst, Bool, true, false, not, ◌&&◌, ◌||◌, cond, nat_eq, nat_lt, arith, All}
use Rattle.std.specs.Prelude.{Some, None}
use Rattle.std.specs.List.{list_any, list_all}
use Rattle.std.proofs.lemmas.Bool.Decides.{nat_tests}
use Rattle.bk_form.specs.Each.{Each}
use Rattle.bk_form.specs.Formula.{Formula, empty_set, formula_size, formula_height}
use Rattle.bk_form.proofs.Members.{or-cases, and-both}
use Rattle.bk_bind.specs.Limits.{IsWithinLimits}
use Rattle.bk_laws.specs.Patterns.{Pattern, letter, empty_letter, fixed, one, two, is_empty_set, formula_of}
use Rattle.bk_laws.specs.Rows.{Row, Instance, built, pick_at, wants_empty, fit_from, fits, row_named, instance_of_row, instance_at}
use Rattle.bk_laws_log.specs.Rows.{rows as logic_and_order}
use Rattle.bk_laws_set.specs.Rows.{rows as sets}
use Rattle.bk_laws_fun.specs.Rows.{rows as functions}
use Rattle.bk_arith.proofs.Options.{some-same}
use Rattle.bk_kernel.specs.Rewriting.{law_instance}
use Rattle.bk_kernel.specs.Held.{IsWithinInstance}
use Rattle.bk_kernel.proofs.EachItem.{all-each}

-- letter k stands in the pattern as itself
abbrev has_letter : ℕ → Pattern → Bool
has_letter k (letter n) = nat_eq n k
has_letter k (empty_letter n) = false
has_letter k (fixed f) = false
has_letter k (one o p) = has_letter k p
has_letter k (two o p q) = has_letter k p || has_letter k q

abbrev is_covered : Row → ℕ → Bool
is_covered row k = wants_empty row k || list_any (has_letter k) (row.left ∷ row.right ∷ row.sides)

-- each letter below n is
abbrev are_covered : Row → ℕ → Bool
are_covered row zero = true
are_covered row (suc n) = is_covered row n && are_covered row n

abbrev covers : Row → Bool
covers row = are_covered row row.letters

-- ---- the rows
logic-covered : list_all covers logic_and_order ≡ true
unfolding logic_and_order
logic-covered = refl

sets-covered : list_all covers sets ≡ true
unfolding sets
sets-covered = refl

functions-covered : list_all covers functions ≡ true
unfolding functions
functions-covered = refl

-- ---- a letter's pick is no larger than the pattern
eq-then : (m n : ℕ) → nat_eq m n ≡ true → m ≡ n
eq-then m n h = grind (arith, nat_tests)

module _ (picks : ℕ → Formula) where
  letter-size : (k : ℕ) (p : Pattern) → has_letter k p ≡ true → (formula_size (picks k) ≤ formula_size (formula_of picks p)) × (formula_height (picks k) ≤ formula_height (formula_of picks p))
  letter-size k (letter n) h = subst (λ j. (formula_size (picks k) ≤ formula_size (picks j)) × (formula_height (picks k) ≤ formula_height (picks j))) (sym (eq-then n k h)) (omega arith, omega arith)
  letter-size k (empty_letter n) h = absurd (cc)
  letter-size k (fixed f) h = absurd (cc)
  letter-size k (one o p) h = let g = letter-size k p h in (omega (arith, g.0), omega (arith, g.1))
  letter-size k (two o p q) h = elim (or-cases (has_letter k p) (has_letter k q) h) [
    | inl e ↦ let g = letter-size k p e in (omega (arith, g.0), omega (arith, g.1))
    | inr e ↦ let g = letter-size k q e in (omega (arith, g.0), omega (arith, g.1))
  ]

  letter-within : (k : ℕ) (p : Pattern) → has_letter k p ≡ true → IsWithinLimits (formula_of picks p) → IsWithinLimits (picks k)
  letter-within k p h w = let g = letter-size k p h in record { nodes = omega (arith, g.0, w.nodes); height = omega (arith, g.1, w.height) }

  some-within : (k : ℕ) (ps : List Pattern) → list_any (has_letter k) ps ≡ true → Each IsWithinLimits (map (formula_of picks) ps) → IsWithinLimits (picks k)
  some-within k [] h w = absurd (cc)
  some-within k (p ∷ ps) h w = elim (or-cases (has_letter k p) (list_any (has_letter k) ps) h) [
    | inl e ↦ letter-within k p e w.0
    | inr e ↦ some-within k ps e w.1
  ]

-- ---- picks for empty sets
empty-within : (f : Formula) → is_empty_set f ≡ true → IsWithinLimits f
empty-within (empty_set t) h = record { nodes = omega arith; height = omega arith }
empty-within _ h = absurd (cc)

not-or : (a b : Bool) → (not a || b) ≡ true → a ≡ true → b ≡ true
not-or true b h k = h
not-or false b h k = absurd (cc)

fits-at : (row : Row) (j : ℕ) (ps : List Formula) → fit_from row j ps ≡ true → (k : ℕ) → k < length ps → wants_empty row (j + k) ≡ true → is_empty_set (pick_at ps k) ≡ true
fits-at row j [] h k less w = absurd (omega arith)
fits-at row j (p ∷ ps) h zero less w =
    let same : j + zero ≡ j = omega arith in
    not-or (wants_empty row j) (is_empty_set p) (and-both (not (wants_empty row j) || is_empty_set p) (fit_from row (j + 1) ps) h).0 (subst (λ n. wants_empty row n ≡ true) same w)
fits-at row j (p ∷ ps) h (suc k) less w =
    let same : j + suc k ≡ (j + 1) + k = omega arith in
    fits-at row (j + 1) ps (and-both (not (wants_empty row j) || is_empty_set p) (fit_from row (j + 1) ps) h).1 k (omega arith) (subst (λ n. wants_empty row n ≡ true) same w)

covered-at : (row : Row) (n k : ℕ) → are_covered row n ≡ true → k < n → is_covered row k ≡ true
covered-at row zero k h less = absurd (omega arith)
covered-at row (suc n) k h less = by_test (λ fewer. covered-at row n k (and-both (is_covered row n) (are_covered row n) h).1 fewer) (nat_eq k n) refl
  where
    other : nat_eq k n ≡ false → k < n
    other e = grind (arith, nat_tests)

    by_test : (k < n → is_covered row k ≡ true) → (b : Bool) → nat_eq k n ≡ b → is_covered row k ≡ true
    by_test on true e = subst (λ m. is_covered row m ≡ true) (sym (eq-then k n e)) (and-both (is_covered row n) (are_covered row n) h).0
    by_test on false e = on (other e)

-- ---- one row
each-pick : (ps : List Formula) → ((k : ℕ) → k < length ps → IsWithinLimits (pick_at ps k)) → Each IsWithinLimits ps
each-pick [] h = tt
each-pick (p ∷ ps) h = (h 0 (omega arith), each-pick ps (λ k less. h (suc k) (omega arith)))

row-within : (row : Row) → covers row ≡ true → (picks : List Formula) → fits row picks ≡ true → IsWithinInstance (built row (pick_at picks)) → Each IsWithinLimits picks
row-within row covered picks h w =
    let both = and-both (nat_eq (length picks) row.letters) (fit_from row 0 picks) h in
    let count = eq-then (length picks) row.letters both.0 in
    let formulas : Each IsWithinLimits (map (formula_of (pick_at picks)) (row.left ∷ row.right ∷ row.sides)) = (w.1, (w.2, w.0)) in
    each-pick picks (λ k less.
    let small : k < row.letters = omega (arith, count, less) in
    let from : k ≡ 0 + k = omega arith in
    elim (or-cases (wants_empty row k) (list_any (has_letter k) (row.left ∷ row.right ∷ row.sides)) (covered-at row row.letters k covered small)) [
      | inl e ↦ empty-within (pick_at picks k) (fits-at row 0 picks both.1 k less (subst (λ n. wants_empty row n ≡ true) from e))
      | inr e ↦ some-within (pick_at picks) k (row.left ∷ row.right ∷ row.sides) e formulas
    ])

table-within : (rows : List Row) → list_all covers rows ≡ true → (name : ℕ) (picks : List Formula) (i : Instance) → instance_at rows name picks ≡ Some i → IsWithinInstance i → Each IsWithinLimits picks
table-within [] all name picks i h w = absurd (cc)
table-within (row ∷ rows) all name picks i h w = by_name (table-within rows both.1 name picks i) (nat_eq row.name name) h
  where
    both : (covers row ≡ true) × (list_all covers rows ≡ true)
    both = and-both (covers row) (list_all covers rows) all

    by_fit : (b : Bool) → fits row picks ≡ b → cond b (Some (built row (pick_at picks))) None ≡ Some i → Each IsWithinLimits picks
    by_fit true e k = row-within row both.0 picks e (subst IsWithinInstance (sym (some-same (built row (pick_at picks)) i k)) w)
    by_fit false e k = absurd (cc)

    by_name : (instance_of_row picks (row_named rows name) ≡ Some i → IsWithinInstance i → Each IsWithinLimits picks) → (b : Bool) → instance_of_row picks (cond b (Some row) (row_named rows name)) ≡ Some i → Each IsWithinLimits picks
    by_name on true k = by_fit (fits row picks) refl k
    by_name on false k = on k w

-- ---- all tables
pub picks-within : (n : ℕ) (picks : List Formula) (i : Instance) → law_instance n picks ≡ Some i → IsWithinInstance i → All IsWithinLimits picks
picks-within n picks i h w = all-each IsWithinLimits picks (by_first (nat_lt n 200) h)
  where
    by_second : (b : Bool) → cond b (instance_at sets n picks) (instance_at functions n picks) ≡ Some i → Each IsWithinLimits picks
    by_second true e = table-within sets sets-covered n picks i e w
    by_second false e = table-within functions functions-covered n picks i e w

    by_first : (b : Bool) → cond b (instance_at logic_and_order n picks) (cond (nat_lt n 300) (instance_at sets n picks) (instance_at functions n picks)) ≡ Some i → Each IsWithinLimits picks
    by_first true e = table-within logic_and_order logic-covered n picks i e w
    by_first false e = by_second (nat_lt n 300) e
