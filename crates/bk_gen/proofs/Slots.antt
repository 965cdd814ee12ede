-- Cells, indices and constants lie in their ranges.
use Rattle.std.proofs.Common.{All, ◌≡◌, ◌≤◌, ◌<◌, inl, inr, ℕ, zero, suc, ◌+◌, ℤ, pos, negsuc, ◌+ℤ◌, ◌-ℤ◌, ◌≤ℤ◌, int_le, List, [], ◌∷◌, refl, sym, ◌∙◌, ap, subst, Bool, true, false, ◌||◌, ◌&&◌, cond, nat_eq, nat_lt, arith, Some, None, Option}
use Rattle.std.specs.Prelude.{IsTrue, slice_get}
use Rattle.std.specs.Option.{option_map}
use Rattle.std.specs.Ordering.{int_eq}
use Rattle.std.proofs.lemmas.Int.{ints}
use Rattle.std.proofs.lemmas.Bool.Decides.{nat_tests}
use Rattle.std.proofs.lemmas.List.Elements.{All-head, All-tail}
use Rattle.bk_val.specs.ValueType.{ValueType, int_type, bool_type, enum_type, pair_type, set_type}
use Rattle.bk_form.specs.Table.{VariableEntry, set_size, variable_type, lists_type, IsWellFormed}
use Rattle.bk_form.specs.ArrayTable.{row_of}
use Rattle.bk_form.specs.Formula.{Formula, named, binary}
use Rattle.bk_form.specs.Operators.{count_of}
use Rattle.bk_form.specs.declared.operator.BinOp.TheVariants.{TotalFunctions, Range}
use Rattle.bk_form.specs.declared.operator.Domain.TheVariants.{Bool as Booleans, Enum}
use Rattle.bk_form.specs.declared.arrays.ArrayRow.{ArrayRow}
use Rattle.bk_form.specs.declared.arrays.ArrayDomain.{ArrayDomain}
use Rattle.bk_form.specs.declared.arrays.ArrayDomain.TheVariants.{Interval, Bool as OfBooleans, Set as OfElements}
use Rattle.bk_form.specs.Defined.{is_in_int}
use Rattle.bk_form.proofs.Members.{and-both, or-cases}
use Rattle.bk_form.proofs.Valued.{base-of}
use Rattle.bk_gsl.specs.State.{among}
use Rattle.bk_gsl.proofs.States.{nat_eq-same}
use Rattle.bk_dev.specs.Development.{Development, int_max}
use Rattle.bk_dev.specs.Layout.{Clue, in_domain, has_scalars, array_row, row_by, interval_of, bound_of, indices_of, arrays_of, index_count, row_cells, cells_of, cell_among, cells_in}
use Rattle.bk_code.specs.Numbers.{IsWithin}
use Rattle.bk_b0.specs.Places.{least_index}
use Rattle.bk_b0.specs.Kinds.{is_of_kind, index_type}
use Rattle.bk_b0.specs.Cells.{ArraysAreTyped}
use Rattle.bk_b0.proofs.Numbers.{bounds-then, le-then, eq-then}
use Rattle.bk_b0.proofs.LevelCells.{clue, row-is}
use Rattle.bk_gen.specs.Laws.{HasElementsInRange}

module _ (dev : Development) where
  -- ---- cells
  pub cells-below : (x : ℕ) (xs : List ℕ) → among xs x ≡ true → cell_among dev x xs + cells_of dev x ≤ cells_in dev xs
  cells-below x [] h = absurd (cc)
  cells-below x (y ∷ ys) h = by_test (cells-below x ys) (nat_eq x y) refl h
    where
      by_test : (among ys x ≡ true → cell_among dev x ys + cells_of dev x ≤ cells_in dev ys) → (b : Bool) → nat_eq x y ≡ b → b || among ys x ≡ true → cond b 0 (cells_of dev y + cell_among dev x ys) + cells_of dev x ≤ cells_of dev y + cells_in dev ys
      by_test rest true e k =
          let same : cells_of dev x ≡ cells_of dev y = ap (cells_of dev) (nat_eq-same x y e) in
          omega (arith, same)
      by_test rest false e k = let r = rest k in omega (arith, r)

  pub scalar-cells : (x : ℕ) → row_of (arrays_of dev) x ≡ None → cells_of dev x ≡ 1
  scalar-cells x plain = ap (row_cells dev.table) plain

  pub array-cells : (x : ℕ) (r : ArrayRow) → row_of (arrays_of dev) x ≡ Some r → cells_of dev x ≡ index_count dev.table r.domain
  array-cells x r found = ap (row_cells dev.table) found

  -- ---- numbers
  pub within-range : (z : ℤ) → is_in_int (int_max dev) z ≡ true → IsWithin (int_max dev) z
  within-range z h = let w = bounds-then (int_max dev) z h in let low : (pos 0 -ℤ int_max dev) ≤ℤ z = w.0 in (omega (arith, ints, low), w.1)

  pub small-within : pos 1 ≤ℤ int_max dev → (n : ℕ) → n ≤ 1 → IsWithin (int_max dev) (pos n)
  small-within one n h = (omega (arith, ints, h, one), omega (arith, ints, h, one))

  module _ (fit : HasElementsInRange dev) where
    pub element-within : (s i : ℕ) → nat_lt i (set_size dev.table s) ≡ true → IsWithin (int_max dev) (pos i)
    element-within s i h = let low : i < set_size dev.table s = grind (arith, nat_tests) in let high : pos i ≤ℤ int_max dev = fit s i low in (omega (arith, ints, high), high)

    pub kind-within : pos 1 ≤ℤ int_max dev → (t : ValueType) (z : ℤ) → is_of_kind dev t z ≡ true → IsWithin (int_max dev) z
    kind-within one int_type z h = within-range z h
    kind-within one bool_type z h = elim (or-cases (int_eq z (pos 0)) (int_eq z (pos 1)) h) [
      | inl e ↦ subst (IsWithin (int_max dev)) (sym (eq-then z (pos 0) e)) (small-within one 0 (omega arith))
      | inr e ↦ subst (IsWithin (int_max dev)) (sym (eq-then z (pos 1) e)) (small-within one 1 (omega arith))
    ]
    kind-within one (enum_type s) (pos i) h = element-within s i h
    kind-within one _ _ h = absurd (cc)

  -- ---- arrays
  -- a domain has an index, and its first and last are numbers of the machine
  pub record IsDomain (d : ArrayDomain) : Type 0 where
    pub some : 0 < index_count dev.table d
    pub least : IsWithin (int_max dev) (least_index d)
    pub greatest : IsWithin (int_max dev) (least_index d +ℤ pos (index_count dev.table d) -ℤ pos 1)

  interval-counted : (low high n : ℤ) → n ≡ (high +ℤ pos 1) -ℤ low → low ≤ℤ high → (0 < count_of n) × (low +ℤ pos (count_of n) -ℤ pos 1 ≡ high)
  interval-counted low high (negsuc n) e l = absurd (omega (arith, ints, e, l))
  interval-counted low high (pos n) e l = (omega (arith, ints, e, l), omega (arith, ints, e, l))

  interval-domain : (low high : ℤ) → (pos 0 -ℤ int_max dev) ≤ℤ low → low ≤ℤ high → high ≤ℤ int_max dev → IsDomain (Interval low high)
  interval-domain low high a b c =
      let w = interval-counted low high ((high +ℤ pos 1) -ℤ low) refl b in
      record { some = w.0; least = (omega (arith, ints, a), omega (arith, ints, b, c)); greatest = subst (IsWithin (int_max dev)) (sym w.1) (omega (arith, ints, a, b), c) }

  from-interval : (o q : Option ℤ) (d : ArrayDomain) → interval_of (int_max dev) o q ≡ Some d → IsDomain d
  from-interval (Some a) (Some b) d h = by_test (int_le (pos 0 -ℤ int_max dev) a && int_le a b && int_le b (int_max dev)) refl h
    where
      by_test : (t : Bool) → (int_le (pos 0 -ℤ int_max dev) a && int_le a b && int_le b (int_max dev)) ≡ t → cond t (Some (Interval a b)) None ≡ Some d → IsDomain d
      by_test true q k =
          let w = and-both (int_le (pos 0 -ℤ int_max dev) a && int_le a b) (int_le b (int_max dev)) q in
          let v = and-both (int_le (pos 0 -ℤ int_max dev) a) (int_le a b) w.0 in
          let same : Interval a b ≡ d = cc in
          subst IsDomain same (interval-domain a b (le-then (pos 0 -ℤ int_max dev) a v.0) (le-then a b v.1) (le-then b (int_max dev) w.1))
      by_test false q k = absurd (cc)
  from-interval None q d h = absurd (cc)
  from-interval (Some a) None d h = absurd (cc)

  elements-domain : pos 1 ≤ℤ int_max dev → HasElementsInRange dev → (n : ℕ) → 0 < set_size dev.table n → IsDomain (OfElements n)
  elements-domain one fit n some = by_size (set_size dev.table n) refl
    where
      by_size : (k : ℕ) → set_size dev.table n ≡ k → IsDomain (OfElements n)
      by_size zero e = absurd (omega (arith, some, e))
      by_size (suc k) e =
          let top : pos k ≤ℤ int_max dev = fit n k (omega (arith, e)) in
          let same : pos 0 +ℤ pos (set_size dev.table n) -ℤ pos 1 ≡ pos k = omega (arith, ints, e) in
          record { some = some; least = small-within one 0 (omega arith); greatest = subst (IsWithin (int_max dev)) (sym same) (omega (arith, ints), top) }

  from-formula : pos 1 ≤ℤ int_max dev → HasElementsInRange dev → (g : Formula) (d : ArrayDomain) → indices_of (int_max dev) dev.values g ≡ Some d → ((n : ℕ) → d ≡ OfElements n → 0 < set_size dev.table n) → IsDomain d
  from-formula one fit (binary Range a b) d h listed = from-interval (bound_of dev.values a) (bound_of dev.values b) d h
  from-formula one fit (named Booleans) d h listed = let same : OfBooleans ≡ d = cc in subst IsDomain same (record { some = omega arith; least = small-within one 0 (omega arith); greatest = small-within one 1 (omega arith) })
  from-formula one fit (named (Enum n)) d h listed = let same : OfElements n ≡ d = cc in subst IsDomain same (elements-domain one fit n (listed n (sym same)))
  from-formula one fit _ d h listed = absurd (cc)

  row-domain : (x : ℕ) (c : Clue) (r : ArrayRow) → row_by dev x c ≡ Some r → (g : Formula) × (indices_of (int_max dev) dev.values g ≡ Some r.domain)
  row-domain x (in_domain (binary TotalFunctions d e)) r h = by_test (has_scalars (variable_type dev.table x)) h
    where
      by_domain : (o : Option ArrayDomain) → indices_of (int_max dev) dev.values d ≡ o → array_row x o ≡ Some r → (g : Formula) × (indices_of (int_max dev) dev.values g ≡ Some r.domain)
      by_domain None q k = absurd (cc)
      by_domain (Some i) q k = let same : record { var = x; domain = i } ≡ r = cc in (d, q ∙ ap (λ (p : ArrayRow). Some p.domain) same)

      by_test : (b : Bool) → cond b (array_row x (indices_of (int_max dev) dev.values d)) None ≡ Some r → (g : Formula) × (indices_of (int_max dev) dev.values g ≡ Some r.domain)
      by_test true k = by_domain (indices_of (int_max dev) dev.values d) refl k
      by_test false k = absurd (cc)
  row-domain x c r h = absurd (cc)

  listed-at : (vs : List VariableEntry) → All (λ v. IsTrue (lists_type dev.table v.of_type)) vs → (n : ℕ) (t : ValueType) → option_map (λ v. v.of_type) (slice_get vs n) ≡ Some t → IsTrue (lists_type dev.table t)
  listed-at [] a n t h = absurd (cc)
  listed-at (v ∷ vs) a zero t h = let same : v.of_type ≡ t = cc in subst (λ u. IsTrue (lists_type dev.table u)) same (All-head (λ x. IsTrue (lists_type dev.table x.of_type)) v vs a)
  listed-at (v ∷ vs) a (suc n) t h = listed-at vs (All-tail (λ x. IsTrue (lists_type dev.table x.of_type)) v vs a) n t h

  pub variable-listed : IsWellFormed dev.table → (n : ℕ) (t : ValueType) → variable_type dev.table n ≡ Some t → IsTrue (lists_type dev.table t)
  variable-listed w n t h = listed-at dev.table.variables w.listed n t h

  pub array-domain : pos 1 ≤ℤ int_max dev → IsWellFormed dev.table → ArraysAreTyped dev → HasElementsInRange dev → (x : ℕ) (r : ArrayRow) → row_of (arrays_of dev) x ≡ Some r → IsDomain r.domain
  array-domain one w typed fit x r found =
      let g = row-domain x (clue dev x) r (row-is dev x r found).1 in
      from-formula one fit g.0 r.domain g.1 (λ n e. by_elements n e)
    where
      by_elements : (n : ℕ) → r.domain ≡ OfElements n → 0 < set_size dev.table n
      by_elements n e =
          let t = typed x r found in
          let own : variable_type dev.table x ≡ Some (set_type (pair_type (enum_type n) t.0)) = t.1 ∙ ap (λ d. Some (set_type (pair_type (index_type d) t.0))) e in
          let all = variable-listed w x (set_type (pair_type (enum_type n) t.0)) own in
          let first = (and-both (lists_type dev.table (enum_type n)) (lists_type dev.table t.0) all).0 in
          let some : nat_lt 0 (set_size dev.table n) ≡ true = (and-both (nat_eq n n) (nat_lt 0 (set_size dev.table n)) (base-of dev.table w (enum_type n) first)).1 in
          grind (arith, nat_tests)
