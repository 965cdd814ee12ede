-- What the cells of a last level without || show is the same after flattening.
use Rattle.std.proofs.Common.{◌≡◌, ◌<◌, ℕ, ℤ, pos, negsuc, List, [], ◌∷◌, length, take, drop, refl, sym, ◌∙◌, ap, subst, true, nat_eq, Some, None, Option}
use Rattle.std.specs.Prelude.{slice_index_or}
use Rattle.std.specs.List.{list_all}
use Rattle.bk_val.specs.ValueType.{ValueType, int_type, bool_type, enum_type, pair_type, set_type}
use Rattle.bk_form.specs.ArrayTable.{row_of}
use Rattle.bk_form.specs.declared.arrays.ArrayRow.{ArrayRow}
use Rattle.bk_form.specs.declared.arrays.ArrayDomain.{ArrayDomain}
use Rattle.bk_form.specs.declared.arrays.ArrayDomain.TheVariants.{Interval, Bool as OfBooleans, Set as OfElements}
use Rattle.bk_gsl.specs.State.{declared_type, among}
use Rattle.bk_gsl.specs.Flat.{IsFlat}
use Rattle.bk_gsl.proofs.States.{nat_eq-self}
use Rattle.bk_dev.specs.Development.{Development, level_at, last}
use Rattle.bk_dev.specs.Layout.{arrays_of, cells_of, cell_variables, cell_of}
use Rattle.bk_dev.specs.Flattened.{flattened}
use Rattle.bk_b0.specs.Kinds.{number_as, is_of_kind, row_type, cell_type}
use Rattle.bk_sim.specs.Shown.{AreOfKinds, indices, paired, shown_as, shown}
use Rattle.bk_form.proofs.Members.{or-left, or-right}
use Rattle.bk_form.specs.Each.{Each}
use Rattle.bk_dev.proofs.FlatSame.{arrays-same, cell-same, cells-same, declared-same, variables-same}

module _ (dev : Development) (some : 0 < length dev.levels) (init : IsFlat (level_at dev (last dev)).init) (bodies : Each (λ b. IsFlat b.sub) (level_at dev (last dev)).bodies) (vars : (n : ℕ) → among (level_at dev (last dev)).vars n ≡ true → n < length dev.table.variables) where
  abbrev old : ℕ
  old = length dev.table.variables

  abbrev flat : Development
  flat = flattened dev

  arrays-here : arrays_of flat ≡ arrays_of dev
  arrays-here = arrays-same dev some init bodies vars

  cells-here : (x : ℕ) → cells_of flat x ≡ cells_of dev x
  cells-here x = cells-same dev some init bodies vars x

  variables-here : cell_variables flat ≡ cell_variables dev
  variables-here = variables-same dev some init bodies vars

  cell-here : (x : ℕ) → cell_of flat x ≡ cell_of dev x
  cell-here x = cell-same dev some init bodies vars x

  declared-here : (n : ℕ) → n < old → declared_type flat.table n ≡ declared_type dev.table n
  declared-here n h = declared-same dev some init bodies n h

  -- ---- what cells show
  kind-same : (t : ValueType) (z : ℤ) → is_of_kind flat t z ≡ is_of_kind dev t z
  kind-same int_type z = refl
  kind-same bool_type z = refl
  kind-same (enum_type s) (pos i) = refl
  kind-same (enum_type s) (negsuc i) = refl
  kind-same (pair_type t u) z = refl
  kind-same (set_type t) z = refl

  pub cell-type-same : (x : ℕ) → x < old → cell_type flat x ≡ cell_type dev x
  cell-type-same x h = λ i. row_type (row_of (arrays-here i) x) (declared-here x h i)

  all-kinds : (t : ValueType) (m : List ℤ) → list_all (is_of_kind flat t) m ≡ list_all (is_of_kind dev t) m
  all-kinds t m = λ i. list_all (λ z. kind-same t z i) m

  kinds-path : (xs : List ℕ) → ((n : ℕ) → among xs n ≡ true → n < old) → (m : List ℤ) → AreOfKinds flat xs m → AreOfKinds dev xs m
  kinds-path [] h [] k = k
  kinds-path [] h (z ∷ m) k = k
  kinds-path (x ∷ xs) h m k =
      let here = h x (or-left (nat_eq x x) (among xs x) (nat_eq-self x)) in
      let many = cells-here x in
      let rest = kinds-path xs (λ y q. h y (or-right (nat_eq y x) (among xs y) q)) (drop (cells_of dev x) m) (subst (λ n. AreOfKinds flat xs (drop n m)) many k.2) in (
        subst (λ n. length (take n m) ≡ n) many k.0,
        sym (all-kinds (cell_type dev x) (take (cells_of dev x) m)) ∙ (λ i. list_all (is_of_kind flat (sym (cell-type-same x here) i)) (take (sym many i) m)) ∙ k.1,
        rest,
      )

  kinds-back : (xs : List ℕ) → ((n : ℕ) → among xs n ≡ true → n < old) → (m : List ℤ) → AreOfKinds dev xs m → AreOfKinds flat xs m
  kinds-back [] h [] k = k
  kinds-back [] h (z ∷ m) k = k
  kinds-back (x ∷ xs) h m k =
      let here = h x (or-left (nat_eq x x) (among xs x) (nat_eq-self x)) in
      let many = sym (cells-here x) in
      let rest = kinds-back xs (λ y q. h y (or-right (nat_eq y x) (among xs y) q)) (drop (cells_of flat x) m) (subst (λ n. AreOfKinds dev xs (drop n m)) many k.2) in (
        subst (λ n. length (take n m) ≡ n) many k.0,
        all-kinds (cell_type flat x) (take (cells_of flat x) m) ∙ (λ i. list_all (is_of_kind dev (cell-type-same x here i)) (take (sym many i) m)) ∙ k.1,
        rest,
      )

  pub kinds-down : ((n : ℕ) → among (cell_variables dev) n ≡ true → n < old) → (m : List ℤ) → AreOfKinds flat (cell_variables flat) m → AreOfKinds dev (cell_variables dev) m
  kinds-down h m k = kinds-path (cell_variables dev) h m (subst (λ xs. AreOfKinds flat xs m) variables-here k)

  pub kinds-up : ((n : ℕ) → among (cell_variables dev) n ≡ true → n < old) → (m : List ℤ) → AreOfKinds dev (cell_variables dev) m → AreOfKinds flat (cell_variables flat) m
  kinds-up h m k = subst (λ xs. AreOfKinds flat xs m) (sym variables-here) (kinds-back (cell_variables dev) h m k)

  indices-same : (d : ArrayDomain) → indices flat d ≡ indices dev d
  indices-same (Interval a b) = refl
  indices-same OfBooleans = refl
  indices-same (OfElements n) = refl

  shown-by : (x : ℕ) → x < old → (o : Option ArrayRow) (m : List ℤ) → shown_as flat x o m ≡ shown_as dev x o m
  shown-by x h None m = λ i. number_as (declared-here x h i) (slice_index_or m (cell-here x i) (pos 0))
  shown-by x h (Some row) m = λ i. Rattle.bk_form.specs.Operators.set_value (paired (cell-type-same x h i) (indices-same row.domain i) (drop (cell-here x i) m))

  pub shown-same : (x : ℕ) → x < old → (m : List ℤ) → shown flat m x ≡ shown dev m x
  shown-same x h m = ap (λ a. shown_as flat x (row_of a x) m) arrays-here ∙ shown-by x h (row_of (arrays_of dev) x) m
