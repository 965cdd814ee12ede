-- What the cells show of names whose cells stay, and of names that are set.
use Rattle.std.proofs.Common.{◌≡◌, ◌<◌, ℕ, zero, suc, ◌+◌, ◌-◌, ℤ, pos, ◌+ℤ◌, List, [], ◌∷◌, length, drop, map, refl, sym, ◌∙◌, ap, subst, Bool, true, false, ◌||◌, cond, nat_eq, arith, Some, None, Option}
use Rattle.std.specs.Prelude.{slice_index_or, slice_set}
use Rattle.std.proofs.lemmas.List.{get_or-drop, length-set, length-drop, get_or-set_other}
use Rattle.bk_val.specs.Value.{MathValue, pair}
use Rattle.bk_val.specs.ValueType.{ValueType, is_value_of, are_of_types}
use Rattle.bk_form.specs.Table.{set_size}
use Rattle.bk_form.specs.Formula.{Formula, variable}
use Rattle.bk_form.specs.ArrayTable.{row_of}
use Rattle.bk_form.specs.Search.{Finder}
use Rattle.bk_form.specs.Environment.{State}
use Rattle.bk_form.specs.Operators.{set_value, numbers_from, elements_from}
use Rattle.bk_form.specs.declared.arrays.ArrayRow.{ArrayRow}
use Rattle.bk_form.specs.declared.arrays.ArrayDomain.{ArrayDomain}
use Rattle.bk_form.specs.declared.arrays.ArrayDomain.TheVariants.{Interval, Bool as OfBooleans, Set as OfElements}
use Rattle.bk_form.proofs.Members.{and-true, or-left, or-right}
use Rattle.bk_gsl.specs.State.{value_at, declared_type, are_values_for, with_value, with_values, among}
use Rattle.bk_gsl.specs.Run.{assigned}
use Rattle.bk_gsl.proofs.States.{nat_eq-same, nat_eq-self}
use Rattle.bk_dev.specs.Development.{Development}
use Rattle.bk_dev.specs.Layout.{arrays_of, cells_of, cell_variables, cell_of, index_count}
use Rattle.bk_b0.specs.Kinds.{literal_number, number_as, cell_type}
use Rattle.bk_sim.specs.Shown.{paired, indices, shown_as, shown, seen_by, seen, ShownIn, KindsHold}
use Rattle.bk_b0.specs.Cells.{IsCell}
use Rattle.bk_b0.proofs.TypedB0.{AreNoArrays}
use Rattle.bk_b0.proofs.Numbers.{of-kind-value}
use Rattle.bk_sim.proofs.CellKinds.{apart}
use Rattle.bk_sim.proofs.Terms.{seen-cell, scalar-cells, scalar-shown, scalar-kind, array-cells}

-- ---- pairs of the same numbers
paired-same : (t : ValueType) (is : List MathValue) (m l : List ℤ) → length m ≡ length l → ((k : ℕ) → k < length is → slice_index_or m k (pos 0) ≡ slice_index_or l k (pos 0)) → paired t is m ≡ paired t is l
paired-same t [] m l long same = refl
paired-same t (i ∷ is) [] [] long same = refl
paired-same t (i ∷ is) [] (y ∷ l) long same = absurd (omega (arith, long))
paired-same t (i ∷ is) (z ∷ m) [] long same = absurd (omega (arith, long))
paired-same t (i ∷ is) (z ∷ m) (y ∷ l) long same =
    let first : z ≡ y = same 0 (omega arith) in
    let rest = paired-same t is m l (omega (arith, long)) (λ k h. same (suc k) (omega arith)) in
    λ j. pair i (number_as t (first j)) ∷ rest j

numbers-long : (z : ℤ) (n : ℕ) → length (numbers_from z n) ≡ n
numbers-long z zero = refl
numbers-long z (suc n) = ap suc (numbers-long (z +ℤ pos 1) n)

elements-long : (s i n : ℕ) → length (elements_from s i n) ≡ n
elements-long s i zero = refl
elements-long s i (suc n) = ap suc (elements-long s (suc i) n)

indices-long : (dev : Development) (d : ArrayDomain) → length (indices dev d) ≡ index_count dev.table d
indices-long dev (Interval low high) = numbers-long low (index_count dev.table (Interval low high))
indices-long dev OfBooleans = refl
indices-long dev (OfElements n) = elements-long n 0 (set_size dev.table n)

-- ---- names whose cells stay
module _ (dev : Development) (n : ℕ) (m l : List ℤ) (long : length m ≡ length l) (same : (j : ℕ) → j < cells_of dev n → slice_index_or m (cell_of dev n + j) (pos 0) ≡ slice_index_or l (cell_of dev n + j) (pos 0)) where
  shown-kept : shown dev m n ≡ shown dev l n
  shown-kept = by_row (row_of (arrays_of dev) n) refl
    where
      by_row : (o : Option ArrayRow) → row_of (arrays_of dev) n ≡ o → shown_as dev n o m ≡ shown_as dev n o l
      by_row None h =
          let some : 0 < cells_of dev n = omega (arith, scalar-cells dev n h) in
          let none : cell_of dev n + 0 ≡ cell_of dev n = omega arith in
          ap (number_as (declared_type dev.table n)) (subst (λ c. slice_index_or m c (pos 0) ≡ slice_index_or l c (pos 0)) none (same 0 some))
      by_row (Some r) h =
          let c = cell_of dev n in
          let rest : length (drop c m) ≡ length (drop c l) = length-drop c m ∙ ap (λ k. k - c) long ∙ sym (length-drop c l) in
          ap set_value (paired-same (cell_type dev n) (indices dev r.domain) (drop c m) (drop c l) rest
          (λ k h'. let low : k < cells_of dev n = omega (arith, h', indices-long dev r.domain, array-cells dev n r h) in get_or-drop c m k (pos 0) ∙ same k low ∙ sym (get_or-drop c l k (pos 0))))

  kept-by : (ps : List (ℕ × Formula)) → seen_by dev m n ps ≡ seen_by dev l n ps
  kept-by [] = shown-kept
  kept-by (p ∷ ps) = ap (cond (nat_eq n p.0) (number_as (declared_type dev.table n) (literal_number p.1))) (kept-by ps)

  pub seen-kept : seen dev m n ≡ seen dev l n
  seen-kept = kept-by dev.values

-- ---- one cell is set
module _ (dev : Development) (x : ℕ) (cell : IsCell dev x) (m : List ℤ) (i : ℕ) (low : i < cells_of dev x) (z : ℤ) where
  pub cell-other : (n j : ℕ) → nat_eq n x ≡ false → j < cells_of dev n → slice_index_or (slice_set m (cell_of dev x + i) z) (cell_of dev n + j) (pos 0) ≡ slice_index_or m (cell_of dev n + j) (pos 0)
  cell-other n j h l = get_or-set_other m (cell_of dev x + i) (cell_of dev n + j) z (pos 0) (apart dev x n h (cell_variables dev) cell.1 i j low l)

  pub seen-other : (n : ℕ) → nat_eq n x ≡ false → seen dev (slice_set m (cell_of dev x + i) z) n ≡ seen dev m n
  seen-other n h = seen-kept dev n (slice_set m (cell_of dev x + i) z) m (length-set m (cell_of dev x + i) z) (λ j l. cell-other n j h l)

-- ---- one variable is assigned
module _ (find : Finder) (dev : Development) (scope : ℕ → Bool) (x : ℕ) (f : Formula) (cell : IsCell dev x) (e : State) (l : List ℤ) where
  pub after-set : ((n : ℕ) → nat_eq n x ≡ false → scope n ≡ true → e n ≡ seen dev l n) → value_at find dev.table e f ≡ shown dev l x → ShownIn dev scope l (assigned find dev.table ((x, f) ∷ []) e)
  after-set others is n h = by_test (nat_eq n x) refl
    where
      by_test : (b : Bool) → nat_eq n x ≡ b → value_at find dev.table e (cond b f (variable n)) ≡ seen dev l n
      by_test true k = is ∙ sym (seen-cell dev x l dev.values cell.0) ∙ ap (seen dev l) (sym (nat_eq-same n x k))
      by_test false k = others n k h

-- ---- locals
pub with-seen : (f : ℕ → MathValue) (zs : List ℕ) (e : State) (n : ℕ) → with_values e zs (map f zs) n ≡ cond (among zs n) (f n) (e n)
with-seen f [] e n = refl
with-seen f (z ∷ zs) e n = with-seen f zs (with_value e z (f z)) n ∙ by_test (nat_eq n z) refl (among zs n)
  where
    by_test : (b : Bool) → nat_eq n z ≡ b → (c : Bool) → cond c (f n) (cond b (f z) (e n)) ≡ cond (b || c) (f n) (e n)
    by_test true k true = refl
    by_test true k false = ap f (sym (nat_eq-same n z k))
    by_test false k true = refl
    by_test false k false = refl

module _ (dev : Development) (m : List ℤ) (kinds : KindsHold dev m) where
  pub scalar-seen : (x : ℕ) → row_of (arrays_of dev) x ≡ None → IsCell dev x → is_value_of (set_size dev.table) (declared_type dev.table x) (seen dev m x) ≡ true
  scalar-seen x plain cell =
      let t = declared_type dev.table x in
      let z = slice_index_or m (cell_of dev x) (pos 0) in
      subst (λ v. is_value_of (set_size dev.table) t v ≡ true) (sym (seen-cell dev x m dev.values cell.0 ∙ scalar-shown dev x plain m)) (of-kind-value dev t z (scalar-kind dev x plain m kinds cell.1))

  pub locals-typed : (zs : List ℕ) → AreNoArrays dev zs → ((n : ℕ) → among zs n ≡ true → IsCell dev n) → are_values_for dev.table zs (map (seen dev m) zs) ≡ true
  locals-typed [] plain cells = refl
  locals-typed (z ∷ zs) plain cells =
      and-true (is_value_of (set_size dev.table) (declared_type dev.table z) (seen dev m z)) (are_of_types (set_size dev.table) (map (declared_type dev.table) zs) (map (seen dev m) zs))
      (scalar-seen z plain.0 (cells z (or-left (nat_eq z z) (among zs z) (nat_eq-self z))))
      (locals-typed zs plain.1 (λ n h. cells n (or-right (nat_eq n z) (among zs n) h)))
