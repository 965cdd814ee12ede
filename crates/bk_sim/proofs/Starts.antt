-- The states and the cells at the start of the initialisation and of a call.
use Rattle.std.proofs.Common.{◌≡◌, ◌⊎◌, inl, inr, ◌<◌, ℕ, zero, suc, ◌+◌, ℤ, pos, List, [], ◌∷◌, length, take, drop, map, replicate, refl, sym, ◌∙◌, ap, subst, Bool, true, false, ◌||◌, cond, nat_eq, nat_lt, arith, Some, None, Option, All}
use Rattle.std.specs.Prelude.{slice_index_or, slice_get, slice_set, unwrap_or, IsTrue}
use Rattle.std.specs.List.{list_all}
use Rattle.std.specs.Option.{option_map}
use Rattle.std.proofs.lemmas.Bool.Decides.{nat_tests}
use Rattle.std.proofs.lemmas.List.{get_or-set_same, get_or-drop, length-replicate}
use Rattle.std.proofs.lemmas.List.Elements.{All-head, All-tail}
use Rattle.bk_val.specs.Value.{MathValue, int, bool, elem, pair}
use Rattle.bk_val.specs.ValueType.{ValueType, int_type, bool_type, enum_type, pair_type, set_type, base_of, is_value_of, are_of_types}
use Rattle.bk_val.specs.CmpLaws.{same_value, value_eq-self}
use Rattle.bk_form.specs.Table.{VariableEntry, set_size, variable_type, lists_type, IsWellFormed}
use Rattle.bk_form.specs.Formula.{Formula, literal, truth_value, element}
use Rattle.bk_form.specs.ArrayTable.{row_of}
use Rattle.bk_form.specs.Search.{Finder}
use Rattle.bk_form.specs.Environment.{State, IsTypedState, at_state}
use Rattle.bk_form.specs.Operators.{is_equal}
use Rattle.bk_form.specs.declared.arrays.ArrayRow.{ArrayRow}
use Rattle.bk_form.specs.declared.arrays.ArrayDomain.{ArrayDomain}
use Rattle.bk_form.specs.declared.arrays.ArrayDomain.TheVariants.{Interval, Bool as OfBooleans, Set as OfElements}
use Rattle.bk_form.proofs.Members.{and-both, and-true, or-left, or-right}
use Rattle.bk_form.proofs.Typed.{set-of}
use Rattle.bk_form.proofs.Valued.{base-of}
use Rattle.bk_gsl.specs.State.{value_at, declared_type, are_values_for, among, over, firsts}
use Rattle.bk_gsl.proofs.States.{nat_eq-same, nat_eq-self, or-false, clash}
use Rattle.bk_dev.specs.Development.{Development, int_max, IsRange}
use Rattle.bk_form.specs.Each.{Each}
use Rattle.bk_dev.specs.Facts.{is_constant, home_of, AreDistinct, IsLiteral, IsValue}
use Rattle.bk_form.specs.Predicates.{AllHold}
use Rattle.bk_dev.specs.Hypotheses.{value_equation}
use Rattle.bk_dev.specs.Machine.{are_in_int, is_in_int}
use Rattle.bk_dev.specs.Layout.{arrays_of, cells_of, cells_in, cell_variables, cell_of, index_count, is_scalar, has_scalars}
use Rattle.bk_code.specs.Session.{placed}
use Rattle.bk_b0.specs.Kinds.{literal_number, number_as, as_number, is_of_kind, row_type, element_type, cell_type, index_type, literal_value}
use Rattle.bk_b0.specs.Translation.{parameter_of}
use Rattle.bk_sim.specs.Shown.{AreOfKinds, paired, indices, shown, seen_by, seen, KindsHold}
use Rattle.bk_dev.specs.B0.{IsScalarName, IsArrayName}
use Rattle.bk_b0.specs.Cells.{IsKnown, IsCell, ValuesHaveKinds, ArraysHaveCells, ArraysAreTyped}
use Rattle.bk_b0.proofs.Numbers.{of-kind-value, zero-in}
use Rattle.bk_sim.proofs.CellKinds.{kind-at, kinds-set}
use Rattle.bk_sim.proofs.ArrayValues.{index_at, nth-from}
use Rattle.bk_sim.proofs.Terms.{seen-cell, scalar-cells, scalar-type, scalar-shown, scalar-inside, scalar-kind, array-cells, array-shown}
use Rattle.bk_sim.proofs.Kept.{seen-other}

-- ---- scalars
-- a value of a scalar type within INT has a number of its kind, which stands for it
module _ (dev : Development) where
  value-kind : (t : ValueType) (v : MathValue) → is_scalar t ≡ true → is_value_of (set_size dev.table) t v ≡ true → is_in_int dev v ≡ true → is_of_kind dev t (as_number v) ≡ true
  value-kind int_type (int z) s h k = k
  value-kind bool_type (bool true) s h k = refl
  value-kind bool_type (bool false) s h k = refl
  value-kind (enum_type n) (elem m i) s h k = (and-both (nat_eq m n) (nat_lt i (set_size dev.table n)) h).1
  value-kind (pair_type t u) v s h k = absurd (cc)
  value-kind (set_type t) v s h k = absurd (cc)
  value-kind _ _ s h k = absurd (cc)

  value-back : (t : ValueType) (v : MathValue) → is_scalar t ≡ true → is_value_of (set_size dev.table) t v ≡ true → number_as t (as_number v) ≡ v
  value-back int_type (int z) s h = refl
  value-back bool_type (bool true) s h = refl
  value-back bool_type (bool false) s h = refl
  value-back (enum_type n) (elem m i) s h = ap (λ y. elem y i) (sym (nat_eq-same m n (and-both (nat_eq m n) (nat_lt i (set_size dev.table n)) h).0))
  value-back (pair_type t u) v s h = absurd (cc)
  value-back (set_type t) v s h = absurd (cc)
  value-back _ _ s h = absurd (cc)

  zero-kind : IsRange (int_max dev) → IsWellFormed dev.table → (t : ValueType) → is_scalar t ≡ true → IsTrue (lists_type dev.table t) → is_of_kind dev t (pos 0) ≡ true
  zero-kind range w int_type s h = zero-in dev range
  zero-kind range w bool_type s h = refl
  zero-kind range w (enum_type n) s h = (and-both (nat_eq n n) (nat_lt 0 (set_size dev.table n)) (base-of dev.table w (enum_type n) h)).1
  zero-kind range w (pair_type t u) s h = absurd (cc)
  zero-kind range w (set_type t) s h = absurd (cc)

  listed-at : (vs : List VariableEntry) → All (λ v. IsTrue (lists_type dev.table v.of_type)) vs → (n : ℕ) (t : ValueType) → option_map (λ v. v.of_type) (slice_get vs n) ≡ Some t → IsTrue (lists_type dev.table t)
  listed-at [] a n t h = absurd (cc)
  listed-at (v ∷ vs) a zero t h = let same : v.of_type ≡ t = cc in subst (λ u. IsTrue (lists_type dev.table u)) same (All-head (λ x. IsTrue (lists_type dev.table x.of_type)) v vs a)
  listed-at (v ∷ vs) a (suc n) t h = listed-at vs (All-tail (λ x. IsTrue (lists_type dev.table x.of_type)) v vs a) n t h

  variable-listed : IsWellFormed dev.table → (n : ℕ) (t : ValueType) → variable_type dev.table n ≡ Some t → IsTrue (lists_type dev.table t)
  variable-listed w n t h = listed-at dev.table.variables w.listed n t h

  pub declared-is : (n : ℕ) (t : ValueType) → variable_type dev.table n ≡ Some t → declared_type dev.table n ≡ t
  declared-is n t h = ap (λ o. unwrap_or o bool_type) h

-- ---- what cells show has its type
module _ (dev : Development) (constants : ValuesHaveKinds dev dev.values) (arrays_there : ArraysHaveCells dev) (typed : ArraysAreTyped dev) (m : List ℤ) (kinds : KindsHold dev m) where
  index-of : (d : ArrayDomain) (k : ℕ) → k < index_count dev.table d → is_value_of (set_size dev.table) (index_type d) (index_at d k) ≡ true
  index-of (Interval low high) k h = refl
  index-of OfBooleans k h = refl
  index-of (OfElements n) k h = and-true (nat_eq n n) (nat_lt (0 + k) (set_size dev.table n)) (nat_eq-self n) (grind (arith, nat_tests))

  array-of : (x : ℕ) (r : ArrayRow) → row_of (arrays_of dev) x ≡ Some r → is_value_of (set_size dev.table) (declared_type dev.table x) (shown dev m x) ≡ true
  array-of x r found =
      let d = r.domain in
      let c = cell_of dev x in
      let t = cell_type dev x in
      let w = typed x r found in
      let own : declared_type dev.table x ≡ set_type (pair_type (index_type d) w.0) = declared-is dev x (set_type (pair_type (index_type d) w.0)) w.1 in
      let cells : t ≡ w.0 = ap (λ o. row_type o (declared_type dev.table x)) found ∙ ap element_type own in
      subst (λ u. is_value_of (set_size dev.table) u (shown dev m x) ≡ true) (sym own) (subst (λ v. is_value_of (set_size dev.table) (set_type (pair_type (index_type d) w.0)) v ≡ true) (sym (array-shown dev x r found m))
      (set-of (set_size dev.table) (pair_type (index_type d) w.0) (paired t (indices dev d) (drop c m))
      (λ v h. let k = nth-from dev d t (drop c m) v h in
      let low : k.0 < cells_of dev x = subst (λ n. k.0 < n) (sym (array-cells dev x r found)) k.1 in
      let kind : is_of_kind dev w.0 (slice_index_or (drop c m) k.0 (pos 0)) ≡ true = subst (λ u. is_of_kind dev u (slice_index_or (drop c m) k.0 (pos 0)) ≡ true) cells
      (subst (λ z. is_of_kind dev t z ≡ true) (sym (get_or-drop c m k.0 (pos 0))) (kind-at dev x (cell_variables dev) m kinds (arrays_there x r found).1 k.0 low)) in
      subst (λ y. is_value_of (set_size dev.table) (pair_type (index_type d) w.0) y ≡ true) (sym (k.3 ∙ ap (λ u. pair (index_at d k.0) (number_as u (slice_index_or (drop c m) k.0 (pos 0)))) cells))
      (and-true (is_value_of (set_size dev.table) (index_type d) (index_at d k.0)) (is_value_of (set_size dev.table) w.0 (number_as w.0 (slice_index_or (drop c m) k.0 (pos 0)))) (index-of d k.0 k.1) (of-kind-value dev w.0 (slice_index_or (drop c m) k.0 (pos 0)) kind)))))

  -- each variable with cells is a scalar or an array
  module _ (shapes : (n : ℕ) → among (cell_variables dev) n ≡ true → IsScalarName dev n ⊎ IsArrayName dev n) where
    shown-typed : (x : ℕ) → among (cell_variables dev) x ≡ true → IsScalarName dev x ⊎ IsArrayName dev x → is_value_of (set_size dev.table) (declared_type dev.table x) (shown dev m x) ≡ true
    shown-typed x h (inl s) =
        let z = slice_index_or m (cell_of dev x) (pos 0) in
        subst (λ v. is_value_of (set_size dev.table) (declared_type dev.table x) v ≡ true) (sym (scalar-shown dev x s.0 m)) (of-kind-value dev (declared_type dev.table x) z (scalar-kind dev x s.0 m kinds h))
    shown-typed x h (inr a) = array-of x a.0 a.1

    typed-by : (ps : List (ℕ × Formula)) → ValuesHaveKinds dev ps → (n : ℕ) → among (firsts ps) n || among (cell_variables dev) n ≡ true → is_value_of (set_size dev.table) (declared_type dev.table n) (seen_by dev m n ps) ≡ true
    typed-by [] have n h = shown-typed n h (shapes n h)
    typed-by (p ∷ ps) have n h = by_test (typed-by ps have.2 n) (nat_eq n p.0) refl h
      where
        by_test : (among (firsts ps) n || among (cell_variables dev) n ≡ true → is_value_of (set_size dev.table) (declared_type dev.table n) (seen_by dev m n ps) ≡ true) → (b : Bool) → nat_eq n p.0 ≡ b → (b || among (firsts ps) n) || among (cell_variables dev) n ≡ true →
            is_value_of (set_size dev.table) (declared_type dev.table n) (cond b (number_as (declared_type dev.table n) (literal_number p.1)) (seen_by dev m n ps)) ≡ true
        by_test rest true q k = of-kind-value dev (declared_type dev.table n) (literal_number p.1) (subst (λ x. is_of_kind dev (declared_type dev.table x) (literal_number p.1) ≡ true) (sym (nat_eq-same n p.0 q)) have.0)
        by_test rest false q k = rest k

    pub seen-typed : (n : ℕ) → IsKnown dev n → is_value_of (set_size dev.table) (declared_type dev.table n) (seen dev m n) ≡ true
    seen-typed n h = typed-by dev.values constants n h

-- ---- a state with what the cells show
module _ (dev : Development) where
  -- as the cells show in the scope
  abbrev pub laid : (ℕ → Bool) → List ℤ → State → State
  laid scope m e = over scope (seen dev m) e

  pub laid-typed : (scope : ℕ → Bool) (m : List ℤ) (e : State) → ((n : ℕ) → scope n ≡ true → is_value_of (set_size dev.table) (declared_type dev.table n) (seen dev m n) ≡ true) → IsTypedState dev.table e → IsTypedState dev.table (laid scope m e)
  laid-typed scope m e h t = record { typed = λ n u q. by_test n u q (scope n) refl }
    where
      by_test : (n : ℕ) (u : ValueType) → variable_type dev.table n ≡ Some u → (b : Bool) → scope n ≡ b → is_value_of (set_size dev.table) u (cond b (seen dev m n) (e n)) ≡ true
      by_test n u q true k = subst (λ x. is_value_of (set_size dev.table) x (seen dev m n) ≡ true) (declared-is dev n u q) (h n k)
      by_test n u q false k = t.typed n u q

  -- a state of base values
  pub base-typed : IsWellFormed dev.table → IsTypedState dev.table (λ n. base_of (declared_type dev.table n))
  base-typed w = record { typed = λ n t q. subst (λ u. is_value_of (set_size dev.table) t (base_of u) ≡ true) (sym (declared-is dev n t q)) (base-of dev.table w t (variable-listed dev w n t q)) }

  -- ---- the values of the constants in a state
  module _ (find : Finder) where
    literal-is : (e : State) (f : Formula) → IsLiteral dev f → value_at find dev.table e f ≡ literal_value f
    literal-is e (literal z) h = refl
    literal-is e (truth_value b) h = refl
    literal-is e (element s i) h = refl
    literal-is e _ h = absurd h

    abbrev ValuesOf : List (ℕ × Formula) → State → Type 0
    ValuesOf ps e = AllHold find (at_state dev.table e) (map value_equation ps)

    -- they are those that the cells give
    pub values-then : (m : List ℤ) (e : State) (ps : List (ℕ × Formula)) → Each (IsValue dev) ps → ValuesHaveKinds dev ps → ValuesOf ps e → (n : ℕ) → among (firsts ps) n ≡ true → e n ≡ seen_by dev m n ps
    values-then m e [] are have h n k = absurd (cc)
    values-then m e (p ∷ ps) are have h n k = by_test (values-then m e ps are.1 have.2 h.1 n) (nat_eq n p.0) refl k
      where
        by_test : (among (firsts ps) n ≡ true → e n ≡ seen_by dev m n ps) → (b : Bool) → nat_eq n p.0 ≡ b → b || among (firsts ps) n ≡ true → e n ≡ cond b (number_as (declared_type dev.table n) (literal_number p.1)) (seen_by dev m n ps)
        by_test rest true q r =
            let same = nat_eq-same n p.0 q in
            ap e same ∙ same_value (e p.0) (value_at find dev.table e p.1) h.0 ∙ literal-is e p.1 are.0.is_literal ∙ have.1 ∙ ap (λ x. number_as (declared_type dev.table x) (literal_number p.1)) (sym same)
        by_test rest false q r = rest r

    pub values-if : (m : List ℤ) (e : State) (ps : List (ℕ × Formula)) → Each (IsValue dev) ps → ValuesHaveKinds dev ps → AreDistinct (firsts ps) → ((n : ℕ) → among (firsts ps) n ≡ true → e n ≡ seen_by dev m n ps) → ValuesOf ps e
    values-if m e [] are have distinct h = tt
    values-if m e (p ∷ ps) are have distinct h =
        let first : e p.0 ≡ number_as (declared_type dev.table p.0) (literal_number p.1) = h p.0 (or-left (nat_eq p.0 p.0) (among (firsts ps) p.0) (nat_eq-self p.0)) ∙ ap (λ b. cond b (number_as (declared_type dev.table p.0) (literal_number p.1)) (seen_by dev m p.0 ps)) (nat_eq-self p.0) in
        let same : e p.0 ≡ value_at find dev.table e p.1 = first ∙ sym have.1 ∙ sym (literal-is e p.1 are.0.is_literal) in (
          subst (λ v. is_equal (e p.0) v ≡ true) same (value_eq-self (e p.0)),
          values-if m e ps are.1 have.2 distinct.1 (λ n k. h n (or-right (nat_eq n p.0) (among (firsts ps) n) k) ∙ ap (λ b. cond b (number_as (declared_type dev.table n) (literal_number p.1)) (seen_by dev m n ps)) (other n k)),
        )
      where
        other : (n : ℕ) → among (firsts ps) n ≡ true → nat_eq n p.0 ≡ false
        other n k = by_test (nat_eq n p.0) refl
          where
            by_test : (b : Bool) → nat_eq n p.0 ≡ b → b ≡ false
            by_test true q = clash (among (firsts ps) n) k (ap (among (firsts ps)) (nat_eq-same n p.0 q) ∙ distinct.0)
            by_test false q = refl

    pub values-same : (x e : State) (ps : List (ℕ × Formula)) → Each (IsValue dev) ps → ((n : ℕ) → is_constant (home_of dev n) ≡ true → x n ≡ e n) → ValuesOf ps e → ValuesOf ps x
    values-same x e [] are same h = tt
    values-same x e (p ∷ ps) are same h =
        let here : value_at find dev.table x p.1 ≡ value_at find dev.table e p.1 = literal-is x p.1 are.0.is_literal ∙ sym (literal-is e p.1 are.0.is_literal) in
        ((λ i. is_equal (same p.0 are.0.constant i) (here i)) ∙ h.0, values-same x e ps are.1 same h.1)

-- ---- zeros
take-zeros : (k n l : ℕ) → l ≡ k + n → take k (replicate l (pos 0)) ≡ replicate k (pos 0)
take-zeros zero n l h = refl
take-zeros (suc k) n zero h = absurd (omega (arith, h))
take-zeros (suc k) n (suc l) h = ap (λ xs. pos 0 ∷ xs) (take-zeros k n l (omega (arith, h)))

drop-zeros : (k n l : ℕ) → l ≡ k + n → drop k (replicate l (pos 0)) ≡ replicate n (pos 0)
drop-zeros zero n l h = let same : l ≡ n = omega (arith, h) in ap (λ x. replicate x (pos 0)) same
drop-zeros (suc k) n zero h = absurd (omega (arith, h))
drop-zeros (suc k) n (suc l) h = drop-zeros k n l (omega (arith, h))

all-zeros : (test : ℤ → Bool) (n : ℕ) → test (pos 0) ≡ true → list_all test (replicate n (pos 0)) ≡ true
all-zeros test zero h = refl
all-zeros test (suc n) h = and-true (test (pos 0)) (list_all test (replicate n (pos 0))) h (all-zeros test n h)

pub zeros-kinds : (dev : Development) (xs : List ℕ) → ((x : ℕ) → among xs x ≡ true → is_of_kind dev (cell_type dev x) (pos 0) ≡ true) → AreOfKinds dev xs (replicate (cells_in dev xs) (pos 0))
zeros-kinds dev [] h = tt
zeros-kinds dev (x ∷ xs) h =
    let k = cells_of dev x in
    let n = cells_in dev xs in
    let front = take-zeros k n (k + n) refl in (
      ap length front ∙ length-replicate k (pos 0),
      ap (list_all (is_of_kind dev (cell_type dev x))) front ∙ all-zeros (is_of_kind dev (cell_type dev x)) k (h x (or-left (nat_eq x x) (among xs x) (nat_eq-self x))),
      subst (AreOfKinds dev xs) (sym (drop-zeros k n (k + n) refl)) (zeros-kinds dev xs (λ y q. h y (or-right (nat_eq y x) (among xs y) q))),
    )

module _ (dev : Development) (range : IsRange (int_max dev)) (w : IsWellFormed dev.table) (typed : ArraysAreTyped dev) (scalars : (x : ℕ) (r : ArrayRow) → row_of (arrays_of dev) x ≡ Some r → has_scalars (variable_type dev.table x) ≡ true) where
  pub zero-fits : (x : ℕ) → IsScalarName dev x ⊎ IsArrayName dev x → is_of_kind dev (cell_type dev x) (pos 0) ≡ true
  zero-fits x (inl s) = subst (λ t. is_of_kind dev t (pos 0) ≡ true) (sym (scalar-type dev x s.0)) (by_type (variable_type dev.table x) refl s.1)
    where
      by_type : (o : Option ValueType) → variable_type dev.table x ≡ o → is_scalar (unwrap_or o bool_type) ≡ true → is_of_kind dev (unwrap_or o bool_type) (pos 0) ≡ true
      by_type None h k = refl
      by_type (Some t) h k = zero-kind dev range w t k (variable-listed dev w x t h)
  zero-fits x (inr a) =
      let t = typed x a.0 a.1 in
      let d = a.0.domain in
      let own = declared-is dev x (set_type (pair_type (index_type d) t.0)) t.1 in
      let cells : cell_type dev x ≡ t.0 = ap (λ o. row_type o (declared_type dev.table x)) a.1 ∙ ap element_type own in
      let plain : is_scalar t.0 ≡ true = sym (ap has_scalars t.1) ∙ scalars x a.0 a.1 in
      let listed = variable-listed dev w x (set_type (pair_type (index_type d) t.0)) t.1 in
      subst (λ u. is_of_kind dev u (pos 0) ≡ true) (sym cells) (zero-kind dev range w t.0 plain (and-both (lists_type dev.table (index_type d)) (lists_type dev.table t.0) listed).1)

-- ---- arguments
module _ (dev : Development) where
  abbrev pub given : List ℕ → List ℤ → List ℤ → List ℤ
  given xs zs m = placed (map (parameter_of dev) xs) zs m

  module _ (x : ℕ) (plain : row_of (arrays_of dev) x ≡ None) (cell : IsCell dev x) where
    none-more : cell_of dev x + 0 ≡ cell_of dev x
    none-more = omega arith

    one-low : 0 < cells_of dev x
    one-low = omega (arith, scalar-cells dev x plain)

    set-kinds : (m : List ℤ) → KindsHold dev m → (z : ℤ) → is_of_kind dev (declared_type dev.table x) z ≡ true → KindsHold dev (slice_set m (cell_of dev x) z)
    set-kinds m kinds z h = subst (λ c. KindsHold dev (slice_set m c z)) none-more (kinds-set dev x (cell_variables dev) m kinds cell.1 0 one-low z (subst (λ u. is_of_kind dev u z ≡ true) (sym (scalar-type dev x plain)) h))

    set-other : (m : List ℤ) (z : ℤ) (n : ℕ) → nat_eq n x ≡ false → seen dev (slice_set m (cell_of dev x) z) n ≡ seen dev m n
    set-other m z n h = subst (λ c. seen dev (slice_set m c z) n ≡ seen dev m n) none-more (seen-other dev x cell m 0 one-low z n h)

    set-same : (m : List ℤ) → KindsHold dev m → (z : ℤ) → seen dev (slice_set m (cell_of dev x) z) x ≡ number_as (declared_type dev.table x) z
    set-same m kinds z = seen-cell dev x (slice_set m (cell_of dev x) z) dev.values cell.0 ∙ scalar-shown dev x plain (slice_set m (cell_of dev x) z) ∙ ap (number_as (declared_type dev.table x)) (get_or-set_same m (cell_of dev x) z (pos 0) (scalar-inside dev x plain m kinds cell.1))

  abbrev pub AreInputs : List ℕ → Type 0
  AreInputs xs = (n : ℕ) → among xs n ≡ true → IsScalarName dev n × IsCell dev n

  first-input : (x : ℕ) (xs : List ℕ) → AreInputs (x ∷ xs) → IsScalarName dev x × IsCell dev x
  first-input x xs h = h x (or-left (nat_eq x x) (among xs x) (nat_eq-self x))

  rest-inputs : (x : ℕ) (xs : List ℕ) → AreInputs (x ∷ xs) → AreInputs xs
  rest-inputs x xs h n k = h n (or-right (nat_eq n x) (among xs n) k)

  pub given-kinds : (xs : List ℕ) (vs : List MathValue) → AreInputs xs → are_values_for dev.table xs vs ≡ true → are_in_int dev vs ≡ true → (m : List ℤ) → KindsHold dev m → KindsHold dev (given xs (map as_number vs) m)
  given-kinds [] [] ins h k m kinds = kinds
  given-kinds [] (v ∷ vs) ins h k m kinds = kinds
  given-kinds (x ∷ xs) [] ins h k m kinds = kinds
  given-kinds (x ∷ xs) (v ∷ vs) ins h k m kinds =
      let here = first-input x xs ins in
      let w = and-both (is_value_of (set_size dev.table) (declared_type dev.table x) v) (are_of_types (set_size dev.table) (map (declared_type dev.table) xs) vs) h in
      let r = and-both (is_in_int dev v) (are_in_int dev vs) k in
      given-kinds xs vs (rest-inputs x xs ins) w.1 r.1 (slice_set m (cell_of dev x) (as_number v)) (set-kinds x here.0.0 here.1 m kinds (as_number v) (value-kind dev (declared_type dev.table x) v here.0.1 w.0 r.0))

  pub given-other : (xs : List ℕ) (zs : List ℤ) → AreInputs xs → (m : List ℤ) (n : ℕ) → among xs n ≡ false → seen dev (given xs zs m) n ≡ seen dev m n
  given-other [] zs ins m n h = refl
  given-other (x ∷ xs) [] ins m n h = refl
  given-other (x ∷ xs) (z ∷ zs) ins m n h =
      let here = first-input x xs ins in
      let w = or-false (nat_eq n x) (among xs n) h in
      given-other xs zs (rest-inputs x xs ins) (slice_set m (cell_of dev x) z) n w.1 ∙ set-other x here.0.0 here.1 m z n w.0

  pub given-shown : (xs : List ℕ) (vs : List MathValue) → AreInputs xs → AreDistinct xs → are_values_for dev.table xs vs ≡ true → are_in_int dev vs ≡ true → (m : List ℤ) → KindsHold dev m → map (seen dev (given xs (map as_number vs) m)) xs ≡ vs
  given-shown [] [] ins distinct h k m kinds = refl
  given-shown [] (v ∷ vs) ins distinct h k m kinds = absurd (cc)
  given-shown (x ∷ xs) [] ins distinct h k m kinds = absurd (cc)
  given-shown (x ∷ xs) (v ∷ vs) ins distinct h k m kinds =
      let here = first-input x xs ins in
      let w = and-both (is_value_of (set_size dev.table) (declared_type dev.table x) v) (are_of_types (set_size dev.table) (map (declared_type dev.table) xs) vs) h in
      let r = and-both (is_in_int dev v) (are_in_int dev vs) k in
      let z = as_number v in
      let l = slice_set m (cell_of dev x) z in
      let first : seen dev (given xs (map as_number vs) l) x ≡ v = given-other xs (map as_number vs) (rest-inputs x xs ins) l x distinct.0 ∙ set-same x here.0.0 here.1 m kinds z ∙ value-back dev (declared_type dev.table x) v here.0.1 w.0 in
      let rest = given-shown xs vs (rest-inputs x xs ins) distinct.1 w.1 r.1 l (set-kinds x here.0.0 here.1 m kinds z (value-kind dev (declared_type dev.table x) v here.0.1 w.0 r.0)) in
      λ i. first i ∷ rest i
