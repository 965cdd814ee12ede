-- The code of an expression pushes the number of its value, and the code of a condition that of its truth.
use Rattle.std.proofs.Common.{◌≡◌, ◌<◌, ℕ, zero, suc, ◌+◌, ℤ, pos, neg_ℤ, ◌+ℤ◌, ◌-ℤ◌, ◌*ℤ◌, int_le, List, [], ◌∷◌, ◌++◌, length, drop, refl, sym, ◌∙◌, ap, subst, Bool, true, false, not, ◌||◌, ◌&&◌, cond, nat_eq, arith, Some, None, append_assoc}
use Rattle.std.specs.Prelude.{slice_index_or, slice_get, int_lt, unwrap_or, Result, Ok}
use Rattle.std.specs.Ordering.{int_eq}
use Rattle.std.proofs.lemmas.List.{get_or-drop}
use Rattle.std.proofs.lemmas.Option.{slice_get-get_or}
use Rattle.bk_val.specs.Value.{MathValue, int, bool, elem}
use Rattle.bk_val.specs.ValueType.{ValueType, int_type, bool_type, enum_type}
use Rattle.bk_val.specs.Number.{quotient_of, remainder_of}
use Rattle.bk_val.specs.Sets.{apply_of}
use Rattle.bk_form.specs.Formula.{Formula, variable, literal, truth_value, element, unary, binary}
use Rattle.bk_form.specs.ArrayTable.{row_of}
use Rattle.bk_form.specs.Search.{Finder}
use Rattle.bk_form.specs.Environment.{State, at_state}
use Rattle.bk_form.specs.Replacement.{occurs}
use Rattle.bk_form.specs.Operators.{number_in, is_equal, elements, set_value, binary_value}
use Rattle.bk_form.specs.Defined.{Fits, is_in_int, is_in_indices, is_index as is_index_of}
use Rattle.bk_form.specs.declared.operator.UnOp.TheVariants.{Not, BoolOf, Neg as Minus}
use Rattle.bk_form.specs.declared.operator.BinOp.TheVariants.{And, Or, Eq as Equals, Lt as Below, Le as AtMost, Add as Plus, Sub as Less, Mul as By, Div as Over, Mod as Rest, Apply}
use Rattle.bk_form.specs.declared.arrays.ArrayRow.{ArrayRow}
use Rattle.bk_form.proofs.Members.{or-left, or-right, and-both}
use Rattle.bk_gsl.specs.State.{holds, value_at, declared_type, among, firsts}
use Rattle.bk_gsl.proofs.States.{nat_eq-same, nat_eq-self, or-false}
use Rattle.bk_dev.specs.Development.{Development, int_max}
use Rattle.bk_dev.specs.Layout.{arrays_of, row_cells, cells_of, cell_variables, cell_of, index_count}
use Rattle.bk_code.specs.declared.image.Image.{Image}
use Rattle.bk_code.specs.declared.instruction.Inst.{Inst}
use Rattle.bk_code.specs.declared.instruction.Inst.TheVariants.{Push, Load, ALoad, Add, Sub, Mul, Div, Mod, Neg, Eq, Lt, Le, Not as Invert, Jump, JumpZero}
use Rattle.bk_code.specs.Numbers.{int_max as code_max, bounded, quotient, remainder, truth_number}
use Rattle.bk_code.specs.Step.{GoesOn, calculated, loaded, row, element_cell, is_index}
use Rattle.bk_b0.specs.Kinds.{literal_number, number_as, is_of_kind, row_type, cell_type, index_type}
use Rattle.bk_b0.specs.Places.{least_index}
use Rattle.bk_b0.specs.Translation.{name_code, load_element, value_code}
use Rattle.bk_sim.specs.Shown.{paired, indices, shown_as, shown, seen_by, ShownIn, KindsHold}
use Rattle.bk_b0.specs.Cells.{IsKnown, ValuesHaveKinds, ArraysHaveCells}
use Rattle.bk_b0.proofs.TypedB0.{IsTypedExpression, IsTypedCondition}
use Rattle.bk_b0.proofs.Numbers.{bounded-is, negated-in, negated-is, divisor, quotient-in, quotient-is, remainder-in, remainder-is, le-then, eq-not, same-numbers, truth-as, truth-kind, truth-zero}
use Rattle.bk_sim.proofs.CellKinds.{inside, kind-at}
use Rattle.bk_sim.specs.Placed.{Stands}
use Rattle.bk_sim.proofs.Steps.{Passes, here, stands-first, stands-second, fork_code, pass-inst, pass-then, pass-one, pass-number, pass-fork}
use Rattle.bk_sim.proofs.ArrayValues.{index_at, place-of, place-inside, place-gap, array-read}

-- ---- what the cells show
pub rest-inside : (c : ℕ) (m : List ℤ) (k : ℕ) → c + k < length m → k < length (drop c m)
rest-inside zero m k h = omega (arith, h)
rest-inside (suc c) [] k h = absurd (omega (arith, h))
rest-inside (suc c) (z ∷ m) k h = rest-inside c m k (omega (arith, h))

module _ (dev : Development) (x : ℕ) where
  pub seen-cell : (m : List ℤ) (ps : List (ℕ × Formula)) → among (firsts ps) x ≡ false → seen_by dev m x ps ≡ shown dev m x
  seen-cell m [] h = refl
  seen-cell m (p ∷ ps) h = let w = or-false (nat_eq x p.0) (among (firsts ps) x) h in ap (λ b. cond b (number_as (declared_type dev.table x) (literal_number p.1)) (seen_by dev m x ps)) w.0 ∙ seen-cell m ps w.1

  module _ (plain : row_of (arrays_of dev) x ≡ None) where
    pub scalar-cells : cells_of dev x ≡ 1
    scalar-cells = ap (row_cells dev.table) plain

    pub scalar-type : cell_type dev x ≡ declared_type dev.table x
    scalar-type = ap (λ o. row_type o (declared_type dev.table x)) plain

    pub scalar-shown : (m : List ℤ) → shown dev m x ≡ number_as (declared_type dev.table x) (slice_index_or m (cell_of dev x) (pos 0))
    scalar-shown m = ap (λ o. shown_as dev x o m) plain

    pub scalar-inside : (m : List ℤ) → KindsHold dev m → among (cell_variables dev) x ≡ true → cell_of dev x < length m
    scalar-inside m kinds h =
        let some : 0 < cells_of dev x = omega (arith, scalar-cells) in
        let stands : cell_of dev x + 0 < length m = inside dev x (cell_variables dev) m kinds h 0 some in
        omega (arith, stands)

    pub scalar-kind : (m : List ℤ) → KindsHold dev m → among (cell_variables dev) x ≡ true → is_of_kind dev (declared_type dev.table x) (slice_index_or m (cell_of dev x) (pos 0)) ≡ true
    scalar-kind m kinds h =
        let some : 0 < cells_of dev x = omega (arith, scalar-cells) in
        let none : cell_of dev x + 0 ≡ cell_of dev x = omega arith in
        subst (λ t. is_of_kind dev t (slice_index_or m (cell_of dev x) (pos 0)) ≡ true) scalar-type
        (subst (λ n. is_of_kind dev (cell_type dev x) (slice_index_or m n (pos 0)) ≡ true) none (kind-at dev x (cell_variables dev) m kinds h 0 some))

  module _ (r : ArrayRow) (found : row_of (arrays_of dev) x ≡ Some r) where
    pub array-cells : cells_of dev x ≡ index_count dev.table r.domain
    array-cells = ap (row_cells dev.table) found

    pub array-shown : (m : List ℤ) → shown dev m x ≡ set_value (paired (cell_type dev x) (indices dev r.domain) (drop (cell_of dev x) m))
    array-shown m = ap (λ o. shown_as dev x o m) found

-- ---- what code pushes
-- the code pushes the number that stands for a value of this type
pub record Pushes (dev : Development) (image : Image) (L : Type 0) (m : List ℤ) (place : ℕ) (code : List Inst) (stack : List ℤ) (v : MathValue) (t : ValueType) : Type 0 where
  pub number : ℤ
  pub is : v ≡ number_as t number
  pub kind : is_of_kind dev t number ≡ true
  pub passes : Passes image L place code stack m (number ∷ stack) m

apply-value : (f w base y : MathValue) → apply_of (elements f) w ≡ Some y → binary_value Apply base f w ≡ y
apply-value f w base y h = ap (λ o. unwrap_or o base) h

module _ (find : Finder) (dev : Development) (image : Image) (most : code_max image ≡ int_max dev) (constants : ValuesHaveKinds dev dev.values) (arrays_there : ArraysHaveCells dev)
    (scope : ℕ → Bool) (known : (x : ℕ) → scope x ≡ true → IsKnown dev x) (m : List ℤ) (kinds : KindsHold dev m) (e : State) (shows : ShownIn dev scope m e) (L : Type 0) where
  abbrev Pushed : ℕ → List Inst → List ℤ → MathValue → ValueType → Type 0
  Pushed place code stack v t = Pushes dev image L m place code stack v t

  abbrev val : Formula → MathValue
  val f = value_at find dev.table e f

  -- ---- names
  name-pushes : (x : ℕ) → row_of (arrays_of dev) x ≡ None → (ps : List (ℕ × Formula)) → ValuesHaveKinds dev ps → among (firsts ps) x || among (cell_variables dev) x ≡ true → (place : ℕ) (stack : List ℤ) → Stands image place (name_code dev x ps) → Pushed place (name_code dev x ps) stack (seen_by dev m x ps) (declared_type dev.table x)
  name-pushes x plain [] have h place stack stands =
      let z = slice_index_or m (cell_of dev x) (pos 0) in record {
        number = z;
        is = scalar-shown dev x plain m;
        kind = scalar-kind dev x plain m kinds h;
        passes = pass-inst image L place (Load (cell_of dev x)) stack (z ∷ stack) m m stands (ap (loaded (place + 1) stack m) (slice_get-get_or m (cell_of dev x) (pos 0) (scalar-inside dev x plain m kinds h)));
      }
  name-pushes x plain (p ∷ ps) have h place stack stands = by_test (λ k s. name-pushes x plain ps have.2 k place stack s) (nat_eq x p.0) refl h stands
    where
      by_test : (among (firsts ps) x || among (cell_variables dev) x ≡ true → Stands image place (name_code dev x ps) → Pushed place (name_code dev x ps) stack (seen_by dev m x ps) (declared_type dev.table x)) → (b : Bool) → nat_eq x p.0 ≡ b → (b || among (firsts ps) x) || among (cell_variables dev) x ≡ true →
          Stands image place (cond b (Push (literal_number p.1) ∷ []) (name_code dev x ps)) → Pushed place (cond b (Push (literal_number p.1) ∷ []) (name_code dev x ps)) stack (cond b (number_as (declared_type dev.table x) (literal_number p.1)) (seen_by dev m x ps)) (declared_type dev.table x)
      by_test rest true q k s = record {
        number = literal_number p.1;
        is = refl;
        kind = subst (λ n. is_of_kind dev (declared_type dev.table n) (literal_number p.1) ≡ true) (sym (nat_eq-same x p.0 q)) have.0;
        passes = pass-number image L (literal_number p.1) place stack m s;
      }
      by_test rest false q k s = rest k s

  -- ---- operands
  at-type : (place : ℕ) (code : List Inst) (stack : List ℤ) (v : MathValue) (t u : ValueType) → t ≡ u → Pushed place code stack v u → Pushed place code stack v t
  at-type place code stack v t u h p = subst (Pushed place code stack v) (sym h) p

  -- two operands, and what an instruction makes of their numbers
  record Both (place : ℕ) (xs ys : List Inst) (inst : Inst) (stack : List ℤ) (va vb : MathValue) (t : ValueType) : Type 0 where
    first : ℤ
    second : ℤ
    is_first : va ≡ number_as t first
    is_second : vb ≡ number_as t second
    kind_first : is_of_kind dev t first ≡ true
    kind_second : is_of_kind dev t second ≡ true
    then : (c : ℤ) → ((at : ℕ) → row (code_max image) inst at (second ∷ first ∷ stack) m ≡ GoesOn (here (at + 1) (c ∷ stack) m)) → Passes image L place (xs ++ ys ++ inst ∷ []) stack m (c ∷ stack) m

  both : (place : ℕ) (xs ys : List Inst) (inst : Inst) (stack : List ℤ) (va vb : MathValue) (t : ValueType) → Stands image place (xs ++ ys ++ inst ∷ []) → (Stands image place xs → Pushed place xs stack va t) → ((z : ℤ) → Stands image (place + length xs) ys → Pushed (place + length xs) ys (z ∷ stack) vb t) → Both place xs ys inst stack va vb t
  both place xs ys inst stack va vb t stands f g =
      let front = stands-first image place (xs ++ ys) (inst ∷ []) stands in
      let p = f (stands-first image place xs ys front) in
      let q = g p.number (stands-second image place xs ys front) in record {
        first = p.number;
        second = q.number;
        is_first = p.is;
        is_second = q.is;
        kind_first = p.kind;
        kind_second = q.kind;
        then = λ c h. pass-one image L place (xs ++ ys) inst stack (q.number ∷ p.number ∷ stack) (c ∷ stack) m m m stands
            (pass-then image L place xs ys stack (p.number ∷ stack) (q.number ∷ p.number ∷ stack) m m m p.passes q.passes) h;
      }

  calculated-is : (at : ℕ) (stack : List ℤ) (r : Result ℤ _) (z : ℤ) → r ≡ Ok z → calculated at stack m r ≡ GoesOn (here at (z ∷ stack) m)
  calculated-is at stack r z h = ap (calculated at stack m) h

  in-range : (z : ℤ) → is_in_int (int_max dev) z ≡ true → is_in_int (code_max image) z ≡ true
  in-range z h = subst (λ n. is_in_int n z ≡ true) (sym most) h

  -- a result within the range
  ranged : (place : ℕ) (xs ys : List Inst) (inst : Inst) (stack : List ℤ) (va vb v : MathValue) (op : ℤ → ℤ → ℤ) → Both place xs ys inst stack va vb int_type → v ≡ int (op (number_in va) (number_in vb)) → is_in_int (int_max dev) (number_in v) ≡ true →
      ((at : ℕ) (a b : ℤ) → row (code_max image) inst at (b ∷ a ∷ stack) m ≡ calculated (at + 1) stack m (bounded (code_max image) (op a b))) → Pushed place (xs ++ ys ++ inst ∷ []) stack v int_type
  ranged place xs ys inst stack va vb v op w value fits is =
      let c = op w.first w.second in
      let same : v ≡ int c = value ∙ (λ i. int (op (number_in (w.is_first i)) (number_in (w.is_second i)))) in
      let kind : is_in_int (int_max dev) c ≡ true = subst (λ (x : MathValue). is_in_int (int_max dev) (number_in x) ≡ true) same fits in
      record { number = c; is = same; kind = kind; passes = w.then c (λ at. is at w.first w.second ∙ calculated-is (at + 1) stack (bounded (code_max image) c) c (bounded-is (code_max image) c (in-range c kind))) }

  divided : (place : ℕ) (xs ys : List Inst) (stack : List ℤ) (va vb v : MathValue) → Both place xs ys Div stack va vb int_type → v ≡ int (quotient_of (number_in va) (number_in vb)) → not (is_equal vb (int (pos 0))) ≡ true → Pushed place (xs ++ ys ++ Div ∷ []) stack v int_type
  divided place xs ys stack va vb v w value fits =
      let c = quotient_of w.first w.second in
      let nonzero = divisor w.second (subst (λ x. not (is_equal x (int (pos 0))) ≡ true) w.is_second fits) in
      record {
        number = c;
        is = value ∙ (λ i. int (quotient_of (number_in (w.is_first i)) (number_in (w.is_second i))));
        kind = quotient-in (int_max dev) w.first w.second (eq-not w.second (pos 0) nonzero) w.kind_first;
        passes = w.then c (λ at. calculated-is (at + 1) stack (quotient w.first w.second) c (quotient-is w.first w.second nonzero));
      }

  rested : (place : ℕ) (xs ys : List Inst) (stack : List ℤ) (va vb v : MathValue) → Both place xs ys Mod stack va vb int_type → v ≡ int (remainder_of (number_in va) (number_in vb)) → int_le (pos 0) (number_in va) && int_lt (pos 0) (number_in vb) ≡ true → Pushed place (xs ++ ys ++ Mod ∷ []) stack v int_type
  rested place xs ys stack va vb v w value fits =
      let c = remainder_of w.first w.second in
      let own : int_le (pos 0) w.first && int_lt (pos 0) w.second ≡ true = (λ i. int_le (pos 0) (number_in (sym w.is_first i)) && int_lt (pos 0) (number_in (sym w.is_second i))) ∙ fits in
      record {
        number = c;
        is = value ∙ (λ i. int (remainder_of (number_in (w.is_first i)) (number_in (w.is_second i))));
        kind = remainder-in (int_max dev) w.first w.second w.kind_first (le-then (pos 0) w.first (and-both (int_le (pos 0) w.first) (int_lt (pos 0) w.second) own).0);
        passes = w.then c (λ at. calculated-is (at + 1) stack (remainder w.first w.second) c (remainder-is w.first w.second own));
      }

  -- ---- arrays
  load-row : (base count k : ℕ) (low i z : ℤ) (at : ℕ) (stack : List ℤ) → i ≡ low +ℤ pos k → k < count → slice_get m (base + k) ≡ Some z → row (code_max image) (ALoad base low count) at (i ∷ stack) m ≡ GoesOn (here (at + 1) (z ∷ stack) m)
  load-row base count k low i z at stack is l get =
      let fine : is_index low count i ≡ true = subst (λ n. is_index low count n ≡ true) (sym is) (place-inside low count k l) in
      let there : element_cell base low i ≡ base + k = ap (element_cell base low) is ∙ ap (λ n. base + n) (place-gap low k) in
      rw fine (ap (λ n. loaded (at + 1) stack m (slice_get m n)) there ∙ ap (loaded (at + 1) stack m) get)

  element-pushes : (f : ℕ) (a : Formula) (r : ArrayRow) (found : row_of (arrays_of dev) f ≡ Some r) → scope f ≡ true → is_index_of (row_of (arrays_of dev) f) (val a) ≡ true → (place : ℕ) (xs : List Inst) (stack : List ℤ) → Stands image place (xs ++ load_element dev f (row_of (arrays_of dev) f)) → Pushed place xs stack (val a) (index_type r.domain) →
      Pushed place (xs ++ load_element dev f (row_of (arrays_of dev) f)) stack (val (binary Apply (variable f) a)) (cell_type dev f)
  element-pushes f a r found s fits place xs stack stands p =
      let d = r.domain in
      let c = cell_of dev f in
      let t = cell_type dev f in
      let there = arrays_there f r found in
      let inside_it : is_in_indices d (val a) ≡ true = subst (λ o. is_index_of o (val a) ≡ true) found fits in
      let pl = place-of dev d p.number p.kind (subst (λ v. is_in_indices d v ≡ true) p.is inside_it) in
      let k = pl.place in
      let low : k < cells_of dev f = subst (λ n. k < n) (sym (array-cells dev f r found)) pl.low in
      let long : c + k < length m = inside dev f (cell_variables dev) m kinds there.1 k low in
      let z = slice_index_or m (c + k) (pos 0) in
      let array : e f ≡ set_value (paired t (indices dev d) (drop c m)) = shows f s ∙ seen-cell dev f m dev.values there.0 ∙ array-shown dev f r found m in
      let index : val a ≡ index_at d k = p.is ∙ ap (number_as (index_type d)) pl.is in
      let read : apply_of (elements (e f)) (val a) ≡ Some (number_as t (slice_index_or (drop c m) k (pos 0))) = (λ i. apply_of (elements (array i)) (index i)) ∙ array-read dev d t (drop c m) k pl.low (rest-inside c m k long) in
      let value : val (binary Apply (variable f) a) ≡ number_as t (slice_index_or (drop c m) k (pos 0)) = apply-value (e f) (val a) _ (number_as t (slice_index_or (drop c m) k (pos 0))) read in
      record {
        number = z;
        is = value ∙ ap (number_as t) (get_or-drop c m k (pos 0));
        kind = kind-at dev f (cell_variables dev) m kinds there.1 k low;
        passes = subst (λ o. Stands image place (xs ++ load_element dev f o) → Passes image L place (xs ++ load_element dev f o) stack m (z ∷ stack) m) (sym found)
            (λ w. pass-one image L place xs (ALoad c (least_index d) (cells_of dev f)) stack (p.number ∷ stack) (z ∷ stack) m m m w p.passes
            (λ at. load-row c (cells_of dev f) k (least_index d) p.number z at stack pl.is low (slice_get-get_or m (c + k) (pos 0) long))) stands;
      }

  -- ---- expressions and conditions
  abbrev IsNamed : Formula → Type 0
  IsNamed f = (n : ℕ) → occurs n f ≡ true → scope n ≡ true

  first-named : (a b : Formula) → ((n : ℕ) → occurs n a || occurs n b ≡ true → scope n ≡ true) → IsNamed a
  first-named a b h n k = h n (or-left (occurs n a) (occurs n b) k)

  second-named : (a b : Formula) → ((n : ℕ) → occurs n a || occurs n b ≡ true → scope n ≡ true) → IsNamed b
  second-named a b h n k = h n (or-right (occurs n a) (occurs n b) k)

  same-passes : (place : ℕ) (xs ys : List Inst) (stack after : List ℤ) → xs ≡ ys → (Stands image place ys → Passes image L place ys stack m after m) → Stands image place xs → Passes image L place xs stack m after m
  same-passes place xs ys stack after h f stands = subst (λ c. Passes image L place c stack m after m) (sym h) (f (subst (Stands image place) h stands))

  same-truth : (place : ℕ) (code : List Inst) (stack : List ℤ) (b c : Bool) → b ≡ c → Passes image L place code stack m (truth_number c ∷ stack) m → Passes image L place code stack m (truth_number b ∷ stack) m
  same-truth place code stack b c h p = subst (λ x. Passes image L place code stack m (truth_number x ∷ stack) m) (sym h) p

  mutual
    pub expression-pushes : (f : Formula) (t : ValueType) → IsTypedExpression dev t f → IsNamed f → Fits find (at_state dev.table e) (arrays_of dev) f → (place : ℕ) (stack : List ℤ) → Stands image place (value_code dev f) → Pushed place (value_code dev f) stack (val f) t
    expression-pushes (variable x) t b names fits place stack stands =
        let s = names x (nat_eq-self x) in
        let p = name-pushes x b.0 dev.values constants (known x s) place stack stands in
        subst (Pushed place (value_code dev (variable x)) stack (val (variable x))) b.1 (record { number = p.number; is = shows x s ∙ p.is; kind = p.kind; passes = p.passes })
    expression-pushes (literal z) t b names fits place stack stands = at-type place (Push z ∷ []) stack (int z) t int_type b.0 (record { number = z; is = refl; kind = b.1; passes = pass-number image L z place stack m stands })
    expression-pushes (truth_value x) t b names fits place stack stands = at-type place (Push (truth_number x) ∷ []) stack (bool x) t bool_type b (record { number = truth_number x; is = truth-as x; kind = truth-kind dev x; passes = pass-number image L (truth_number x) place stack m stands })
    expression-pushes (element s i) t b names fits place stack stands = at-type place (Push (pos i) ∷ []) stack (elem s i) t (enum_type s) b.0 (record { number = pos i; is = refl; kind = b.1; passes = pass-number image L (pos i) place stack m stands })
    expression-pushes (unary Minus a) t b names fits place stack stands =
        let p = expression-pushes a int_type b.1 names fits place stack (stands-first image place (value_code dev a) (Neg ∷ []) stands) in
        let c = pos 0 -ℤ p.number in
        at-type place (value_code dev a ++ Neg ∷ []) stack (val (unary Minus a)) t int_type b.0 (record {
          number = c;
          is = ap (λ (v : MathValue). int (pos 0 -ℤ number_in v)) p.is;
          kind = negated-in (int_max dev) p.number p.kind;
          passes = pass-one image L place (value_code dev a) Neg stack (p.number ∷ stack) (c ∷ stack) m m m stands p.passes
              (λ at. calculated-is (at + 1) stack (bounded (code_max image) (neg_ℤ p.number)) c (negated-is (code_max image) p.number (in-range p.number p.kind)));
        })
    expression-pushes (unary BoolOf p) t b names fits place stack stands =
        let h = holds find dev.table e p in
        at-type place (value_code dev p) stack (bool h) t bool_type b.0 (record { number = truth_number h; is = truth-as h; kind = truth-kind dev h; passes = condition-passes p b.1 names fits place stack stands })
    expression-pushes (binary Plus x y) t b names fits place stack stands =
        at-type place (value_code dev (binary Plus x y)) stack (val (binary Plus x y)) t int_type b.0 (ranged place (value_code dev x) (value_code dev y) Add stack (val x) (val y) (val (binary Plus x y)) (λ p q. p +ℤ q)
        (both place (value_code dev x) (value_code dev y) Add stack (val x) (val y) int_type stands (λ s. expression-pushes x int_type b.1 (first-named x y names) fits.0 place stack s) (λ z s. expression-pushes y int_type b.2 (second-named x y names) fits.1 (place + length (value_code dev x)) (z ∷ stack) s))
        refl fits.2 (λ at p q. refl))
    expression-pushes (binary Less x y) t b names fits place stack stands =
        at-type place (value_code dev (binary Less x y)) stack (val (binary Less x y)) t int_type b.0 (ranged place (value_code dev x) (value_code dev y) Sub stack (val x) (val y) (val (binary Less x y)) (λ p q. p -ℤ q)
        (both place (value_code dev x) (value_code dev y) Sub stack (val x) (val y) int_type stands (λ s. expression-pushes x int_type b.1 (first-named x y names) fits.0 place stack s) (λ z s. expression-pushes y int_type b.2 (second-named x y names) fits.1 (place + length (value_code dev x)) (z ∷ stack) s))
        refl fits.2 (λ at p q. refl))
    expression-pushes (binary By x y) t b names fits place stack stands =
        at-type place (value_code dev (binary By x y)) stack (val (binary By x y)) t int_type b.0 (ranged place (value_code dev x) (value_code dev y) Mul stack (val x) (val y) (val (binary By x y)) (λ p q. p *ℤ q)
        (both place (value_code dev x) (value_code dev y) Mul stack (val x) (val y) int_type stands (λ s. expression-pushes x int_type b.1 (first-named x y names) fits.0 place stack s) (λ z s. expression-pushes y int_type b.2 (second-named x y names) fits.1 (place + length (value_code dev x)) (z ∷ stack) s))
        refl fits.2 (λ at p q. refl))
    expression-pushes (binary Over x y) t b names fits place stack stands =
        at-type place (value_code dev (binary Over x y)) stack (val (binary Over x y)) t int_type b.0 (divided place (value_code dev x) (value_code dev y) stack (val x) (val y) (val (binary Over x y))
        (both place (value_code dev x) (value_code dev y) Div stack (val x) (val y) int_type stands (λ s. expression-pushes x int_type b.1 (first-named x y names) fits.0 place stack s) (λ z s. expression-pushes y int_type b.2 (second-named x y names) fits.1 (place + length (value_code dev x)) (z ∷ stack) s))
        refl fits.2)
    expression-pushes (binary Rest x y) t b names fits place stack stands =
        at-type place (value_code dev (binary Rest x y)) stack (val (binary Rest x y)) t int_type b.0 (rested place (value_code dev x) (value_code dev y) stack (val x) (val y) (val (binary Rest x y))
        (both place (value_code dev x) (value_code dev y) Mod stack (val x) (val y) int_type stands (λ s. expression-pushes x int_type b.1 (first-named x y names) fits.0 place stack s) (λ z s. expression-pushes y int_type b.2 (second-named x y names) fits.1 (place + length (value_code dev x)) (z ∷ stack) s))
        refl fits.2)
    expression-pushes (binary Apply (variable f) a) t b names fits place stack stands =
        subst (Pushed place (value_code dev (binary Apply (variable f) a)) stack (val (binary Apply (variable f) a))) b.2
        (element-pushes f a b.0 b.1 (names f (or-left (nat_eq f f) (occurs f a) (nat_eq-self f))) fits.2 place (value_code dev a) stack stands
        (expression-pushes a (index_type b.0.domain) b.3 (second-named (variable f) a names) fits.1 place stack (stands-first image place (value_code dev a) (load_element dev f (row_of (arrays_of dev) f)) stands)))
    expression-pushes f t b names fits place stack stands = absurd b

    pub condition-passes : (f : Formula) → IsTypedCondition dev f → IsNamed f → Fits find (at_state dev.table e) (arrays_of dev) f → (place : ℕ) (stack : List ℤ) → Stands image place (value_code dev f) → Passes image L place (value_code dev f) stack m (truth_number (holds find dev.table e f) ∷ stack) m
    condition-passes (binary Equals x y) b names fits place stack stands =
        let w = both place (value_code dev x) (value_code dev y) Eq stack (val x) (val y) b.0 stands (λ s. expression-pushes x b.0 b.1 (first-named x y names) fits.0 place stack s) (λ z s. expression-pushes y b.0 b.2 (second-named x y names) fits.1 (place + length (value_code dev x)) (z ∷ stack) s) in
        same-truth place (value_code dev (binary Equals x y)) stack (is_equal (val x) (val y)) (int_eq w.first w.second) ((λ i. is_equal (w.is_first i) (w.is_second i)) ∙ same-numbers dev b.0 w.first w.second w.kind_first w.kind_second)
        (w.then (truth_number (int_eq w.first w.second)) (λ at. refl))
    condition-passes (binary Below x y) b names fits place stack stands =
        let w = both place (value_code dev x) (value_code dev y) Lt stack (val x) (val y) int_type stands (λ s. expression-pushes x int_type b.0 (first-named x y names) fits.0 place stack s) (λ z s. expression-pushes y int_type b.1 (second-named x y names) fits.1 (place + length (value_code dev x)) (z ∷ stack) s) in
        same-truth place (value_code dev (binary Below x y)) stack (int_lt (number_in (val x)) (number_in (val y))) (int_lt w.first w.second) (λ i. int_lt (number_in (w.is_first i)) (number_in (w.is_second i)))
        (w.then (truth_number (int_lt w.first w.second)) (λ at. refl))
    condition-passes (binary AtMost x y) b names fits place stack stands =
        let w = both place (value_code dev x) (value_code dev y) Le stack (val x) (val y) int_type stands (λ s. expression-pushes x int_type b.0 (first-named x y names) fits.0 place stack s) (λ z s. expression-pushes y int_type b.1 (second-named x y names) fits.1 (place + length (value_code dev x)) (z ∷ stack) s) in
        same-truth place (value_code dev (binary AtMost x y)) stack (int_le (number_in (val x)) (number_in (val y))) (int_le w.first w.second) (λ i. int_le (number_in (w.is_first i)) (number_in (w.is_second i)))
        (w.then (truth_number (int_le w.first w.second)) (λ at. refl))
    condition-passes (unary Not p) b names fits place stack stands =
        let h = holds find dev.table e p in
        pass-one image L place (value_code dev p) Invert stack (truth_number h ∷ stack) (truth_number (not h) ∷ stack) m m m stands
        (condition-passes p b names fits place stack (stands-first image place (value_code dev p) (Invert ∷ []) stands))
        (λ at. ap (λ x. GoesOn (here (at + 1) (truth_number x ∷ stack) m)) (truth-zero h))
    condition-passes (binary And p q) b names fits place stack stands =
        let code = value_code dev q in
        let fork = fork_code code (Push (pos 0) ∷ []) in
        let h = holds find dev.table e p in
        let g = holds find dev.table e q in
        same-passes place (value_code dev (binary And p q)) (value_code dev p ++ fork) stack (truth_number (h && g) ∷ stack) (append_assoc (value_code dev p) (JumpZero (pos (length code + 2)) ∷ code) (Jump (pos 2) ∷ Push (pos 0) ∷ []))
        (λ w. pass-then image L place (value_code dev p) fork stack (truth_number h ∷ stack) (truth_number (h && g) ∷ stack) m m m
        (condition-passes p b.0 (first-named p q names) fits.0 place stack (stands-first image place (value_code dev p) fork w))
        (pass-fork image L (place + length (value_code dev p)) code (Push (pos 0) ∷ []) stack (truth_number (h && g) ∷ stack) m m h (stands-second image place (value_code dev p) fork w)
        (λ k s. same-truth (place + length (value_code dev p) + 1) code stack (h && g) g (ap (λ x. x && g) k) (condition-passes q b.1 (second-named p q names) (fits.1 k) (place + length (value_code dev p) + 1) stack s))
        (λ k s. same-truth (place + length (value_code dev p) + (length code + 2)) (Push (pos 0) ∷ []) stack (h && g) false (ap (λ x. x && g) k) (pass-number image L (pos 0) (place + length (value_code dev p) + (length code + 2)) stack m s)))) stands
    condition-passes (binary Or p q) b names fits place stack stands =
        let code = value_code dev q in
        let fork = fork_code (Push (pos 1) ∷ []) code in
        let h = holds find dev.table e p in
        let g = holds find dev.table e q in
        same-passes place (value_code dev (binary Or p q)) (value_code dev p ++ fork) stack (truth_number (h || g) ∷ stack) refl
        (λ w. pass-then image L place (value_code dev p) fork stack (truth_number h ∷ stack) (truth_number (h || g) ∷ stack) m m m
        (condition-passes p b.0 (first-named p q names) fits.0 place stack (stands-first image place (value_code dev p) fork w))
        (pass-fork image L (place + length (value_code dev p)) (Push (pos 1) ∷ []) code stack (truth_number (h || g) ∷ stack) m m h (stands-second image place (value_code dev p) fork w)
        (λ k s. same-truth (place + length (value_code dev p) + 1) (Push (pos 1) ∷ []) stack (h || g) true (ap (λ x. x || g) k) (pass-number image L (pos 1) (place + length (value_code dev p) + 1) stack m s))
        (λ k s. same-truth (place + length (value_code dev p) + (length (Push (pos 1) ∷ []) + 2)) code stack (h || g) g (ap (λ x. x || g) k) (condition-passes q b.1 (second-named p q names) (fits.1 k) (place + length (value_code dev p) + (length (Push (pos 1) ∷ []) + 2)) stack s)))) stands
    condition-passes f b names fits place stack stands = absurd b
