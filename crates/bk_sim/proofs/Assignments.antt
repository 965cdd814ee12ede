-- The code of an assignment leaves cells that show the state after it.
use Rattle.std.proofs.Common.{◌≡◌, inl, inr, ◌<◌, ◌≤◌, ℕ, zero, suc, ◌+◌, ℤ, pos, ◌+ℤ◌, ◌-ℤ◌, int_le, List, [], ◌∷◌, ◌++◌, length, drop, refl, sym, ◌∙◌, ap, subst, Bool, true, false, not, ◌||◌, ◌&&◌, cond, nat_eq, arith, Some, None, Option}
use Rattle.std.specs.Prelude.{slice_get, slice_index_or, slice_set}
use Rattle.std.proofs.lemmas.Bool.{lt-ltb}
use Rattle.std.proofs.lemmas.Bool.Decides.{nat_tests}
use Rattle.std.proofs.lemmas.List.{get_or-drop, drop-set-add, get_or-set_other, get_or-set_same}
use Rattle.bk_val.specs.Value.{MathValue, int, pair}
use Rattle.bk_val.specs.ValueType.{ValueType}
use Rattle.bk_val.specs.Sets.{overridden_of}
use Rattle.bk_form.specs.Formula.{Formula, variable, literal, truth_value, element, named, unary, binary}
use Rattle.bk_form.specs.ArrayTable.{row_of}
use Rattle.bk_form.specs.Search.{Finder}
use Rattle.bk_form.specs.Environment.{State, at_state}
use Rattle.bk_form.specs.Replacement.{occurs}
use Rattle.bk_form.specs.Operators.{number_in, elements, set_value, interval, pairs_of}
use Rattle.bk_form.specs.Defined.{Fits, is_in_indices}
use Rattle.bk_form.specs.declared.operator.UnOp.TheVariants.{Single}
use Rattle.bk_form.specs.declared.operator.BinOp.TheVariants.{Times, Over as Overridden, Maps, Range}
use Rattle.bk_form.specs.declared.operator.Domain.TheVariants.{Bool as Booleans, Enum}
use Rattle.bk_form.specs.declared.arrays.ArrayRow.{ArrayRow}
use Rattle.bk_form.specs.declared.arrays.ArrayDomain.{ArrayDomain}
use Rattle.bk_form.specs.declared.arrays.ArrayDomain.TheVariants.{Interval, Bool as OfBooleans, Set as OfElements}
use Rattle.bk_form.proofs.Members.{or-left, or-right, and-both, and-true}
use Rattle.bk_gsl.specs.State.{value_at, declared_type}
use Rattle.bk_gsl.specs.Run.{assigned}
use Rattle.bk_gsl.specs.Clean.{IsCleanAt, IsCleanWrite, write_of, AreCleanTerms}
use Rattle.bk_gsl.proofs.States.{nat_eq-same, nat_eq-self}
use Rattle.bk_dev.specs.Development.{Development, int_max}
use Rattle.bk_dev.specs.Facts.{AssignsIn}
use Rattle.bk_dev.specs.Layout.{arrays_of, cells_of, cell_variables, cell_of, index_count, literal_of, constant_bound, bound_of, interval_of, indices_of}
use Rattle.bk_code.specs.declared.image.Image.{Image}
use Rattle.bk_code.specs.declared.instruction.Inst.{Inst}
use Rattle.bk_code.specs.declared.instruction.Inst.TheVariants.{Store, AStore}
use Rattle.bk_code.specs.Numbers.{int_max as code_max}
use Rattle.bk_code.specs.Step.{GoesOn, stored, row, element_cell, is_index}
use Rattle.bk_b0.specs.Kinds.{literal_number, number_as, as_number, is_of_kind, cell_type, literal_value, index_type}
use Rattle.bk_b0.specs.Places.{least_index, fill}
use Rattle.bk_b0.specs.Translation.{store_element, value_code, array_code, store_code, assign_code}
use Rattle.bk_sim.specs.Shown.{paired, indices, shown, seen_by, seen, ShownIn, KindsHold}
use Rattle.bk_b0.specs.Cells.{IsKnown, IsCell, ValuesHaveKinds, ArraysHaveCells}
use Rattle.bk_b0.proofs.TypedB0.{IsPlainValue, IsTypedExpression, IsTypedTerm, IsTypedAssignment}
use Rattle.bk_b0.proofs.Numbers.{number-back}
use Rattle.bk_sim.proofs.CellKinds.{inside, kinds-set}
use Rattle.bk_sim.specs.Placed.{Stands}
use Rattle.bk_sim.proofs.Steps.{Passes, here, stands-first, stands-second, stands-rest, stays-here, goes-at, pass-inst, pass-then, pass-one}
use Rattle.bk_sim.proofs.ArrayValues.{index_at, place-of, place-inside, place-gap, array-written, array-filled}
use Rattle.bk_sim.proofs.Terms.{rest-inside, seen-cell, scalar-cells, scalar-type, scalar-shown, scalar-inside, array-cells, array-shown, expression-pushes}
use Rattle.bk_sim.proofs.Kept.{seen-other, after-set}

-- after the code, the cells show the state after the assignment
pub record Assigned (find : Finder) (dev : Development) (image : Image) (L : Type 0) (scope : ℕ → Bool) (place : ℕ) (code : List Inst) (m : List ℤ) (f : State) : Type 0 where
  pub cells : List ℤ
  pub passes : Passes image L place code [] m [] cells
  pub kinds : KindsHold dev cells
  pub shows : ShownIn dev scope cells f

-- ---- an array's domain
module _ (dev : Development) (m : List ℤ) where
  constant-value : (c : ℕ) (x : ℤ) (ps : List (ℕ × Formula)) → ValuesHaveKinds dev ps → constant_bound c ps ≡ Some x → seen_by dev m c ps ≡ int x
  constant-value c x [] have h = absurd (cc)
  constant-value c x (p ∷ ps) have h = by_test (nat_eq c p.0) refl (constant-value c x ps have.2) h
    where
      by_literal : (f : Formula) → literal_of f ≡ Some x → literal_value f ≡ int x
      by_literal (literal z) k = cc
      by_literal _ k = absurd (cc)

      by_test : (b : Bool) → nat_eq c p.0 ≡ b → (constant_bound c ps ≡ Some x → seen_by dev m c ps ≡ int x) → cond b (literal_of p.1) (constant_bound c ps) ≡ Some x → cond b (number_as (declared_type dev.table c) (literal_number p.1)) (seen_by dev m c ps) ≡ int x
      by_test true k rest q = ap (λ n. number_as (declared_type dev.table n) (literal_number p.1)) (nat_eq-same c p.0 k) ∙ sym have.1 ∙ by_literal p.1 q
      by_test false k rest q = rest q

module _ (find : Finder) (dev : Development) (constants : ValuesHaveKinds dev dev.values) (scope : ℕ → Bool) (m : List ℤ) (e : State) (shows : ShownIn dev scope m e) where
  abbrev value : Formula → MathValue
  value f = value_at find dev.table e f

  abbrev AreNamed : Formula → Type 0
  AreNamed f = (n : ℕ) → occurs n f ≡ true → scope n ≡ true

  bound-value : (f : Formula) (x : ℤ) → AreNamed f → bound_of dev.values f ≡ Some x → value f ≡ int x
  bound-value (literal z) x names h = cc
  bound-value (variable c) x names h = shows c (names c (nat_eq-self c)) ∙ constant-value dev m c x dev.values constants h
  bound-value _ x names h = absurd (cc)

  interval-value : (a b : Formula) (d : ArrayDomain) → AreNamed a → AreNamed b → (o q : Option ℤ) → bound_of dev.values a ≡ o → bound_of dev.values b ≡ q → interval_of (int_max dev) o q ≡ Some d → interval (number_in (value a)) (number_in (value b)) ≡ set_value (indices dev d)
  interval-value a b d na nb (Some x) (Some y) h k is = by_test (int_le (pos 0 -ℤ int_max dev) x && int_le x y && int_le y (int_max dev)) is
    where
      by_test : (t : Bool) → cond t (Some (Interval x y)) None ≡ Some d → interval (number_in (value a)) (number_in (value b)) ≡ set_value (indices dev d)
      by_test true q = let same : Interval x y ≡ d = cc in (λ i. interval (number_in (bound-value a x na h i)) (number_in (bound-value b y nb k i))) ∙ ap (λ w. set_value (indices dev w)) same
      by_test false q = absurd (cc)
  interval-value a b d na nb None q h k is = absurd (cc)
  interval-value a b d na nb (Some x) None h k is = absurd (cc)

  pub domain-value : (f : Formula) (d : ArrayDomain) → AreNamed f → indices_of (int_max dev) dev.values f ≡ Some d → value f ≡ set_value (indices dev d)
  domain-value (binary Range a b) d names h = interval-value a b d (λ n k. names n (or-left (occurs n a) (occurs n b) k)) (λ n k. names n (or-right (occurs n a) (occurs n b) k)) (bound_of dev.values a) (bound_of dev.values b) refl refl h
  domain-value (named Booleans) d names h = let same : OfBooleans ≡ d = cc in ap (λ w. set_value (indices dev w)) same
  domain-value (named (Enum n)) d names h = let same : OfElements n ≡ d = cc in ap (λ w. set_value (indices dev w)) same
  domain-value _ d names h = absurd (cc)

module _ (find : Finder) (dev : Development) (image : Image) (most : code_max image ≡ int_max dev) (constants : ValuesHaveKinds dev dev.values) (arrays_there : ArraysHaveCells dev)
    (scope : ℕ → Bool) (known : (x : ℕ) → scope x ≡ true → IsKnown dev x) (L : Type 0) where
  abbrev IsNamed : Formula → Type 0
  IsNamed f = (n : ℕ) → occurs n f ≡ true → scope n ≡ true

  store-row : (slot : ℕ) (z : ℤ) (at : ℕ) (stack m : List ℤ) → slot < length m → stored at stack m slot z ≡ GoesOn (here at stack (slice_set m slot z))
  store-row slot z at stack m h = rw (lt-ltb slot (length m) h) refl

  module _ (m : List ℤ) (kinds : KindsHold dev m) (e : State) (shows : ShownIn dev scope m e) where
    abbrev val : Formula → MathValue
    val f = value_at find dev.table e f

    abbrev Done : ℕ → List Inst → ℕ → Formula → Type 0
    Done place code x f = Assigned find dev image L scope place code m (assigned find dev.table ((x, f) ∷ []) e)

    -- x := E
    scalar-assigned : (x : ℕ) (f : Formula) → IsCell dev x → row_of (arrays_of dev) x ≡ None → IsTypedExpression dev (declared_type dev.table x) f → IsNamed f → Fits find (at_state dev.table e) (arrays_of dev) f → (place : ℕ) → Stands image place (value_code dev f ++ Store (cell_of dev x) ∷ []) → Done place (value_code dev f ++ Store (cell_of dev x) ∷ []) x f
    scalar-assigned x f cell plain b names fits place stands =
        let t = declared_type dev.table x in
        let p = expression-pushes find dev image most constants arrays_there scope known m kinds e shows L f t b names fits place [] (stands-first image place (value_code dev f) (Store (cell_of dev x) ∷ []) stands) in
        let z = p.number in
        let low : 0 < cells_of dev x = omega (arith, scalar-cells dev x plain) in
        let none : cell_of dev x + 0 ≡ cell_of dev x = omega arith in
        let l = slice_set m (cell_of dev x) z in
        let long = scalar-inside dev x plain m kinds cell.1 in
        let new : val f ≡ shown dev l x = p.is ∙ sym (scalar-shown dev x plain l ∙ ap (number_as t) (get_or-set_same m (cell_of dev x) z (pos 0) long)) in
        record {
          cells = l;
          passes = pass-one image L place (value_code dev f) (Store (cell_of dev x)) [] (z ∷ []) [] m m l stands p.passes (λ at. store-row (cell_of dev x) z (at + 1) [] m long);
          kinds = subst (λ c. KindsHold dev (slice_set m c z)) none (kinds-set dev x (cell_variables dev) m kinds cell.1 0 low z (subst (λ u. is_of_kind dev u z ≡ true) (sym (scalar-type dev x plain)) p.kind));
          shows = after-set find dev scope x f cell e l (λ n h s. shows n s ∙ sym (subst (λ c. seen dev (slice_set m c z) n ≡ seen dev m n) none (seen-other dev x cell m 0 low z n h))) new;
        }

    -- f(i) := v
    element-assigned : (x : ℕ) (r : ArrayRow) (i v : Formula) → IsCell dev x → row_of (arrays_of dev) x ≡ Some r → scope x ≡ true → IsTypedExpression dev (index_type r.domain) i → IsTypedExpression dev (cell_type dev x) v → IsNamed i → IsNamed v →
        Fits find (at_state dev.table e) (arrays_of dev) i → is_in_indices r.domain (val i) ≡ true → Fits find (at_state dev.table e) (arrays_of dev) v → (place : ℕ) → Stands image place (value_code dev i ++ value_code dev v ++ store_element dev x r) →
        Done place (value_code dev i ++ value_code dev v ++ store_element dev x r) x (binary Overridden (variable x) (unary Single (binary Maps i v)))
    element-assigned x r i v cell found s bi bv ni nv fi inside_it fv place stands =
        let d = r.domain in
        let t = cell_type dev x in
        let c = cell_of dev x in
        let ci = value_code dev i in
        let cv = value_code dev v in
        let inst = AStore c (least_index d) (cells_of dev x) in
        let front = stands-first image place (ci ++ cv) (inst ∷ []) stands in
        let p = expression-pushes find dev image most constants arrays_there scope known m kinds e shows L i (index_type d) bi ni fi place [] (stands-first image place ci cv front) in
        let q = expression-pushes find dev image most constants arrays_there scope known m kinds e shows L v t bv nv fv (place + length ci) (p.number ∷ []) (stands-second image place ci cv front) in
        let z = q.number in
        let pl = place-of dev d p.number p.kind (subst (λ w. is_in_indices d w ≡ true) p.is inside_it) in
        let k = pl.place in
        let low : k < cells_of dev x = subst (λ n. k < n) (sym (array-cells dev x r found)) pl.low in
        let long : c + k < length m = inside dev x (cell_variables dev) m kinds cell.1 k low in
        let l = slice_set m (c + k) z in
        let old : e x ≡ set_value (paired t (indices dev d) (drop c m)) = shows x s ∙ seen-cell dev x m dev.values cell.0 ∙ array-shown dev x r found m in
        let index : val i ≡ index_at d k = p.is ∙ ap (number_as (index_type d)) pl.is in
        let new : val (binary Overridden (variable x) (unary Single (binary Maps i v))) ≡ shown dev l x =
        (λ j. set_value (overridden_of (elements (old j)) (elements (set_value (pair (index j) (q.is j) ∷ []))))) ∙
        array-written dev d t (drop c m) k z pl.low (rest-inside c m k long) ∙
        ap (λ rest. set_value (paired t (indices dev d) rest)) (sym (drop-set-add c m k z)) ∙ sym (array-shown dev x r found l) in
        record {
          cells = l;
          passes = pass-one image L place (ci ++ cv) inst [] (z ∷ p.number ∷ []) [] m m l stands
              (pass-then image L place ci cv [] (p.number ∷ []) (z ∷ p.number ∷ []) m m m p.passes q.passes)
              (λ at. write-row c (cells_of dev x) k (least_index d) p.number z at pl.is low long);
          kinds = kinds-set dev x (cell_variables dev) m kinds cell.1 k low z q.kind;
          shows = after-set find dev scope x (binary Overridden (variable x) (unary Single (binary Maps i v))) cell e l (λ n h w. shows n w ∙ sym (seen-other dev x cell m k low z n h)) new;
        }
      where
        write-row : (base count k : ℕ) (least n z : ℤ) (at : ℕ) → n ≡ least +ℤ pos k → k < count → base + k < length m → row (code_max image) (AStore base least count) at (z ∷ n ∷ []) m ≡ GoesOn (here (at + 1) [] (slice_set m (base + k) z))
        write-row base count k least n z at is l long =
            let fine : is_index least count n ≡ true = subst (λ y. is_index least count y ≡ true) (sym is) (place-inside least count k l) in
            let there : element_cell base least n ≡ base + k = ap (element_cell base least) is ∙ ap (λ y. base + y) (place-gap least k) in
            rw fine (ap (λ y. stored (at + 1) [] m y z) there ∙ store-row (base + k) z (at + 1) [] m long)

    -- ---- fills
    -- the names other than the array
    abbrev beside : ℕ → ℕ → Bool
    beside x n = not (nat_eq n x) && scope n

    -- what is left after the stores from the j-th cell on
    record Filled (x : ℕ) (z : ℤ) (j : ℕ) (place : ℕ) (code : List Inst) (l : List ℤ) : Type 0 where
      after : List ℤ
      passes : Passes image L place code [] l [] after
      held : KindsHold dev after
      seen_beside : ShownIn dev (beside x) after e
      below : (k : ℕ) → k < j → slice_index_or after (cell_of dev x + k) (pos 0) ≡ slice_index_or l (cell_of dev x + k) (pos 0)
      above : (k : ℕ) → j ≤ k → k < cells_of dev x → slice_index_or after (cell_of dev x + k) (pos 0) ≡ z

    module _ (x : ℕ) (cell : IsCell dev x) (v : Formula) (bv : IsTypedExpression dev (cell_type dev x) v) (nv : (n : ℕ) → occurs n v ≡ true → beside x n ≡ true) (fv : Fits find (at_state dev.table e) (arrays_of dev) v) where
      beside-known : (n : ℕ) → beside x n ≡ true → IsKnown dev n
      beside-known n h = known n (and-both (not (nat_eq n x)) (scope n) h).1

      beside-other : (n : ℕ) → beside x n ≡ true → nat_eq n x ≡ false
      beside-other n h = by_test (nat_eq n x) (and-both (not (nat_eq n x)) (scope n) h).0
        where
          by_test : (b : Bool) → not b ≡ true → b ≡ false
          by_test true k = absurd (cc)
          by_test false k = refl

      abbrev z : ℤ
      z = as_number (val v)

      fill-passes : (n j : ℕ) → j + n ≡ cells_of dev x → (c : ℕ) → c ≡ cell_of dev x + j → (l : List ℤ) → KindsHold dev l → ShownIn dev (beside x) l e → (place : ℕ) → Stands image place (fill (value_code dev v) c n) → Filled x z j place (fill (value_code dev v) c n) l
      fill-passes zero j sum c at l ks sh place stands = record {
        after = l;
        passes = let same : place ≡ place + 0 = omega arith in goes-at image L 0 place (place + 0) (here place [] l) [] l same (stays-here image L 0 (here place [] l));
        held = ks;
        seen_beside = sh;
        below = λ k h. refl;
        above = λ k h h'. absurd (omega (arith, sum, h, h'));
      }
      fill-passes (suc n) j sum c at l ks sh place stands =
          let t = cell_type dev x in
          let code = value_code dev v in
          let tail = fill code (c + 1) n in
          let p = expression-pushes find dev image most constants arrays_there (beside x) beside-known l ks e sh L v t bv nv fv place [] (stands-first image place code (Store c ∷ tail) stands) in
          let w = p.number in
          let is : z ≡ w = ap as_number p.is ∙ number-back dev t w p.kind in
          let low : j < cells_of dev x = omega (arith, sum) in
          let next = slice_set l (cell_of dev x + j) w in
          let long : cell_of dev x + j < length l = inside dev x (cell_variables dev) l ks cell.1 j low in
          let long_c : c < length l = omega (arith, at, long) in
          let behind = stands-second image place code (Store c ∷ tail) stands in
          let there = place + length code in
          let store : Passes image L there (Store c ∷ []) (w ∷ []) l [] next =
          pass-inst image L there (Store c) (w ∷ []) [] l next (stands-first image there (Store c ∷ []) tail behind)
          (store-row c w (there + 1) [] l long_c ∙ ap (λ y. GoesOn (here (there + 1) [] (slice_set l y w))) at) in
          let rest = fill-passes n (suc j) (omega (arith, sum)) (c + 1) (omega (arith, at)) next (kinds-set dev x (cell_variables dev) l ks cell.1 j low w p.kind)
          (λ y h. sh y h ∙ sym (seen-other dev x cell l j low w y (beside-other y h))) (there + 1) (stands-rest image there (Store c) tail behind) in
          record {
            after = rest.after;
            passes = pass-then image L place code (Store c ∷ tail) [] (w ∷ []) [] l l rest.after p.passes
                (pass-then image L there (Store c ∷ []) tail (w ∷ []) [] [] l next rest.after store rest.passes);
            held = rest.held;
            seen_beside = rest.seen_beside;
            below = λ k h. rest.below k (omega (arith, h)) ∙ get_or-set_other l (cell_of dev x + j) (cell_of dev x + k) w (pos 0) (λ same. absurd (omega (arith, same, h)));
            above = λ k h h'. by_place k h h' (nat_eq k j) refl rest.after l w rest.below rest.above is long;
          }
        where
          by_place : (k : ℕ) → j ≤ k → k < cells_of dev x → (b : Bool) → nat_eq k j ≡ b → (after l : List ℤ) (w : ℤ) → ((i : ℕ) → i < suc j → slice_index_or after (cell_of dev x + i) (pos 0) ≡ slice_index_or (slice_set l (cell_of dev x + j) w) (cell_of dev x + i) (pos 0)) →
              ((i : ℕ) → suc j ≤ i → i < cells_of dev x → slice_index_or after (cell_of dev x + i) (pos 0) ≡ z) → z ≡ w → cell_of dev x + j < length l → slice_index_or after (cell_of dev x + k) (pos 0) ≡ z
          by_place k h h' true e after l w below above is long =
              let same = nat_eq-same k j e in
              ap (λ i. slice_index_or after (cell_of dev x + i) (pos 0)) same ∙ below j (omega arith) ∙ get_or-set_same l (cell_of dev x + j) w (pos 0) long ∙ sym is
          by_place k h h' false e after l w below above is long = above k (grind (arith, nat_tests)) h'

      -- f := D * {v}
      fill-assigned : (r : ArrayRow) (domain : Formula) → row_of (arrays_of dev) x ≡ Some r → IsNamed domain → indices_of (int_max dev) dev.values domain ≡ Some r.domain → (place : ℕ) → Stands image place (fill (value_code dev v) (cell_of dev x) (cells_of dev x)) →
          Done place (fill (value_code dev v) (cell_of dev x) (cells_of dev x)) x (binary Times domain (unary Single v))
      fill-assigned r domain found nd is place stands =
          let t = cell_type dev x in
          let d = r.domain in
          let c = cell_of dev x in
          let start : c ≡ c + 0 = omega arith in
          let w = fill-passes (cells_of dev x) 0 (omega arith) c start m kinds (λ n h. shows n (and-both (not (nat_eq n x)) (scope n) h).1) place stands in
          let l = w.after in
          let p = expression-value in
          let long : index_count dev.table d ≤ length (drop c l) = rest-long (drop c l) (index_count dev.table d) (λ k h. rest-inside c l k (inside dev x (cell_variables dev) l w.held cell.1 k (subst (λ n. k < n) (sym (array-cells dev x r found)) h))) in
          let every : (k : ℕ) → k < index_count dev.table d → slice_index_or (drop c l) k (pos 0) ≡ z =
          λ k h. get_or-drop c l k (pos 0) ∙ w.above k (omega arith) (subst (λ n. k < n) (sym (array-cells dev x r found)) h) in
          let new : val (binary Times domain (unary Single v)) ≡ shown dev l x =
          (λ j. set_value (pairs_of (elements (domain-value find dev constants scope m e shows domain d nd is j)) (elements (set_value (p j ∷ []))))) ∙
          array-filled dev d t (drop c l) z long every ∙ sym (array-shown dev x r found l) in
          record {
            cells = l;
            passes = w.passes;
            kinds = w.held;
            shows = after-set find dev scope x (binary Times domain (unary Single v)) cell e l (λ n h s. w.seen_beside n (and-true (not (nat_eq n x)) (scope n) (ap not h) s)) new;
          }
        where
          rest-long : (ys : List ℤ) (n : ℕ) → ((k : ℕ) → k < n → k < length ys) → n ≤ length ys
          rest-long ys zero h = omega arith
          rest-long ys (suc n) h = let top : n < length ys = h n (omega arith) in omega (arith, top)

          -- the value as any image with the code would push it
          expression-value : val v ≡ number_as (cell_type dev x) z
          expression-value =
              let code = value_code dev v in
              let alone : Image = record image { code = code } in
              let stands_alone : Stands alone 0 code = record { at = λ i inst h. let same : 0 + i ≡ i = omega arith in ap (slice_get code) same ∙ h } in
              let p = expression-pushes find dev alone most constants arrays_there scope known m kinds e shows L v (cell_type dev x) bv (λ n h. (and-both (not (nat_eq n x)) (scope n) (nv n h)).1) fv 0 [] stands_alone in
              p.is ∙ ap (number_as (cell_type dev x)) (sym (ap as_number p.is ∙ number-back dev (cell_type dev x) p.number p.kind))

    -- ---- any assignment
    plain-beside : (x : ℕ) (r : ArrayRow) (t : ValueType) → row_of (arrays_of dev) x ≡ Some r → (v : Formula) → IsPlainValue v → IsTypedExpression dev t v → IsNamed v → (n : ℕ) → occurs n v ≡ true → beside x n ≡ true
    plain-beside x r t found (variable y) plain b names n h = by_test (nat_eq n x) refl
      where
        by_test : (c : Bool) → nat_eq n x ≡ c → not c && scope n ≡ true
        by_test true k =
            let same : y ≡ x = nat_eq-same y n h ∙ nat_eq-same n x k in
            let clash_rows : None ≡ Some r = sym b.0 ∙ ap (row_of (arrays_of dev)) same ∙ found in
            absurd (cc)
        by_test false k = names n h
    plain-beside x r t found (literal z) plain b names n h = absurd (cc)
    plain-beside x r t found (truth_value z) plain b names n h = absurd (cc)
    plain-beside x r t found (element s i) plain b names n h = absurd (cc)
    plain-beside x r t found _ plain b names n h = absurd plain

    array-assigned : (x : ℕ) (r : ArrayRow) (f : Formula) → IsCell dev x → row_of (arrays_of dev) x ≡ Some r → scope x ≡ true → IsTypedTerm dev x (Some r) f → IsNamed f → IsCleanWrite find dev.table (arrays_of dev) r e (write_of x f) f → (place : ℕ) → Stands image place (array_code dev x r (write_of x f) f) → Done place (array_code dev x r (write_of x f) f) x f
    array-assigned x r f cell found s (inl w) names clean place stands =
        let i = w.index in
        let v = w.value in
        let g = binary Overridden (variable x) (unary Single (binary Maps i v)) in
        let own : write_of x g ≡ Some (i, v) = ap (λ b. cond b (Some (i, v)) None) (nat_eq-self x) in
        let whole : (n : ℕ) → nat_eq x n || (occurs n i || occurs n v) ≡ true → scope n ≡ true = subst IsNamed w.is names in
        let fits : IsCleanWrite find dev.table (arrays_of dev) r e (Some (i, v)) g = subst (λ o. IsCleanWrite find dev.table (arrays_of dev) r e o g) own (subst (λ h. IsCleanWrite find dev.table (arrays_of dev) r e (write_of x h) h) w.is clean) in
        let there : Stands image place (array_code dev x r (Some (i, v)) g) = subst (λ o. Stands image place (array_code dev x r o g)) own (subst (λ h. Stands image place (array_code dev x r (write_of x h) h)) w.is stands) in
        subst (λ h. Done place (array_code dev x r (write_of x h) h) x h) (sym w.is) (subst (λ o. Done place (array_code dev x r o g) x g) (sym own)
        (element-assigned x r i v cell found s w.is_index w.is_value (λ n h. whole n (or-right (nat_eq x n) (occurs n i || occurs n v) (or-left (occurs n i) (occurs n v) h))) (λ n h. whole n (or-right (nat_eq x n) (occurs n i || occurs n v) (or-right (occurs n i) (occurs n v) h))) fits.0 fits.1 fits.2 place there))
    array-assigned x r f cell found s (inr w) names clean place stands =
        let d = w.domain in
        let v = w.value in
        let g = binary Times d (unary Single v) in
        let whole : (n : ℕ) → occurs n d || occurs n v ≡ true → scope n ≡ true = subst IsNamed w.is names in
        let fits : IsCleanWrite find dev.table (arrays_of dev) r e None g = subst (λ h. IsCleanWrite find dev.table (arrays_of dev) r e (write_of x h) h) w.is clean in
        let there : Stands image place (fill (value_code dev v) (cell_of dev x) (cells_of dev x)) = subst (λ h. Stands image place (array_code dev x r (write_of x h) h)) w.is stands in
        subst (λ h. Done place (array_code dev x r (write_of x h) h) x h) (sym w.is)
        (fill-assigned x cell v w.is_value (plain-beside x r (cell_type dev x) found v w.plain w.is_value (λ n h. whole n (or-right (occurs n d) (occurs n v) h))) fits.1 r d found (λ n h. whole n (or-left (occurs n d) (occurs n v) h)) w.is_domain place there)

    pub assigned-shown : (above writable : ℕ → Bool) (ps : List (ℕ × Formula)) → AssignsIn scope writable ps → ((n : ℕ) → writable n ≡ true → IsCell dev n × (scope n ≡ true)) → IsTypedAssignment dev ps → AreCleanTerms find dev.table (Some (arrays_of dev)) e ps → (place : ℕ) → Stands image place (assign_code dev ps) → Assigned find dev image L scope place (assign_code dev ps) m (assigned find dev.table ps e)
    assigned-shown above writable [] ins cells b clean place stands = absurd b
    assigned-shown above writable (p ∷ q ∷ ps) ins cells b clean place stands = absurd b
    assigned-shown above writable (p ∷ []) ins cells b clean place stands =
        let w = cells p.0 ins.0 in
        by_row (row_of (arrays_of dev) p.0) refl w.0 w.1 ins.1.visible_only b clean.0 stands
      where
        by_row : (o : Option ArrayRow) → row_of (arrays_of dev) p.0 ≡ o → IsCell dev p.0 → scope p.0 ≡ true → IsNamed p.1 → IsTypedTerm dev p.0 o p.1 → IsCleanAt find dev.table (arrays_of dev) o e p.0 p.1 → Stands image place (store_code dev p.0 o p.1) → Done place (store_code dev p.0 o p.1) p.0 p.1
        by_row None h cell s names b clean stands = scalar-assigned p.0 p.1 cell h b names clean place stands
        by_row (Some r) h cell s names b clean stands = array-assigned p.0 r p.1 cell h s b names clean place stands
