-- What a formula means turns only on the bound numbers that stand in it.
use Rattle.std.proofs.Common.{◌≡◌, ℕ, zero, suc, ◌+◌, ◌<◌, List, [], ◌∷◌, length, refl, ap, subst, arith, ◌||◌, true, map}
use Rattle.std.specs.Prelude.{slice_get}
use Rattle.bk_val.specs.Value.{MathValue}
use Rattle.bk_val.specs.ValueType.{ValueType, base_of, are_of_types}
use Rattle.bk_form.specs.Table.{set_size, Table, variable_type}
use Rattle.bk_form.specs.Formula.{Formula, bound, unary, binary, for_all, for_some, comprehension, lambda, Formulas, no_formulas, formula_and, variable}
use Rattle.bk_form.specs.Search.{Finder}
use Rattle.bk_form.specs.Environment.{Environment, Binding, bindings, State, at_state, under}
use Rattle.bk_form.specs.Role.{bind, given_by}
use Rattle.bk_form.specs.Replacement.{count, IsClosed, AreClosed, any_occurs, occurs}
use Rattle.bk_form.specs.Meaning.{meaning, meanings, bound_meaning, unary_meaning, binary_meaning, all_meaning, some_meaning, comprehension_meaning, lambda_meaning, range_types, of_value}
use Rattle.bk_form.proofs.Members.{nat_eq-self, or-left, or-right}
use Rattle.bk_form.specs.ArrayTable.{ArrayTable}
use Rattle.bk_form.specs.Operators.{choices}
use Rattle.bk_form.specs.Defined.{Defined, AreDefined, Fits, LeftToRight, IsChoice, unary_inside, binary_inside, binary_fits}

-- the innermost n bound numbers stand for the same
pub record Agree (n : ℕ) (a b : List Binding) : Type 0 where
  pub same : (i : ℕ) → i < n → slice_get a i ≡ slice_get b i

pub Agree-cons : {n : ℕ} {a b : List Binding} (x : Binding) → Agree n a b → Agree (suc n) (x ∷ a) (x ∷ b)
Agree-cons {n} {a} {b} x h = record { same = at }
  where
    at : (i : ℕ) → i < suc n → slice_get (x ∷ a) i ≡ slice_get (x ∷ b) i
    at zero p = refl
    at (suc i) p = h.same i (omega arith)

pub Agree-bind : (ts : List ValueType) (vs : List MathValue) {n : ℕ} {a b : List Binding} → Agree n a b → Agree (length ts + n) (bind (bindings ts vs) a) (bind (bindings ts vs) b)
Agree-bind [] vs {n} h = let e : zero + n ≡ n = omega arith in rw e h
Agree-bind (t ∷ ts) [] {n} h = let e : suc (length ts) + n ≡ length ts + suc n = omega arith in rw e (Agree-bind ts [] (Agree-cons (t, base_of t) h))
Agree-bind (t ∷ ts) (v ∷ vs) {n} h = let e : suc (length ts) + n ≡ length ts + suc n = omega arith in rw e (Agree-bind ts vs (Agree-cons (t, v) h))

-- the same, where the types are known by an equation
pub Agree-ranges : (m : ℕ) (ts us : List ValueType) (vs : List MathValue) {n : ℕ} {a b : List Binding} → ts ≡ us → length ts ≡ m → Agree n a b → Agree (m + n) (bind (bindings ts vs) a) (bind (bindings us vs) b)
Agree-ranges m ts us vs {n} {a} {b} e d h = subst (λ x. Agree (m + n) (bind (bindings ts vs) a) (bind (bindings x vs) b)) e (subst (λ k. Agree (k + n) (bind (bindings ts vs) a) (bind (bindings ts vs) b)) d (Agree-bind ts vs h))

pub length-ranges : (find : Finder) (e : Environment) (rs : Formulas) → length (range_types (meanings find e rs)) ≡ count rs
length-ranges find e no_formulas = refl
length-ranges find e (formula_and r rs) = ap suc (length-ranges find e rs)

mutual
  pub meaning-Agree : (find : Finder) (e : Environment) (n : ℕ) (a b : List Binding) (f : Formula) → IsClosed n f → Agree n a b → meaning find (record e { bound = a }) f ≡ meaning find (record e { bound = b }) f
  meaning-Agree find e n a b (bound m) c h = ap (bound_meaning e.table) (h.same m c)
  meaning-Agree find e n a b (unary o f) c h = λ i. unary_meaning o (meaning-Agree find e n a b f c h i)
  meaning-Agree find e n a b (binary o f g) c h = λ i. binary_meaning find (set_size e.table) o (meaning-Agree find e n a b f c.0 h i) (meaning-Agree find e n a b g c.1 h i)
  meaning-Agree find e n a b (for_all ts p) c h = λ i. all_meaning find e.table ts (λ vs. meaning-Agree find e (length ts + n) (bind (bindings ts vs) a) (bind (bindings ts vs) b) p c (Agree-bind ts vs h) i)
  meaning-Agree find e n a b (for_some ts p) c h = λ i. some_meaning find e.table ts (λ vs. meaning-Agree find e (length ts + n) (bind (bindings ts vs) a) (bind (bindings ts vs) b) p c (Agree-bind ts vs h) i)
  meaning-Agree find e n a b (comprehension rs p) c h =
      let r = meanings-Agree find e n a b rs c.0 h in
      let x = range_types (meanings find (record e { bound = a }) rs) in
      let y = range_types (meanings find (record e { bound = b }) rs) in
      let inner = λ (vs : List MathValue). Agree-ranges (count rs) x y vs (ap range_types r) (length-ranges find (record e { bound = a }) rs) h in
      λ i. comprehension_meaning (r i) (λ vs. meaning-Agree find e (count rs + n) (bind (bindings x vs) a) (bind (bindings y vs) b) p c.1 (inner vs) i)
  meaning-Agree find e n a b (lambda rs p v) c h =
      let r = meanings-Agree find e n a b rs c.0 h in
      let x = range_types (meanings find (record e { bound = a }) rs) in
      let y = range_types (meanings find (record e { bound = b }) rs) in
      let inner = λ (vs : List MathValue). Agree-ranges (count rs) x y vs (ap range_types r) (length-ranges find (record e { bound = a }) rs) h in
      λ i. lambda_meaning (r i) (λ vs. meaning-Agree find e (count rs + n) (bind (bindings x vs) a) (bind (bindings y vs) b) p c.1 (inner vs) i) (λ vs. meaning-Agree find e (count rs + n) (bind (bindings x vs) a) (bind (bindings y vs) b) v c.2 (inner vs) i)
  meaning-Agree find e n a b _ c h = refl

  pub meanings-Agree : (find : Finder) (e : Environment) (n : ℕ) (a b : List Binding) (fs : Formulas) → AreClosed n fs → Agree n a b → meanings find (record e { bound = a }) fs ≡ meanings find (record e { bound = b }) fs
  meanings-Agree find e n a b no_formulas c h = refl
  meanings-Agree find e n a b (formula_and f fs) c h = λ i. meaning-Agree find e n a b f c.0 h i ∷ meanings-Agree find e n a b fs c.1 h i

-- with no loose bound number it does not turn on what is bound
pub meaning-closed : (find : Finder) (e : Environment) (a b : List Binding) (f : Formula) → IsClosed 0 f → meaning find (record e { bound = a }) f ≡ meaning find (record e { bound = b }) f
meaning-closed find e a b f c = meaning-Agree find e 0 a b f c (record { same = λ i p. absurd (omega arith) })

-- ---- states that agree on the variables of a formula
module _ (find : Finder) where
  mutual
    pub meaning-agrees : (e : Environment) (w : State) (f : Formula) → ((n : ℕ) → occurs n f ≡ true → w n ≡ e.state n) → meaning find (record e { state = w }) f ≡ meaning find e f
    meaning-agrees e w (variable n) h = ap (of_value (given_by (variable_type e.table n))) (h n (nat_eq-self n))
    meaning-agrees e w (unary o f) h = λ i. unary_meaning o (meaning-agrees e w f h i)
    meaning-agrees e w (binary o f g) h = λ i. binary_meaning find (set_size e.table) o (meaning-agrees e w f (λ n q. h n (or-left (occurs n f) (occurs n g) q)) i) (meaning-agrees e w g (λ n q. h n (or-right (occurs n f) (occurs n g) q)) i)
    meaning-agrees e w (for_all ts p) h = λ i. all_meaning find e.table ts (λ vs. meaning-agrees (under e ts vs) w p h i)
    meaning-agrees e w (for_some ts p) h = λ i. some_meaning find e.table ts (λ vs. meaning-agrees (under e ts vs) w p h i)
    meaning-agrees e w (comprehension rs p) h =
        let r = meanings-agrees e w rs (λ n q. h n (or-left (any_occurs n rs) (occurs n p) q)) in
        λ i. comprehension_meaning (r i) (λ vs. meaning-agrees (under e (range_types (r i)) vs) w p (λ n q. h n (or-right (any_occurs n rs) (occurs n p) q)) i)
    meaning-agrees e w (lambda rs p v) h =
        let r = meanings-agrees e w rs (λ n q. h n (or-left (any_occurs n rs || occurs n p) (occurs n v) (or-left (any_occurs n rs) (occurs n p) q))) in
        λ i. lambda_meaning (r i) (λ vs. meaning-agrees (under e (range_types (r i)) vs) w p (λ n q. h n (or-left (any_occurs n rs || occurs n p) (occurs n v) (or-right (any_occurs n rs) (occurs n p) q))) i) (λ vs. meaning-agrees (under e (range_types (r i)) vs) w v (λ n q. h n (or-right (any_occurs n rs || occurs n p) (occurs n v) q)) i)
    meaning-agrees e w _ h = refl

    meanings-agrees : (e : Environment) (w : State) (fs : Formulas) → ((n : ℕ) → any_occurs n fs ≡ true → w n ≡ e.state n) → meanings find (record e { state = w }) fs ≡ meanings find e fs
    meanings-agrees e w no_formulas h = refl
    meanings-agrees e w (formula_and f fs) h = λ i. meaning-agrees e w f (λ n q. h n (or-left (occurs n f) (any_occurs n fs) q)) i ∷ meanings-agrees e w fs (λ n q. h n (or-right (occurs n f) (any_occurs n fs) q)) i

  pub meaning-state : (table : Table) (e d : State) (f : Formula) → ((n : ℕ) → occurs n f ≡ true → e n ≡ d n) → meaning find (at_state table e) f ≡ meaning find (at_state table d) f
  meaning-state table e d f h = meaning-agrees (at_state table d) e f h

  -- where states agree on its variables, a formula is defined from the one exactly where it is from the other
  mutual
    pub defined-agrees : (e : Environment) (w : State) (f : Formula) → ((n : ℕ) → occurs n f ≡ true → w n ≡ e.state n) → Defined find (record e { state = w }) f ≡ Defined find e f
    defined-agrees e w (unary o f) h = λ i. defined-agrees e w f h i × (unary_inside o (meaning-agrees e w f h i).value ≡ true)
    defined-agrees e w (binary o f g) h =
        let l : (n : ℕ) → occurs n f ≡ true → w n ≡ e.state n = λ n q. h n (or-left (occurs n f) (occurs n g) q) in
        let r : (n : ℕ) → occurs n g ≡ true → w n ≡ e.state n = λ n q. h n (or-right (occurs n f) (occurs n g) q) in
        λ i. LeftToRight o (meaning-agrees e w f l i).truth (defined-agrees e w f l i) (defined-agrees e w g r i) (binary_inside o (meaning-agrees e w f l i).value (meaning-agrees e w g r i).value)
    defined-agrees e w (for_all ts p) h = λ i. (vs : List MathValue) → are_of_types (set_size e.table) ts vs ≡ true → defined-agrees (under e ts vs) w p h i
    defined-agrees e w (for_some ts p) h = λ i. (vs : List MathValue) → are_of_types (set_size e.table) ts vs ≡ true → defined-agrees (under e ts vs) w p h i
    defined-agrees e w (comprehension rs p) h =
        let l : (n : ℕ) → any_occurs n rs ≡ true → w n ≡ e.state n = λ n q. h n (or-left (any_occurs n rs) (occurs n p) q) in
        let m : (n : ℕ) → occurs n p ≡ true → w n ≡ e.state n = λ n q. h n (or-right (any_occurs n rs) (occurs n p) q) in
        let r = meanings-agrees e w rs l in
        λ i. all-defined-agrees e w rs l i × ((vs : List MathValue) → IsChoice (choices (map (λ x. x.value) (r i))) vs → defined-agrees (under e (range_types (r i)) vs) w p m i)
    defined-agrees e w (lambda rs p v) h =
        let l : (n : ℕ) → any_occurs n rs ≡ true → w n ≡ e.state n = λ n q. h n (or-left (any_occurs n rs || occurs n p) (occurs n v) (or-left (any_occurs n rs) (occurs n p) q)) in
        let m : (n : ℕ) → occurs n p ≡ true → w n ≡ e.state n = λ n q. h n (or-left (any_occurs n rs || occurs n p) (occurs n v) (or-right (any_occurs n rs) (occurs n p) q)) in
        let k : (n : ℕ) → occurs n v ≡ true → w n ≡ e.state n = λ n q. h n (or-right (any_occurs n rs || occurs n p) (occurs n v) q) in
        let r = meanings-agrees e w rs l in
        λ i. all-defined-agrees e w rs l i × ((vs : List MathValue) → IsChoice (choices (map (λ x. x.value) (r i))) vs → defined-agrees (under e (range_types (r i)) vs) w p m i × ((meaning-agrees (under e (range_types (r i)) vs) w p m i).truth ≡ true → defined-agrees (under e (range_types (r i)) vs) w v k i))
    defined-agrees e w _ h = refl

    all-defined-agrees : (e : Environment) (w : State) (fs : Formulas) → ((n : ℕ) → any_occurs n fs ≡ true → w n ≡ e.state n) → AreDefined find (record e { state = w }) fs ≡ AreDefined find e fs
    all-defined-agrees e w no_formulas h = refl
    all-defined-agrees e w (formula_and f fs) h = λ i. defined-agrees e w f (λ n q. h n (or-left (occurs n f) (any_occurs n fs) q)) i × all-defined-agrees e w fs (λ n q. h n (or-right (occurs n f) (any_occurs n fs) q)) i

  -- and it fits the machine
  pub fits-agrees : (arrays : ArrayTable) (e : Environment) (w : State) (f : Formula) → ((n : ℕ) → occurs n f ≡ true → w n ≡ e.state n) → Fits find (record e { state = w }) arrays f ≡ Fits find e arrays f
  fits-agrees arrays e w (unary o f) h = fits-agrees arrays e w f h
  fits-agrees arrays e w (binary o f g) h =
      let l : (n : ℕ) → occurs n f ≡ true → w n ≡ e.state n = λ n q. h n (or-left (occurs n f) (occurs n g) q) in
      let r : (n : ℕ) → occurs n g ≡ true → w n ≡ e.state n = λ n q. h n (or-right (occurs n f) (occurs n g) q) in
      λ i. LeftToRight o (meaning-agrees e w f l i).truth (fits-agrees arrays e w f l i) (fits-agrees arrays e w g r i) (binary_fits arrays o f (meaning-agrees e w f l i).value (meaning-agrees e w g r i).value (meaning-agrees e w (binary o f g) h i).value)
  fits-agrees arrays e w (for_all ts p) h = λ i. (vs : List MathValue) → are_of_types (set_size e.table) ts vs ≡ true → fits-agrees arrays (under e ts vs) w p h i
  fits-agrees arrays e w (for_some ts p) h = λ i. (vs : List MathValue) → are_of_types (set_size e.table) ts vs ≡ true → fits-agrees arrays (under e ts vs) w p h i
  fits-agrees arrays e w _ h = refl
