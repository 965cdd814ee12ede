-- Formulas under more binders mean what they meant, stand for what they stood for, and name what they named.
use Rattle.std.proofs.Common.{◌≡◌, inl, inr, ◌<◌, ◌≤◌, ℕ, zero, suc, ◌+◌, List, [], ◌∷◌, length, refl, sym, ap, subst, Bool, true, false, ◌||◌, cond, nat_lt, arith}
use Rattle.std.specs.Prelude.{slice_get}
use Rattle.std.proofs.lemmas.Bool.Decides.{nat_tests}
use Rattle.bk_val.specs.Value.{MathValue}
use Rattle.bk_val.specs.ValueType.{ValueType, base_of}
use Rattle.bk_form.specs.Table.{Table, set_size}
use Rattle.bk_form.specs.Formula.{Formula, variable, bound, unary, binary, for_all, for_some, comprehension, lambda, Formulas, no_formulas, formula_and}
use Rattle.bk_form.specs.Search.{Finder}
use Rattle.bk_form.specs.Environment.{Environment, Binding, bindings, under}
use Rattle.bk_form.specs.Role.{bound_role, unary_role, binary_role, quantifier_role, comprehension_role, lambda_role, role, roles, bind, element_types}
use Rattle.bk_form.specs.Replacement.{occurs, any_occurs, count, IsClosed, AreClosed}
use Rattle.bk_form.specs.Meaning.{meaning, meanings, range_types, bound_meaning, unary_meaning, binary_meaning, all_meaning, some_meaning, comprehension_meaning, lambda_meaning}
use Rattle.bk_form.proofs.Agreement.{length-ranges}
use Rattle.bk_form.proofs.Members.{or-cases, or-left, or-right}
use Rattle.bk_form.specs.Lifting.{lifted, all_lifted}

-- ---- what they mean
record InsertedBindings (n k : ℕ) (a b : List Binding) : Type 0 where
  below : (i : ℕ) → i < k → slice_get b i ≡ slice_get a i
  beyond : (i : ℕ) → k ≤ i → slice_get b (i + n) ≡ slice_get a i

bindings-cons : {n k : ℕ} {a b : List Binding} (x : Binding) → InsertedBindings n k a b → InsertedBindings n (suc k) (x ∷ a) (x ∷ b)
bindings-cons {n} {k} {a} {b} x h = record { below = low; beyond = high }
  where
    low : (i : ℕ) → i < suc k → slice_get (x ∷ b) i ≡ slice_get (x ∷ a) i
    low zero p = refl
    low (suc i) p = h.below i (omega arith)

    high : (i : ℕ) → suc k ≤ i → slice_get (x ∷ b) (i + n) ≡ slice_get (x ∷ a) i
    high zero p = absurd (omega arith)
    high (suc i) p = let e : suc (i + n) ≡ suc i + n = omega arith in subst (λ j. slice_get (x ∷ b) j ≡ slice_get a i) e (h.beyond i (omega arith))

bindings-bind : (ts : List ValueType) (vs : List MathValue) {n k : ℕ} {a b : List Binding} → InsertedBindings n k a b → InsertedBindings n (length ts + k) (bind (bindings ts vs) a) (bind (bindings ts vs) b)
bindings-bind [] vs {n} {k} h = let e : zero + k ≡ k = omega arith in rw e h
bindings-bind (t ∷ ts) [] {n} {k} h = let e : suc (length ts) + k ≡ length ts + suc k = omega arith in rw e (bindings-bind ts [] (bindings-cons (t, base_of t) h))
bindings-bind (t ∷ ts) (v ∷ vs) {n} {k} h = let e : suc (length ts) + k ≡ length ts + suc k = omega arith in rw e (bindings-bind ts vs (bindings-cons (t, v) h))

bindings-ranges : (m : ℕ) (ts us : List ValueType) (vs : List MathValue) {n k : ℕ} {a b : List Binding} → us ≡ ts → length ts ≡ m → InsertedBindings n k a b → InsertedBindings n (m + k) (bind (bindings ts vs) a) (bind (bindings us vs) b)
bindings-ranges m ts us vs {n} {k} {a} {b} e d h = subst (λ y. InsertedBindings n (m + k) (bind (bindings ts vs) a) (bind (bindings y vs) b)) (sym e) (subst (λ j. InsertedBindings n (j + k) (bind (bindings ts vs) a) (bind (bindings ts vs) b)) d (bindings-bind ts vs h))

module _ (find : Finder) (e : Environment) (n : ℕ) where
  mutual
    meaning-lifted : (k : ℕ) (a b : List Binding) (f : Formula) → InsertedBindings n k a b → meaning find (record e { bound = b }) (lifted n k f) ≡ meaning find (record e { bound = a }) f
    meaning-lifted k a b (bound m) h = by_test (nat_lt m k) refl
      where
        low : (m k : ℕ) → nat_lt m k ≡ true → m < k
        low m k q = grind (arith, nat_tests)

        high : (m k : ℕ) → nat_lt m k ≡ false → k ≤ m
        high m k q = grind (arith, nat_tests)

        by_test : (x : Bool) → nat_lt m k ≡ x → bound_meaning e.table (slice_get b (cond x m (m + n))) ≡ bound_meaning e.table (slice_get a m)
        by_test true q = ap (bound_meaning e.table) (h.below m (low m k q))
        by_test false q = ap (bound_meaning e.table) (h.beyond m (high m k q))
    meaning-lifted k a b (unary o f) h = ap (unary_meaning o) (meaning-lifted k a b f h)
    meaning-lifted k a b (binary o f g) h = λ i. binary_meaning find (set_size e.table) o (meaning-lifted k a b f h i) (meaning-lifted k a b g h i)
    meaning-lifted k a b (for_all ts p) h = λ i. all_meaning find e.table ts (λ vs. meaning-lifted (length ts + k) (bind (bindings ts vs) a) (bind (bindings ts vs) b) p (bindings-bind ts vs h) i)
    meaning-lifted k a b (for_some ts p) h = λ i. some_meaning find e.table ts (λ vs. meaning-lifted (length ts + k) (bind (bindings ts vs) a) (bind (bindings ts vs) b) p (bindings-bind ts vs h) i)
    meaning-lifted k a b (comprehension rs p) h =
        let r = meanings-lifted k a b rs h in
        let x = range_types (meanings find (record e { bound = b }) (all_lifted n k rs)) in
        let y = range_types (meanings find (record e { bound = a }) rs) in
        λ i. comprehension_meaning (r i) (λ vs. meaning-lifted (count rs + k) (bind (bindings y vs) a) (bind (bindings x vs) b) p (bindings-ranges (count rs) y x vs (ap range_types r) (length-ranges find (record e { bound = a }) rs) h) i)
    meaning-lifted k a b (lambda rs p v) h =
        let r = meanings-lifted k a b rs h in
        let x = range_types (meanings find (record e { bound = b }) (all_lifted n k rs)) in
        let y = range_types (meanings find (record e { bound = a }) rs) in
        λ i. lambda_meaning (r i) (λ vs. meaning-lifted (count rs + k) (bind (bindings y vs) a) (bind (bindings x vs) b) p (bindings-ranges (count rs) y x vs (ap range_types r) (length-ranges find (record e { bound = a }) rs) h) i)
        (λ vs. meaning-lifted (count rs + k) (bind (bindings y vs) a) (bind (bindings x vs) b) v (bindings-ranges (count rs) y x vs (ap range_types r) (length-ranges find (record e { bound = a }) rs) h) i)
    meaning-lifted k a b _ h = refl

    meanings-lifted : (k : ℕ) (a b : List Binding) (fs : Formulas) → InsertedBindings n k a b → meanings find (record e { bound = b }) (all_lifted n k fs) ≡ meanings find (record e { bound = a }) fs
    meanings-lifted k a b no_formulas h = refl
    meanings-lifted k a b (formula_and f fs) h = λ i. meaning-lifted k a b f h i ∷ meanings-lifted k a b fs h i

-- behind the bindings of a binder stands what was bound before
pub bindings-behind : (ts : List ValueType) (vs : List MathValue) (a : List Binding) (i : ℕ) → slice_get (bind (bindings ts vs) a) (i + length ts) ≡ slice_get a i
bindings-behind [] vs a i = let e : i ≡ i + zero = omega arith in subst (λ j. slice_get a j ≡ slice_get a i) e refl
bindings-behind (t ∷ ts) [] a i = let e : suc i + length ts ≡ i + suc (length ts) = omega arith in subst (λ j. slice_get (bind (bindings ts []) ((t, base_of t) ∷ a)) j ≡ slice_get a i) e (bindings-behind ts [] ((t, base_of t) ∷ a) (suc i))
bindings-behind (t ∷ ts) (v ∷ vs) a i = let e : suc i + length ts ≡ i + suc (length ts) = omega arith in subst (λ j. slice_get (bind (bindings ts vs) ((t, v) ∷ a)) j ≡ slice_get a i) e (bindings-behind ts vs ((t, v) ∷ a) (suc i))

pub meaning-lifted-under : (find : Finder) (e : Environment) (ts : List ValueType) (vs : List MathValue) (n : ℕ) → length ts ≡ n → (f : Formula) → meaning find (under e ts vs) (lifted n 0 f) ≡ meaning find e f
meaning-lifted-under find e ts vs n q f = meaning-lifted find e n 0 e.bound (bind (bindings ts vs) e.bound) f (record { below = λ i p. absurd (omega arith); beyond = λ i p. subst (λ m. slice_get (bind (bindings ts vs) e.bound) (i + m) ≡ slice_get e.bound i) q (bindings-behind ts vs e.bound i) })

-- ---- what they stand for
record InsertedTypes (n k : ℕ) (a b : List ValueType) : Type 0 where
  below : (i : ℕ) → i < k → slice_get b i ≡ slice_get a i
  beyond : (i : ℕ) → k ≤ i → slice_get b (i + n) ≡ slice_get a i

types-cons : {n k : ℕ} {a b : List ValueType} (x : ValueType) → InsertedTypes n k a b → InsertedTypes n (suc k) (x ∷ a) (x ∷ b)
types-cons {n} {k} {a} {b} x h = record { below = low; beyond = high }
  where
    low : (i : ℕ) → i < suc k → slice_get (x ∷ b) i ≡ slice_get (x ∷ a) i
    low zero p = refl
    low (suc i) p = h.below i (omega arith)

    high : (i : ℕ) → suc k ≤ i → slice_get (x ∷ b) (i + n) ≡ slice_get (x ∷ a) i
    high zero p = absurd (omega arith)
    high (suc i) p = let e : suc (i + n) ≡ suc i + n = omega arith in subst (λ j. slice_get (x ∷ b) j ≡ slice_get a i) e (h.beyond i (omega arith))

types-bind-more : (ts : List ValueType) {n k : ℕ} {a b : List ValueType} → InsertedTypes n k a b → InsertedTypes n (length ts + k) (bind ts a) (bind ts b)
types-bind-more [] {n} {k} h = let e : zero + k ≡ k = omega arith in rw e h
types-bind-more (t ∷ ts) {n} {k} h = let e : suc (length ts) + k ≡ length ts + suc k = omega arith in rw e (types-bind-more ts (types-cons t h))

pub count-types : (table : Table) (around : List ValueType) (rs : Formulas) → length (element_types (roles table around rs)) ≡ count rs
count-types table around no_formulas = refl
count-types table around (formula_and r rs) = ap suc (count-types table around rs)

module _ (table : Table) (n : ℕ) where
  types-ranged : (a : List ValueType) (rs : Formulas) (us : List ValueType) {k : ℕ} {b : List ValueType} → us ≡ element_types (roles table a rs) → InsertedTypes n k a b → InsertedTypes n (count rs + k) (bind (element_types (roles table a rs)) a) (bind us b)
  types-ranged a rs us {k} {b} e h =
      subst (λ x. InsertedTypes n (count rs + k) (bind (element_types (roles table a rs)) a) (bind x b)) (sym e)
      (subst (λ m. InsertedTypes n (m + k) (bind (element_types (roles table a rs)) a) (bind (element_types (roles table a rs)) b)) (count-types table a rs) (types-bind-more (element_types (roles table a rs)) h))

  mutual
    role-lifted : (k : ℕ) (a b : List ValueType) (f : Formula) → InsertedTypes n k a b → role table b (lifted n k f) ≡ role table a f
    role-lifted k a b (bound m) h = by_test (nat_lt m k) refl
      where
        low : (m k : ℕ) → nat_lt m k ≡ true → m < k
        low m k q = grind (arith, nat_tests)

        high : (m k : ℕ) → nat_lt m k ≡ false → k ≤ m
        high m k q = grind (arith, nat_tests)

        by_test : (x : Bool) → nat_lt m k ≡ x → bound_role table (slice_get b (cond x m (m + n))) ≡ bound_role table (slice_get a m)
        by_test true q = ap (bound_role table) (h.below m (low m k q))
        by_test false q = ap (bound_role table) (h.beyond m (high m k q))
    role-lifted k a b (unary o f) h = ap (unary_role o) (role-lifted k a b f h)
    role-lifted k a b (binary o f g) h = λ i. binary_role o (role-lifted k a b f h i) (role-lifted k a b g h i)
    role-lifted k a b (for_all ts p) h = ap (quantifier_role table ts) (role-lifted (length ts + k) (bind ts a) (bind ts b) p (types-bind-more ts h))
    role-lifted k a b (for_some ts p) h = ap (quantifier_role table ts) (role-lifted (length ts + k) (bind ts a) (bind ts b) p (types-bind-more ts h))
    role-lifted k a b (comprehension rs p) h =
        let r = roles-lifted k a b rs h in
        let us = element_types (roles table b (all_lifted n k rs)) in
        λ i. comprehension_role (r i) (role-lifted (count rs + k) (bind (element_types (roles table a rs)) a) (bind us b) p (types-ranged a rs us (ap element_types r) h) i)
    role-lifted k a b (lambda rs p v) h =
        let r = roles-lifted k a b rs h in
        let us = element_types (roles table b (all_lifted n k rs)) in
        λ i. lambda_role (r i) (role-lifted (count rs + k) (bind (element_types (roles table a rs)) a) (bind us b) p (types-ranged a rs us (ap element_types r) h) i) (role-lifted (count rs + k) (bind (element_types (roles table a rs)) a) (bind us b) v (types-ranged a rs us (ap element_types r) h) i)
    role-lifted k a b _ h = refl

    roles-lifted : (k : ℕ) (a b : List ValueType) (fs : Formulas) → InsertedTypes n k a b → roles table b (all_lifted n k fs) ≡ roles table a fs
    roles-lifted k a b no_formulas h = refl
    roles-lifted k a b (formula_and f fs) h = λ i. role-lifted k a b f h i ∷ roles-lifted k a b fs h i

pub types-behind : (ts a : List ValueType) (i : ℕ) → slice_get (bind ts a) (i + length ts) ≡ slice_get a i
types-behind [] a i = let e : i ≡ i + zero = omega arith in subst (λ j. slice_get a j ≡ slice_get a i) e refl
types-behind (t ∷ ts) a i = let e : suc i + length ts ≡ i + suc (length ts) = omega arith in subst (λ j. slice_get (bind ts (t ∷ a)) j ≡ slice_get a i) e (types-behind ts (t ∷ a) (suc i))

pub role-lifted-under : (table : Table) (ts a : List ValueType) (n : ℕ) → length ts ≡ n → (f : Formula) → role table (bind ts a) (lifted n 0 f) ≡ role table a f
role-lifted-under table ts a n q f = role-lifted table n 0 a (bind ts a) f (record { below = λ i p. absurd (omega arith); beyond = λ i p. subst (λ m. slice_get (bind ts a) (i + m) ≡ slice_get a i) q (types-behind ts a i) })

-- ---- what they name
mutual
  pub lifted-occurs : (n m k : ℕ) (f : Formula) → occurs n (lifted m k f) ≡ true → occurs n f ≡ true
  lifted-occurs n m k (variable x) h = h
  lifted-occurs n m k (unary o f) h = lifted-occurs n m k f h
  lifted-occurs n m k (binary o f g) h = elim (or-cases (occurs n (lifted m k f)) (occurs n (lifted m k g)) h) [ inl q ↦ or-left (occurs n f) (occurs n g) (lifted-occurs n m k f q) | inr q ↦ or-right (occurs n f) (occurs n g) (lifted-occurs n m k g q) ]
  lifted-occurs n m k (for_all ts p) h = lifted-occurs n m (length ts + k) p h
  lifted-occurs n m k (for_some ts p) h = lifted-occurs n m (length ts + k) p h
  lifted-occurs n m k (comprehension rs p) h = elim (or-cases (any_occurs n (all_lifted m k rs)) (occurs n (lifted m (count rs + k) p)) h) [ inl q ↦ or-left (any_occurs n rs) (occurs n p) (all-lifted-occurs n m k rs q) | inr q ↦ or-right (any_occurs n rs) (occurs n p) (lifted-occurs n m (count rs + k) p q) ]
  lifted-occurs n m k (lambda rs p v) h = elim (or-cases (any_occurs n (all_lifted m k rs) || occurs n (lifted m (count rs + k) p)) (occurs n (lifted m (count rs + k) v)) h) [
    | inl l ↦ or-left (any_occurs n rs || occurs n p) (occurs n v) (elim (or-cases (any_occurs n (all_lifted m k rs)) (occurs n (lifted m (count rs + k) p)) l) [ inl q ↦ or-left (any_occurs n rs) (occurs n p) (all-lifted-occurs n m k rs q) | inr q ↦ or-right (any_occurs n rs) (occurs n p) (lifted-occurs n m (count rs + k) p q) ])
    | inr q ↦ or-right (any_occurs n rs || occurs n p) (occurs n v) (lifted-occurs n m (count rs + k) v q)
  ]
  lifted-occurs n m k _ h = absurd (cc)

  all-lifted-occurs : (n m k : ℕ) (fs : Formulas) → any_occurs n (all_lifted m k fs) ≡ true → any_occurs n fs ≡ true
  all-lifted-occurs n m k no_formulas h = absurd (cc)
  all-lifted-occurs n m k (formula_and f fs) h = elim (or-cases (occurs n (lifted m k f)) (any_occurs n (all_lifted m k fs)) h) [ inl q ↦ or-left (occurs n f) (any_occurs n fs) (lifted-occurs n m k f q) | inr q ↦ or-right (occurs n f) (any_occurs n fs) (all-lifted-occurs n m k fs q) ]

-- ---- loose bound numbers
pub count-lifted : (n k : ℕ) (fs : Formulas) → count (all_lifted n k fs) ≡ count fs
count-lifted n k no_formulas = refl
count-lifted n k (formula_and f fs) = ap suc (count-lifted n k fs)

mutual
  pub lifted-closed : (n j k m : ℕ) → m ≡ j + k → (f : Formula) → IsClosed m f → IsClosed (m + n) (lifted n j f)
  lifted-closed n j k m e (bound i) c = by_test (nat_lt i j)
    where
      by_test : (b : Bool) → cond b i (i + n) < m + n
      by_test true = omega (arith, c)
      by_test false = omega (arith, c)
  lifted-closed n j k m e (unary o f) c = lifted-closed n j k m e f c
  lifted-closed n j k m e (binary o f g) c = (lifted-closed n j k m e f c.0, lifted-closed n j k m e g c.1)
  lifted-closed n j k m e (for_all ts p) c = let q : length ts + m ≡ (length ts + j) + k = omega (arith, e) in let w : (length ts + m) + n ≡ length ts + (m + n) = omega arith in subst (λ x. IsClosed x (lifted n (length ts + j) p)) w (lifted-closed n (length ts + j) k (length ts + m) q p c)
  lifted-closed n j k m e (for_some ts p) c = let q : length ts + m ≡ (length ts + j) + k = omega (arith, e) in let w : (length ts + m) + n ≡ length ts + (m + n) = omega arith in subst (λ x. IsClosed x (lifted n (length ts + j) p)) w (lifted-closed n (length ts + j) k (length ts + m) q p c)
  lifted-closed n j k m e (comprehension rs p) c =
      let q : count rs + m ≡ (count rs + j) + k = omega (arith, e) in
      let s = count-lifted n j rs in
      let w : (count rs + m) + n ≡ count (all_lifted n j rs) + (m + n) = omega (arith, s) in
      (all-lifted-closed n j k m e rs c.0, subst (λ x. IsClosed x (lifted n (count rs + j) p)) w (lifted-closed n (count rs + j) k (count rs + m) q p c.1))
  lifted-closed n j k m e (lambda rs p v) c =
      let q : count rs + m ≡ (count rs + j) + k = omega (arith, e) in
      let s = count-lifted n j rs in
      let w : (count rs + m) + n ≡ count (all_lifted n j rs) + (m + n) = omega (arith, s) in
      (all-lifted-closed n j k m e rs c.0, subst (λ x. IsClosed x (lifted n (count rs + j) p)) w (lifted-closed n (count rs + j) k (count rs + m) q p c.1), subst (λ x. IsClosed x (lifted n (count rs + j) v)) w (lifted-closed n (count rs + j) k (count rs + m) q v c.2))
  lifted-closed n j k m e _ c = tt

  all-lifted-closed : (n j k m : ℕ) → m ≡ j + k → (fs : Formulas) → AreClosed m fs → AreClosed (m + n) (all_lifted n j fs)
  all-lifted-closed n j k m e no_formulas c = tt
  all-lifted-closed n j k m e (formula_and f fs) c = (lifted-closed n j k m e f c.0, all-lifted-closed n j k m e fs c.1)
