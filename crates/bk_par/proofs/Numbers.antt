-- The numbers of copies: they are new, and each copy has its variable's type.
use Rattle.std.proofs.Common.{◌≡◌, ◌⊎◌, inl, inr, ◌<◌, ◌≤◌, ℕ, zero, suc, ◌+◌, List, [], ◌∷◌, ◌++◌, length, length-append, refl, sym, ◌∙◌, ap, subst, Bool, true, false, not, cond, ◌||◌, nat_eq, nat_lt, arith}
use Rattle.std.specs.Prelude.{Option, Some, None, slice_get}
use Rattle.std.specs.List.{filter_map, cons_option}
use Rattle.std.specs.Option.{option_map}
use Rattle.std.proofs.lemmas.Bool.Decides.{nat_tests}
use Rattle.bk_val.specs.ValueType.{ValueType}
use Rattle.bk_form.specs.Table.{Table, VariableEntry, variable_type, IsWellFormed}
use Rattle.bk_form.specs.Formula.{Formula, variable, unary, binary, for_all, for_some, comprehension, lambda, Formulas, no_formulas, formula_and}
use Rattle.bk_form.specs.Role.{given_by}
use Rattle.bk_form.specs.Replacement.{occurs, any_occurs, all_replaced, IsReplacement, GivesType, renamed}
use Rattle.bk_form.specs.Predicates.{equation}
use Rattle.bk_form.specs.declared.operator.BinOp.TheVariants.{And}
use Rattle.bk_form.specs.Each.{Each}
use Rattle.bk_form.specs.Wider.{IsWider}
use Rattle.bk_form.proofs.Members.{or-cases, or-left, or-right}
use Rattle.bk_form.proofs.Widening.{variable-wider}
use Rattle.bk_gsl.specs.Substitution.{Substitution, skip, assign, pre, guard, choice, if_else, any, seq, par, assert, becomes_such, loop}
use Rattle.bk_gsl.specs.State.{among, firsts}
use Rattle.bk_gsl.specs.Writes.{written, writes}
use Rattle.bk_gsl.specs.Typed.{IsListed, AreListed, AreTypedPairs, Types}
use Rattle.bk_gsl.specs.Avoids.{Free, NoneIn, FreeTerms, Avoids}
use Rattle.bk_gsl.specs.Flat.{renamed_terms, reading, copies_from, copy_of, equations_onto, by_copies, copied, flat_from}
use Rattle.bk_gsl.proofs.States.{cases, clash, or-false, nat_eq-same, nat_eq-self, among-in_order}
use Rattle.bk_gsl.proofs.Reading.{among-cases, among-left, among-right}
use Rattle.bk_gsl.proofs.Listed.{among-listed, written-listed}
use Rattle.bk_gsl.proofs.Outside.{written-avoided}
use Rattle.bk_par.specs.Bindings.{seconds, bound_in}
use Rattle.bk_par.proofs.OtherNames.{false-of, firsts-renamed}

-- ---- copies, and the variables that they copy
-- no number stands twice
abbrev pub Distinct : List ℕ → Type 0
Distinct [] = Unit {0}
Distinct (n ∷ ns) = (among ns n ≡ false) × Distinct ns

pub seconds-copies : (k : ℕ) (xs : List ℕ) → seconds (copies_from k xs) ≡ xs
seconds-copies k [] = refl
seconds-copies k (x ∷ xs) = ap (λ ys. x ∷ ys) (seconds-copies (suc k) xs)

pub copy-cases : (ps : List (ℕ × ℕ)) (n : ℕ) → (copy_of ps n ≡ n) ⊎ ((among (firsts ps) (copy_of ps n) ≡ true) × (among (seconds ps) n ≡ true))
copy-cases [] n = inl refl
copy-cases (p ∷ ps) n = by_test (copy-cases ps n) (nat_eq n p.1) refl
  where
    by_test : (copy_of ps n ≡ n) ⊎ ((among (firsts ps) (copy_of ps n) ≡ true) × (among (seconds ps) n ≡ true)) → (b : Bool) → nat_eq n p.1 ≡ b → (cond b p.0 (copy_of ps n) ≡ n) ⊎ (((nat_eq (cond b p.0 (copy_of ps n)) p.0 || among (firsts ps) (cond b p.0 (copy_of ps n))) ≡ true) × ((b || among (seconds ps) n) ≡ true))
    by_test on true q = inr (or-left (nat_eq p.0 p.0) (among (firsts ps) p.0) (nat_eq-self p.0), refl)
    by_test (inl k) false q = inl k
    by_test (inr k) false q = inr (or-right (nat_eq (copy_of ps n) p.0) (among (firsts ps) (copy_of ps n)) k.0, k.1)

pub first-between : (k : ℕ) (xs : List ℕ) (n : ℕ) → among (firsts (copies_from k xs)) n ≡ true → k ≤ n
first-between k [] n h = absurd (cc)
first-between k (x ∷ xs) n h = elim (or-cases (nat_eq n k) (among (firsts (copies_from (suc k) xs)) n) h) [
  | inl q ↦ let e : n ≡ k = nat_eq-same n k q in omega (arith, e)
  | inr q ↦ let l : suc k ≤ n = first-between (suc k) xs n q in omega (arith, l)
]

pub firsts-distinct : (k : ℕ) (xs : List ℕ) → Distinct (firsts (copies_from k xs))
firsts-distinct k [] = tt
firsts-distinct k (x ∷ xs) = (false-of (among (firsts (copies_from (suc k) xs)) k) (λ q. let l : suc k ≤ k = first-between (suc k) xs k q in omega (arith, l)), firsts-distinct (suc k) xs)

pub first-below : (k : ℕ) (xs : List ℕ) (n : ℕ) → among (firsts (copies_from k xs)) n ≡ true → n < k + length xs
first-below k [] n h = absurd (cc)
first-below k (x ∷ xs) n h = elim (or-cases (nat_eq n k) (among (firsts (copies_from (suc k) xs)) n) h) [
  | inl q ↦ let e : n ≡ k = nat_eq-same n k q in omega (arith, e)
  | inr q ↦ let l : n < suc k + length xs = first-below (suc k) xs n q in omega (arith, l)
]

-- ---- each copy has its variable's type
abbrev pub CopiesAt : Table → ℕ → List ℕ → Type 0
CopiesAt table k xs = AreTypedPairs table (copies_from k xs)

pub copies-left : (table : Table) (k : ℕ) (xs ys : List ℕ) → CopiesAt table k (xs ++ ys) → CopiesAt table k xs
copies-left table k [] ys h = tt
copies-left table k (x ∷ xs) ys h = (h.0, copies-left table (suc k) xs ys h.1)

pub copies-right : (table : Table) (k : ℕ) (xs ys : List ℕ) → CopiesAt table k (xs ++ ys) → CopiesAt table (k + length xs) ys
copies-right table k [] ys h = let e : k ≡ k + zero = omega arith in subst (λ n. CopiesAt table n ys) e h
copies-right table k (x ∷ xs) ys h = let e : suc k + length xs ≡ k + suc (length xs) = omega arith in subst (λ n. CopiesAt table n ys) e (copies-right table (suc k) xs ys h.1)

pub copies-replace : (table : Table) (ps : List (ℕ × ℕ)) → AreTypedPairs table ps → IsReplacement table (λ n. variable (copy_of ps n))
copies-replace table [] h n = inl refl
copies-replace table (p ∷ ps) h n = by_test (copies-replace table ps h.1 n) (nat_eq n p.1) refl
  where
    by_test : (variable (copy_of ps n) ≡ variable n) ⊎ ((t : ValueType) × (variable_type table n ≡ Some t) × GivesType table t (variable (copy_of ps n))) → (b : Bool) → nat_eq n p.1 ≡ b → (variable (cond b p.0 (copy_of ps n)) ≡ variable n) ⊎ ((t : ValueType) × (variable_type table n ≡ Some t) × GivesType table t (variable (cond b p.0 (copy_of ps n))))
    by_test on true q = inr (h.0.0, ap (variable_type table) (nat_eq-same n p.1 q) ∙ h.0.2, record { closed = tt; of_type = ap given_by h.0.1 })
    by_test on false q = on

append-seam : {A : Type 0} (xs : List A) (y : A) (ys : List A) → xs ++ y ∷ ys ≡ (xs ++ y ∷ []) ++ ys
append-seam [] y ys = refl
append-seam (x ∷ xs) y ys = ap (λ zs. x ∷ zs) (append-seam xs y ys)

get-seam : {A : Type 0} (xs : List A) (y : A) (ys : List A) → slice_get (xs ++ y ∷ ys) (length xs) ≡ Some y
get-seam [] y ys = refl
get-seam (x ∷ xs) y ys = get-seam xs y ys

pub copied-listed : (table : Table) (s : Substitution) → Types table s → (n : ℕ) → among (copied s) n ≡ true → IsListed table n
copied-listed table skip w n h = absurd (cc)
copied-listed table (assign ps) w n h = absurd (cc)
copied-listed table (pre p s) w n h = copied-listed table s w.1 n h
copied-listed table (guard p s) w n h = copied-listed table s w.1 n h
copied-listed table (choice s t) w n h = elim (among-cases (copied s) (copied t) n h) [ inl q ↦ copied-listed table s w.0 n q | inr q ↦ copied-listed table t w.1 n q ]
copied-listed table (if_else p s t) w n h = elim (among-cases (copied s) (copied t) n h) [ inl q ↦ copied-listed table s w.1 n q | inr q ↦ copied-listed table t w.2 n q ]
copied-listed table (any zs s) w n h = copied-listed table s w.1 n h
copied-listed table (seq s t) w n h = elim (among-cases (copied s) (copied t) n h) [ inl q ↦ copied-listed table s w.0 n q | inr q ↦ copied-listed table t w.1 n q ]
copied-listed table (par s t) w n h = elim (among-cases (copied s ++ copied t) (writes s) n h) [
  | inl k ↦ elim (among-cases (copied s) (copied t) n k) [ inl q ↦ copied-listed table s w.0 n q | inr q ↦ copied-listed table t w.1 n q ]
  | inr q ↦ written-listed table s w.0 n (sym (among-in_order (written s) n) ∙ q)
]
copied-listed table (assert p s) w n h = copied-listed table s w.1 n h
copied-listed table (becomes_such xs p) w n h = absurd (cc)
copied-listed table (loop p s i v) w n h = copied-listed table s w.1 n h

entry-at : (o : Option VariableEntry) (t : ValueType) → option_map (λ (v : VariableEntry). v.of_type) o ≡ Some t → (v : VariableEntry) × (o ≡ Some v) × (v.of_type ≡ t)
entry-at None t h = absurd (cc)
entry-at (Some v) t h = let q : v.of_type ≡ t = cc in (v, refl, q)

more-of : (f : ℕ → Option VariableEntry) (x : ℕ) (xs : List ℕ) (v : VariableEntry) → f x ≡ Some v → filter_map f (x ∷ xs) ≡ v ∷ filter_map f xs
more-of f x xs v h = ap (λ o. cons_option o (filter_map f xs)) h

module _ (small large : Table) (well : IsWellFormed small) (wider : IsWider small large) where
  -- each copy has the type of the variable that it copies
  pub copies-typed : (before : List VariableEntry) (xs : List ℕ) → large.variables ≡ before ++ filter_map (slice_get small.variables) xs → ((n : ℕ) → among xs n ≡ true → IsListed small n) → CopiesAt large (length before) xs
  copies-typed before [] e l = tt
  copies-typed before (x ∷ xs) e l =
      let one = l x (or-left (nat_eq x x) (among xs x) (nat_eq-self x)) in
      let v = entry-at (slice_get small.variables x) one.0 one.1 in
      let rest = filter_map (slice_get small.variables) xs in
      let whole : large.variables ≡ before ++ v.0 ∷ rest = e ∙ ap (λ ys. before ++ ys) (more-of (slice_get small.variables) x xs v.0 v.1) in
      let here : variable_type large (length before) ≡ Some one.0 = ap (λ vs. option_map (λ (y : VariableEntry). y.of_type) (slice_get vs (length before))) whole ∙ ap (option_map (λ (y : VariableEntry). y.of_type)) (get-seam before v.0 rest) ∙ ap Some v.2 in
      let long : length (before ++ v.0 ∷ []) ≡ suc (length before) = omega (arith, length-append before (v.0 ∷ [])) in
      ((one.0, here, variable-wider small large well wider x one.0 one.1), subst (λ k. CopiesAt large k xs) long (copies-typed (before ++ v.0 ∷ []) xs (whole ∙ append-seam before v.0 rest) (λ n q. l n (or-right (nat_eq n x) (among xs n) q))))

-- ---- what is listed has a number of the table
type-within : (vars : List VariableEntry) (n : ℕ) (t : ValueType) → option_map (λ v. v.of_type) (slice_get vars n) ≡ Some t → n < length vars
type-within [] n t h = absurd (cc)
type-within (v ∷ vars) zero t h = omega arith
type-within (v ∷ vars) (suc n) t h = let l : n < length vars = type-within vars n t h in omega (arith, l)

pub listed-below : (table : Table) (n : ℕ) → IsListed table n → n < length table.variables
listed-below table n l = type-within table.variables n l.0 l.1

seconds-listed : (table : Table) (xs : List (ℕ × ℕ)) → AreTypedPairs table xs → AreListed table (seconds xs)
seconds-listed table [] w = tt
seconds-listed table (x ∷ xs) w = ((w.0.0, w.0.2), seconds-listed table xs w.1)

pub bound-listed : (table : Table) (s : Substitution) → Types table s → (n : ℕ) → among (bound_in s) n ≡ true → IsListed table n
bound-listed table skip w n h = absurd (cc)
bound-listed table (assign ps) w n h = absurd (cc)
bound-listed table (pre p s) w n h = bound-listed table s w.1 n h
bound-listed table (guard p s) w n h = bound-listed table s w.1 n h
bound-listed table (choice s t) w n h = elim (among-cases (bound_in s) (bound_in t) n h) [ inl q ↦ bound-listed table s w.0 n q | inr q ↦ bound-listed table t w.1 n q ]
bound-listed table (if_else p s t) w n h = elim (among-cases (bound_in s) (bound_in t) n h) [ inl q ↦ bound-listed table s w.1 n q | inr q ↦ bound-listed table t w.2 n q ]
bound-listed table (any zs s) w n h = elim (among-cases zs (bound_in s) n h) [ inl q ↦ among-listed table zs w.0 n q | inr q ↦ bound-listed table s w.1 n q ]
bound-listed table (seq s t) w n h = elim (among-cases (bound_in s) (bound_in t) n h) [ inl q ↦ bound-listed table s w.0 n q | inr q ↦ bound-listed table t w.1 n q ]
bound-listed table (par s t) w n h = elim (among-cases (bound_in s) (bound_in t) n h) [ inl q ↦ bound-listed table s w.0 n q | inr q ↦ bound-listed table t w.1 n q ]
bound-listed table (assert p s) w n h = bound-listed table s w.1 n h
bound-listed table (becomes_such xs p) w n h = among-listed table (seconds xs) (seconds-listed table xs w.0) n h
bound-listed table (loop p s i v) w n h = bound-listed table s w.1 n h

-- ---- what the rewritten binds
bound-reading : (by : ℕ → ℕ) (s : Substitution) → bound_in (reading by s) ≡ bound_in s
bound-reading by skip = refl
bound-reading by (assign ps) = refl
bound-reading by (pre p s) = bound-reading by s
bound-reading by (guard p s) = bound-reading by s
bound-reading by (choice s t) = λ i. bound-reading by s i ++ bound-reading by t i
bound-reading by (if_else p s t) = λ i. bound-reading by s i ++ bound-reading by t i
bound-reading by (any zs s) = ap (λ x. zs ++ x) (bound-reading by s)
bound-reading by (seq s t) = λ i. bound-reading by s i ++ bound-reading by t i
bound-reading by (par s t) = λ i. bound-reading by s i ++ bound-reading by t i
bound-reading by (assert p s) = bound-reading by s
bound-reading by (becomes_such xs p) = refl
bound-reading by (loop p s i v) = bound-reading by s

copies-bound : (ps : List (ℕ × ℕ)) (s t : Substitution) (n : ℕ) → among (bound_in (by_copies ps s t)) n ≡ true → (among (firsts ps) n ≡ true) ⊎ ((among (bound_in s) n ≡ true) ⊎ (among (bound_in t) n ≡ true))
copies-bound [] s t n h = inr (among-cases (bound_in s) (bound_in t) n h)
copies-bound (p ∷ ps) s t n h = elim (among-cases (firsts (p ∷ ps)) (bound_in s ++ bound_in (reading (copy_of (p ∷ ps)) t)) n h) [
  | inl q ↦ inl q
  | inr q ↦ inr (elim (among-cases (bound_in s) (bound_in (reading (copy_of (p ∷ ps)) t)) n q) [ inl y ↦ inl y | inr y ↦ inr (subst (λ xs. among xs n ≡ true) (bound-reading (copy_of (p ∷ ps)) t) y) ])
]

-- bound before, or a copy
abbrev pub IsBound : ℕ → Substitution → ℕ → Type 0
IsBound k s n = (among (bound_in s) n ≡ true) ⊎ ((k ≤ n) × (n < k + length (copied s)))

bound-both : (k : ℕ) (s t : Substitution) (n : ℕ) → IsBound k s n ⊎ IsBound (k + length (copied s)) t n → (among (bound_in s ++ bound_in t) n ≡ true) ⊎ ((k ≤ n) × (n < k + length (copied s ++ copied t)))
bound-both k s t n h = elim h [
  | inl x ↦ elim x [
    | inl q ↦ inl (among-left (bound_in s) (bound_in t) n q)
    | inr q ↦ inr (q.0, omega (arith, q.1, length-append (copied s) (copied t)))
  ]
  | inr x ↦ elim x [
    | inl q ↦ inl (among-right (bound_in s) (bound_in t) n q)
    | inr q ↦ inr (omega (arith, q.0), omega (arith, q.1, length-append (copied s) (copied t)))
  ]
]

either-bound : (xs ys : List ℕ) (n : ℕ) {A B : Type 0} → (among xs n ≡ true → A) → (among ys n ≡ true → B) → among (xs ++ ys) n ≡ true → A ⊎ B
either-bound xs ys n f g h = elim (among-cases xs ys n h) [ inl q ↦ inl (f q) | inr q ↦ inr (g q) ]

pub flat-bound : (k : ℕ) (s : Substitution) (n : ℕ) → among (bound_in (flat_from k s)) n ≡ true → IsBound k s n
flat-bound k skip n h = absurd (cc)
flat-bound k (assign ps) n h = absurd (cc)
flat-bound k (pre p s) n h = flat-bound k s n h
flat-bound k (guard p s) n h = flat-bound k s n h
flat-bound k (choice s t) n h = bound-both k s t n (either-bound (bound_in (flat_from k s)) (bound_in (flat_from (k + length (copied s)) t)) n (flat-bound k s n) (flat-bound (k + length (copied s)) t n) h)
flat-bound k (if_else p s t) n h = bound-both k s t n (either-bound (bound_in (flat_from k s)) (bound_in (flat_from (k + length (copied s)) t)) n (flat-bound k s n) (flat-bound (k + length (copied s)) t n) h)
flat-bound k (any zs s) n h = elim (among-cases zs (bound_in (flat_from k s)) n h) [
  | inl q ↦ inl (among-left zs (bound_in s) n q)
  | inr q ↦ elim (flat-bound k s n q) [ inl y ↦ inl (among-right zs (bound_in s) n y) | inr y ↦ inr y ]
]
flat-bound k (seq s t) n h = bound-both k s t n (either-bound (bound_in (flat_from k s)) (bound_in (flat_from (k + length (copied s)) t)) n (flat-bound k s n) (flat-bound (k + length (copied s)) t n) h)
flat-bound k (par s t) n h =
    let j = k + length (copied s) + length (copied t) in
    let sides = length-append (copied s) (copied t) in
    let all = length-append (copied s ++ copied t) (writes s) in
    elim (copies-bound (copies_from j (writes s)) (flat_from k s) (flat_from (k + length (copied s)) t) n h) [
      | inl q ↦
          let low : j ≤ n = first-between j (writes s) n q in
          let high : n < j + length (writes s) = first-below j (writes s) n q in
          inr (omega (arith, low), omega (arith, high, sides, all))
      | inr q ↦ elim (bound-both k s t n (elim q [ inl y ↦ inl (flat-bound k s n y) | inr y ↦ inr (flat-bound (k + length (copied s)) t n y) ])) [
        | inl y ↦ inl y
        | inr y ↦ inr (y.0, omega (arith, y.1, all))
      ]
    ]
flat-bound k (assert p s) n h = flat-bound k s n h
flat-bound k (becomes_such xs p) n h = inl h
flat-bound k (loop p s i v) n h = flat-bound k s n h

-- ---- what stands in the rewritten
-- a renamed formula has the new name of some variable of the formula
mutual
  pub occurs-renamed : (by : ℕ → ℕ) (f : Formula) (n : ℕ) → occurs n (renamed by f) ≡ true → (m : ℕ) × (occurs m f ≡ true) × (n ≡ by m)
  occurs-renamed by (variable m) n h = (m, nat_eq-self m, sym (nat_eq-same (by m) n h))
  occurs-renamed by (unary o f) n h = occurs-renamed by f n h
  occurs-renamed by (binary o f g) n h = elim (or-cases (occurs n (renamed by f)) (occurs n (renamed by g)) h) [
    | inl q ↦ let k = occurs-renamed by f n q in (k.0, or-left (occurs k.0 f) (occurs k.0 g) k.1, k.2)
    | inr q ↦ let k = occurs-renamed by g n q in (k.0, or-right (occurs k.0 f) (occurs k.0 g) k.1, k.2)
  ]
  occurs-renamed by (for_all ts p) n h = occurs-renamed by p n h
  occurs-renamed by (for_some ts p) n h = occurs-renamed by p n h
  occurs-renamed by (comprehension rs p) n h = elim (or-cases (any_occurs n (all_replaced (λ n. variable (by n)) rs)) (occurs n (renamed by p)) h) [
    | inl q ↦ let k = any-renamed by rs n q in (k.0, or-left (any_occurs k.0 rs) (occurs k.0 p) k.1, k.2)
    | inr q ↦ let k = occurs-renamed by p n q in (k.0, or-right (any_occurs k.0 rs) (occurs k.0 p) k.1, k.2)
  ]
  occurs-renamed by (lambda rs p v) n h = elim (or-cases (any_occurs n (all_replaced (λ n. variable (by n)) rs) || occurs n (renamed by p)) (occurs n (renamed by v)) h) [
    | inl l ↦ elim (or-cases (any_occurs n (all_replaced (λ n. variable (by n)) rs)) (occurs n (renamed by p)) l) [
      | inl q ↦ let k = any-renamed by rs n q in (k.0, or-left (any_occurs k.0 rs || occurs k.0 p) (occurs k.0 v) (or-left (any_occurs k.0 rs) (occurs k.0 p) k.1), k.2)
      | inr q ↦ let k = occurs-renamed by p n q in (k.0, or-left (any_occurs k.0 rs || occurs k.0 p) (occurs k.0 v) (or-right (any_occurs k.0 rs) (occurs k.0 p) k.1), k.2)
    ]
    | inr q ↦ let k = occurs-renamed by v n q in (k.0, or-right (any_occurs k.0 rs || occurs k.0 p) (occurs k.0 v) k.1, k.2)
  ]
  occurs-renamed by _ n h = absurd (cc)

  any-renamed : (by : ℕ → ℕ) (fs : Formulas) (n : ℕ) → any_occurs n (all_replaced (λ n. variable (by n)) fs) ≡ true → (m : ℕ) × (any_occurs m fs ≡ true) × (n ≡ by m)
  any-renamed by no_formulas n h = absurd (cc)
  any-renamed by (formula_and f fs) n h = elim (or-cases (occurs n (renamed by f)) (any_occurs n (all_replaced (λ n. variable (by n)) fs)) h) [
    | inl q ↦ let k = occurs-renamed by f n q in (k.0, or-left (occurs k.0 f) (any_occurs k.0 fs) k.1, k.2)
    | inr q ↦ let k = any-renamed by fs n q in (k.0, or-right (occurs k.0 f) (any_occurs k.0 fs) k.1, k.2)
  ]

-- the numbers that are not below k
abbrev pub from : ℕ → ℕ → Bool
from k n = not (nat_lt n k)

pub from-at : (k n : ℕ) → k ≤ n → from k n ≡ true
from-at k n h = let e : nat_lt n k ≡ false = grind (arith, nat_tests) in ap not e

pub from-then : (k n : ℕ) → from k n ≡ true → k ≤ n
from-then k n h = by_test (nat_lt n k) refl h
  where
    low : nat_lt n k ≡ false → k ≤ n
    low q = grind (arith, nat_tests)

    by_test : (b : Bool) → nat_lt n k ≡ b → not b ≡ true → k ≤ n
    by_test true q y = absurd (cc)
    by_test false q y = low q

pub from-more : (k m n : ℕ) → k ≤ m → from m n ≡ true → from k n ≡ true
from-more k m n l h = let g : m ≤ n = from-then m n h in from-at k n (omega (arith, l, g))

pub from-not : (k n : ℕ) → n < k → from k n ≡ false
from-not k n l = let e : nat_lt n k ≡ true = grind (arith, nat_tests) in ap not e

module _ (off less : ℕ → Bool) (fewer : (n : ℕ) → less n ≡ true → off n ≡ true) where
  free-fewer : (f : Formula) → Free off f → Free less f
  free-fewer f a n o = a n (fewer n o)

  none-fewer : (zs : List ℕ) → NoneIn off zs → NoneIn less zs
  none-fewer zs a n o = a n (fewer n o)

  each-fewer : (ps : List (ℕ × Formula)) → Each (λ p. Free off p.1) ps → Each (λ p. Free less p.1) ps
  each-fewer [] a = tt
  each-fewer (p ∷ ps) a = (free-fewer p.1 a.0, each-fewer ps a.1)

  pub avoids-fewer : (s : Substitution) → Avoids off s → Avoids less s
  avoids-fewer skip a = tt
  avoids-fewer (assign ps) a = (none-fewer (firsts ps) a.0, each-fewer ps a.1)
  avoids-fewer (pre p s) a = (free-fewer p a.0, avoids-fewer s a.1)
  avoids-fewer (guard p s) a = (free-fewer p a.0, avoids-fewer s a.1)
  avoids-fewer (choice s t) a = (avoids-fewer s a.0, avoids-fewer t a.1)
  avoids-fewer (if_else p s t) a = (free-fewer p a.0, avoids-fewer s a.1, avoids-fewer t a.2)
  avoids-fewer (any zs s) a = (none-fewer zs a.0, avoids-fewer s a.1)
  avoids-fewer (seq s t) a = (avoids-fewer s a.0, avoids-fewer t a.1)
  avoids-fewer (par s t) a = (avoids-fewer s a.0, avoids-fewer t a.1)
  avoids-fewer (assert p s) a = (free-fewer p a.0, avoids-fewer s a.1)
  avoids-fewer (becomes_such xs p) a = (none-fewer (firsts xs) a.0, free-fewer p a.1)
  avoids-fewer (loop p s i v) a = (free-fewer p a.0, avoids-fewer s a.1, free-fewer i a.2, free-fewer v a.3)

  -- a name that passes the narrower test comes of none that does not pass the wider one
  module _ (by : ℕ → ℕ) (move : (m : ℕ) → off m ≡ false → less (by m) ≡ false) where
    free-renamed : (f : Formula) → Free off f → Free less (renamed by f)
    free-renamed f a n o = false-of (occurs n (renamed by f)) (λ h.
        let m = occurs-renamed by f n h in
        elim (cases (off m.0)) [
          | inl q ↦ clash (occurs m.0 f) m.1 (a m.0 q)
          | inr q ↦ clash (less n) o (ap less m.2 ∙ move m.0 q)
        ])

    each-renamed : (ps : List (ℕ × Formula)) → Each (λ p. Free off p.1) ps → Each (λ p. Free less p.1) (renamed_terms by ps)
    each-renamed [] a = tt
    each-renamed (p ∷ ps) a = (free-renamed p.1 a.0, each-renamed ps a.1)

    terms-renamed : (ps : List (ℕ × Formula)) → FreeTerms off ps → FreeTerms less (renamed_terms by ps)
    terms-renamed ps a = ((λ n o. ap (λ zs. among zs n) (firsts-renamed by ps) ∙ a.0 n (fewer n o)), each-renamed ps a.1)

    pub avoids-reading : (s : Substitution) → Avoids off s → Avoids less (reading by s)
    avoids-reading skip a = tt
    avoids-reading (assign ps) a = terms-renamed ps a
    avoids-reading (pre p s) a = (free-renamed p a.0, avoids-reading s a.1)
    avoids-reading (guard p s) a = (free-renamed p a.0, avoids-reading s a.1)
    avoids-reading (choice s t) a = (avoids-reading s a.0, avoids-reading t a.1)
    avoids-reading (if_else p s t) a = (free-renamed p a.0, avoids-reading s a.1, avoids-reading t a.2)
    avoids-reading (any zs s) a = (none-fewer zs a.0, avoids-reading s a.1)
    avoids-reading (seq s t) a = (avoids-reading s a.0, avoids-reading t a.1)
    avoids-reading (par s t) a = (avoids-reading s a.0, avoids-reading t a.1)
    avoids-reading (assert p s) a = (free-renamed p a.0, avoids-reading s a.1)
    avoids-reading (becomes_such xs p) a = (none-fewer (firsts xs) a.0, free-renamed p a.1)
    avoids-reading (loop p s i v) a = (free-renamed p a.0, avoids-reading s a.1, free-renamed i a.2, free-renamed v a.3)

-- an equation names its two variables
equation-free : (off : ℕ → Bool) (p : ℕ × ℕ) → off p.0 ≡ false → off p.1 ≡ false → Free off (equation p)
equation-free off p a b n o = false-of (occurs n (equation p)) (λ h. elim (or-cases (nat_eq p.0 n) (nat_eq p.1 n) h) [
  | inl q ↦ clash (off n) o (sym (ap off (nat_eq-same p.0 n q)) ∙ a)
  | inr q ↦ clash (off n) o (sym (ap off (nat_eq-same p.1 n q)) ∙ b)
])

both-free : (off : ℕ → Bool) (f g : Formula) → Free off f → Free off g → Free off (binary And f g)
both-free off f g a b n o = false-of (occurs n (binary And f g)) (λ h. elim (or-cases (occurs n f) (occurs n g) h) [ inl q ↦ clash (occurs n f) q (a n o) | inr q ↦ clash (occurs n g) q (b n o) ])

none-first : (off : ℕ → Bool) (z : ℕ) (zs : List ℕ) → NoneIn off (z ∷ zs) → off z ≡ false
none-first off z zs a = false-of (off z) (λ o. clash (nat_eq z z) (nat_eq-self z) (or-false (nat_eq z z) (among zs z) (a z o)).0)

none-rest : (off : ℕ → Bool) (z : ℕ) (zs : List ℕ) → NoneIn off (z ∷ zs) → NoneIn off zs
none-rest off z zs a n o = (or-false (nat_eq n z) (among zs n) (a n o)).1

equations-free : (off : ℕ → Bool) (f : Formula) (ps : List (ℕ × ℕ)) → Free off f → NoneIn off (firsts ps) → NoneIn off (seconds ps) → Free off (equations_onto f ps)
equations-free off f [] k a b = k
equations-free off f (p ∷ ps) k a b =
    equations-free off (binary And f (equation p)) ps
    (both-free off f (equation p) k (equation-free off p (none-first off p.0 (firsts ps) a) (none-first off p.1 (seconds ps) b)))
    (none-rest off p.0 (firsts ps) a) (none-rest off p.1 (seconds ps) b)

copies-avoid : (off less : ℕ → Bool) → ((n : ℕ) → less n ≡ true → off n ≡ true) → (ps : List (ℕ × ℕ)) → NoneIn less (firsts ps) → NoneIn less (seconds ps) → ((m : ℕ) → off m ≡ false → less (copy_of ps m) ≡ false) → (s t : Substitution) → Avoids off s → Avoids off t → Avoids less (by_copies ps s t)
copies-avoid off less fewer [] a b move s t x y = (avoids-fewer off less fewer s x, avoids-fewer off less fewer t y)
copies-avoid off less fewer (p ∷ ps) a b move s t x y = (
  a,
  (
    equations-free less (equation p) ps (equation-free less p (none-first less p.0 (firsts ps) a) (none-first less p.1 (seconds ps) b)) (none-rest less p.0 (firsts ps) a) (none-rest less p.1 (seconds ps) b),
    (avoids-fewer off less fewer s x, avoids-reading off less fewer (copy_of (p ∷ ps)) move t y),
  ),
)

-- of two rewritten parts, one after the other
both-avoid : (limit k : ℕ) → limit ≤ k → (s t : Substitution) → Avoids (from (k + length (copied s))) (flat_from k s) → Avoids (from (k + length (copied s) + length (copied t))) (flat_from (k + length (copied s)) t) → Avoids (from (k + length (copied s ++ copied t))) (flat_from k s) × Avoids (from (k + length (copied s ++ copied t))) (flat_from (k + length (copied s)) t)
both-avoid limit k m s t x y =
    let sides = length-append (copied s) (copied t) in
    let whole = k + length (copied s ++ copied t) in (
      avoids-fewer (from (k + length (copied s))) (from whole) (λ n o. from-more (k + length (copied s)) whole n (omega (arith, sides)) o) (flat_from k s) x,
      avoids-fewer (from (k + length (copied s) + length (copied t))) (from whole) (λ n o. from-more (k + length (copied s) + length (copied t)) whole n (omega (arith, sides)) o) (flat_from (k + length (copied s)) t) y,
    )

-- all numbers in it are below those that come after its copies
pub flat-avoids : (limit k : ℕ) → limit ≤ k → (s : Substitution) → Avoids (from limit) s → Avoids (from (k + length (copied s))) (flat_from k s)
flat-avoids limit k m skip a = tt
flat-avoids limit k m (assign ps) a = avoids-fewer (from limit) (from (k + 0)) (λ n o. from-more limit (k + 0) n (omega (arith, m)) o) (assign ps) a
flat-avoids limit k m (pre p s) a = (free-fewer (from limit) (from (k + length (copied s))) (λ n o. from-more limit (k + length (copied s)) n (omega (arith, m)) o) p a.0, flat-avoids limit k m s a.1)
flat-avoids limit k m (guard p s) a = (free-fewer (from limit) (from (k + length (copied s))) (λ n o. from-more limit (k + length (copied s)) n (omega (arith, m)) o) p a.0, flat-avoids limit k m s a.1)
flat-avoids limit k m (choice s t) a = both-avoid limit k m s t (flat-avoids limit k m s a.0) (flat-avoids limit (k + length (copied s)) (omega (arith, m)) t a.1)
flat-avoids limit k m (if_else p s t) a =
    let sides = both-avoid limit k m s t (flat-avoids limit k m s a.1) (flat-avoids limit (k + length (copied s)) (omega (arith, m)) t a.2) in
    (free-fewer (from limit) (from (k + length (copied s ++ copied t))) (λ n o. from-more limit (k + length (copied s ++ copied t)) n (omega (arith, m)) o) p a.0, sides.0, sides.1)
flat-avoids limit k m (any zs s) a = (none-fewer (from limit) (from (k + length (copied s))) (λ n o. from-more limit (k + length (copied s)) n (omega (arith, m)) o) zs a.0, flat-avoids limit k m s a.1)
flat-avoids limit k m (seq s t) a = both-avoid limit k m s t (flat-avoids limit k m s a.0) (flat-avoids limit (k + length (copied s)) (omega (arith, m)) t a.1)
flat-avoids limit k m (par s t) a =
    let j = k + length (copied s) + length (copied t) in
    let ps = copies_from j (writes s) in
    let total = k + length (copied s ++ copied t ++ writes s) in
    let sides = length-append (copied s) (copied t) in
    let all = length-append (copied s ++ copied t) (writes s) in
    let high : (n : ℕ) → among (firsts ps) n ≡ true → from total n ≡ false = λ n q. from-not total n (let l : n < j + length (writes s) = first-below j (writes s) n q in omega (arith, l, sides, all)) in
    let fewer : (n : ℕ) → from total n ≡ true → from j n ≡ true = λ n o. from-more j total n (omega (arith, sides, all)) o in
    copies-avoid (from j) (from total) fewer ps
    (λ n o. false-of (among (firsts ps) n) (λ q. clash (from total n) o (high n q)))
    (λ n o. false-of (among (seconds ps) n) (λ q. clash (among (written s) n) (sym (among-in_order (written s) n) ∙ subst (λ ys. among ys n ≡ true) (seconds-copies j (writes s)) q) (written-avoided (from limit) s a.0 n (from-more limit total n (omega (arith, m)) o))))
    (λ x o. elim (copy-cases ps x) [
      | inl q ↦ ap (from total) q ∙ false-of (from total x) (λ y. clash (from j x) (fewer x y) o)
      | inr q ↦ high (copy_of ps x) q.0
    ])
    (flat_from k s) (flat_from (k + length (copied s)) t)
    (avoids-fewer (from (k + length (copied s))) (from j) (λ n o. from-more (k + length (copied s)) j n (omega arith) o) (flat_from k s) (flat-avoids limit k m s a.0))
    (flat-avoids limit (k + length (copied s)) (omega (arith, m)) t a.1)
flat-avoids limit k m (assert p s) a = (free-fewer (from limit) (from (k + length (copied s))) (λ n o. from-more limit (k + length (copied s)) n (omega (arith, m)) o) p a.0, flat-avoids limit k m s a.1)
flat-avoids limit k m (becomes_such xs p) a = avoids-fewer (from limit) (from (k + 0)) (λ n o. from-more limit (k + 0) n (omega (arith, m)) o) (becomes_such xs p) a
flat-avoids limit k m (loop p s i v) a =
    let fewer : (n : ℕ) → from (k + length (copied s)) n ≡ true → from limit n ≡ true = λ n o. from-more limit (k + length (copied s)) n (omega (arith, m)) o in
    let free = λ (f : Formula) (x : Free (from limit) f). free-fewer (from limit) (from (k + length (copied s))) fewer f x in
    (free p a.0, flat-avoids limit k m s a.1, free i a.2, free v a.3)
