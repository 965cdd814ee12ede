-- States, and what is put into them.
use Rattle.std.proofs.Common.{◌≡◌, ◌⊎◌, inl, inr, ℕ, List, [], ◌∷◌, ◌++◌, refl, sym, ◌∙◌, ap, subst, Bool, true, false, not, cond, ◌||◌, arith, nat_eq, nat_lt}
use Rattle.std.specs.Prelude.{Some, unwrap_or}
use Rattle.std.specs.List.{filter}
use Rattle.std.proofs.lemmas.Bool.Decides.{nat_tests}
use Rattle.bk_val.specs.Value.{MathValue}
use Rattle.bk_val.specs.ValueType.{ValueType, bool_type, is_value_of}
use Rattle.bk_form.specs.Table.{Table, set_size, variable_type}
use Rattle.bk_form.specs.Environment.{State, IsTypedState}
use Rattle.bk_form.proofs.Members.{and-both}
use Rattle.bk_gsl.specs.State.{declared_type, are_values_for, with_value, with_values, among, over}
use Rattle.bk_gsl.specs.Writes.{inserted, in_order}

pub cases : (b : Bool) → (b ≡ true) ⊎ (b ≡ false)
cases true = inl refl
cases false = inr refl

pub clash : {A : Type 0} (b : Bool) → b ≡ true → b ≡ false → A
clash b h k = let e : true ≡ false = sym h ∙ k in absurd (cc)

pub or-false : (a b : Bool) → (a || b) ≡ false → (a ≡ false) × (b ≡ false)
or-false true b h = absurd (cc)
or-false false b h = (refl, h)

pub nat_eq-same : (n z : ℕ) → nat_eq n z ≡ true → n ≡ z
nat_eq-same n z h = grind (arith, nat_tests)

pub nat_eq-self : (n : ℕ) → nat_eq n n ≡ true
nat_eq-self n = grind (arith, nat_tests)

-- ---- one state over another
pub over-at : (off : ℕ → Bool) (d e : State) (n : ℕ) → off n ≡ true → over off d e n ≡ d n
over-at off d e n h = ap (λ b. cond b (d n) (e n)) h

pub over-off : (off : ℕ → Bool) (d e : State) (n : ℕ) → off n ≡ false → over off d e n ≡ e n
over-off off d e n h = ap (λ b. cond b (d n) (e n)) h

-- ---- values for variables
pub with_values-out : (e : State) (zs : List ℕ) (vs : List MathValue) (n : ℕ) → among zs n ≡ false → with_values e zs vs n ≡ e n
with_values-out e [] vs n h = refl
with_values-out e (z ∷ zs) [] n h = refl
with_values-out e (z ∷ zs) (v ∷ vs) n h = let k = or-false (nat_eq n z) (among zs n) h in with_values-out (with_value e z v) zs vs n k.1 ∙ ap (λ b. cond b v (e n)) k.0

pub with_values-same : (e d : State) (zs : List ℕ) (vs : List MathValue) (n : ℕ) → e n ≡ d n → with_values e zs vs n ≡ with_values d zs vs n
with_values-same e d [] vs n h = h
with_values-same e d (z ∷ zs) [] n h = h
with_values-same e d (z ∷ zs) (v ∷ vs) n h = with_values-same (with_value e z v) (with_value d z v) zs vs n (ap (cond (nat_eq n z) v) h)

declared : (table : Table) (n : ℕ) (t : ValueType) → variable_type table n ≡ Some t → declared_type table n ≡ t
declared table n t h = ap (λ o. unwrap_or o bool_type) h

pub with_value-typed : (table : Table) (e : State) → IsTypedState table e → (z : ℕ) (v : MathValue) → is_value_of (set_size table) (declared_type table z) v ≡ true → IsTypedState table (with_value e z v)
with_value-typed table e k z v o = record { typed = λ n t h. at n t h (nat_eq n z) refl }
  where
    at : (n : ℕ) (t : ValueType) → variable_type table n ≡ Some t → (b : Bool) → nat_eq n z ≡ b → is_value_of (set_size table) t (cond b v (e n)) ≡ true
    at n t h true q = subst (λ x. is_value_of (set_size table) x v ≡ true) (ap (declared_type table) (sym (nat_eq-same n z q)) ∙ declared table n t h) o
    at n t h false q = k.typed n t h

pub with_values-typed : (table : Table) (e : State) → IsTypedState table e → (zs : List ℕ) (vs : List MathValue) → are_values_for table zs vs ≡ true → IsTypedState table (with_values e zs vs)
with_values-typed table e k [] vs o = k
with_values-typed table e k (z ∷ zs) [] o = k
with_values-typed table e k (z ∷ zs) (v ∷ vs) o =
    let w = and-both (is_value_of (set_size table) (declared_type table z) v) (are_values_for table zs vs) o in
    with_values-typed table (with_value e z v) (with_value-typed table e k z v w.0) zs vs w.1

pub over-typed : (table : Table) (off : ℕ → Bool) (d e : State) → IsTypedState table d → IsTypedState table e → IsTypedState table (over off d e)
over-typed table off d e h k = record { typed = λ n t q. elim (off n) as (λ b. is_value_of (set_size table) t (cond b (d n) (e n)) ≡ true) [ true ↦ h.typed n t q | false ↦ k.typed n t q ] }

-- ---- lists of variables
pub among-append : (xs ys : List ℕ) (n : ℕ) → among (xs ++ ys) n ≡ (among xs n || among ys n)
among-append [] ys n = refl
among-append (x ∷ xs) ys n = ap (λ b. nat_eq n x || b) (among-append xs ys n) ∙ assoc (nat_eq n x) (among xs n) (among ys n)
  where
    assoc : (a b c : Bool) → (a || (b || c)) ≡ ((a || b) || c)
    assoc true b c = refl
    assoc false b c = refl

pub among-both : (xs ys : List ℕ) (n : ℕ) → among (xs ++ ys) n ≡ false → (among xs n ≡ false) × (among ys n ≡ false)
among-both xs ys n h = or-false (among xs n) (among ys n) (sym (among-append xs ys n) ∙ h)

pub among-neither : (xs ys : List ℕ) (n : ℕ) → among xs n ≡ false → among ys n ≡ false → among (xs ++ ys) n ≡ false
among-neither xs ys n h k = among-append xs ys n ∙ ap (λ b. b || among ys n) h ∙ k

-- what is not among all is not among the rest
pub among-kept : (zs xs : List ℕ) (n : ℕ) → among xs n ≡ false → among (filter (λ m. not (among zs m)) xs) n ≡ false
among-kept zs [] n h = refl
among-kept zs (x ∷ xs) n h = by_test (among-kept zs xs n k.1) (among zs x)
  where
    k : (nat_eq n x ≡ false) × (among xs n ≡ false)
    k = or-false (nat_eq n x) (among xs n) h

    by_test : among (filter (λ m. not (among zs m)) xs) n ≡ false → (b : Bool) → among (cond (not b) (x ∷ filter (λ m. not (among zs m)) xs) (filter (λ m. not (among zs m)) xs)) n ≡ false
    by_test on true = on
    by_test on false = ap (λ b. b || among (filter (λ m. not (among zs m)) xs) n) k.0 ∙ on

-- a variable that is not bound, and not among the rest, is not among all
pub among-without : (zs xs : List ℕ) (n : ℕ) → among (filter (λ m. not (among zs m)) xs) n ≡ false → among zs n ≡ false → among xs n ≡ false
among-without zs [] n h k = refl
among-without zs (x ∷ xs) n h k = by_test (λ l. among-without zs xs n l k) (among zs x) refl h
  where
    other : among zs x ≡ true → nat_eq n x ≡ false
    other q = elim (cases (nat_eq n x)) [ inl r ↦ clash (among zs x) q (ap (among zs) (sym (nat_eq-same n x r)) ∙ k) | inr r ↦ r ]

    none : (a b : Bool) → a ≡ false → b ≡ false → (a || b) ≡ false
    none a b p q = rw (p, q)

    by_test : (among (filter (λ m. not (among zs m)) xs) n ≡ false → among xs n ≡ false) → (b : Bool) → among zs x ≡ b → among (cond (not b) (x ∷ filter (λ m. not (among zs m)) xs) (filter (λ m. not (among zs m)) xs)) n ≡ false → (nat_eq n x || among xs n) ≡ false
    by_test on true q l = none (nat_eq n x) (among xs n) (other q) (on l)
    by_test on false q l = let w = or-false (nat_eq n x) (among (filter (λ m. not (among zs m)) xs) n) l in none (nat_eq n x) (among xs n) w.0 (on w.1)

among-inserted : (m : ℕ) (xs : List ℕ) (n : ℕ) → among (inserted m xs) n ≡ (nat_eq n m || among xs n)
among-inserted m [] n = refl
among-inserted m (x ∷ xs) n = by_tests (among-inserted m xs n) (nat_lt m x) (nat_eq m x) refl
  where
    twice : (a b : Bool) → (a || b) ≡ (a || (a || b))
    twice true b = refl
    twice false b = refl

    swapped : (a b c : Bool) → (a || (b || c)) ≡ (b || (a || c))
    swapped true true c = refl
    swapped true false c = refl
    swapped false b c = refl

    by_tests : among (inserted m xs) n ≡ (nat_eq n m || among xs n) → (a b : Bool) → nat_eq m x ≡ b → among (cond a (m ∷ x ∷ xs) (cond b (x ∷ xs) (x ∷ inserted m xs))) n ≡ (nat_eq n m || (nat_eq n x || among xs n))
    by_tests on true b q = refl
    by_tests on false true q = twice (nat_eq n x) (among xs n) ∙ ap (λ y. nat_eq n y || (nat_eq n x || among xs n)) (sym (nat_eq-same m x q))
    by_tests on false false q = ap (λ b. nat_eq n x || b) on ∙ swapped (nat_eq n x) (nat_eq n m) (among xs n)

pub among-in_order : (xs : List ℕ) (n : ℕ) → among (in_order xs) n ≡ among xs n
among-in_order [] n = refl
among-in_order (x ∷ xs) n = among-inserted x (in_order xs) n ∙ ap (λ b. nat_eq n x || b) (among-in_order xs n)
