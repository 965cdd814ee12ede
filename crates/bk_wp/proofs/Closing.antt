-- Variables made bound: the formula means what it means where they have the bound values.
use Rattle.std.proofs.Common.{◌≡◌, ℕ, zero, suc, ◌+◌, ◌<◌, List, [], ◌∷◌, length, refl, sym, ◌∙◌, ap, subst, Bool, true, false, cond, nat_eq, arith, rules}
use Rattle.std.specs.Prelude.{Some, All, IsTrue, slice_get, unwrap_or}
use Rattle.std.specs.Option.{option_map}
use Rattle.std.proofs.lemmas.List.Elements.{All-head, All-tail}
use Rattle.bk_val.specs.Value.{MathValue}
use Rattle.bk_val.specs.ValueType.{ValueType, bool_type, base_of, is_value_of}
use Rattle.bk_form.specs.Table.{Table, VariableEntry, set_size, variable_type, is_among_sets, IsWellFormed}
use Rattle.bk_form.specs.Formula.{Formula, variable, bound, unary, binary, for_all, for_some, comprehension, lambda, Formulas, no_formulas, formula_and}
use Rattle.bk_form.specs.Search.{Finder}
use Rattle.bk_form.specs.Environment.{Environment, Binding, State, bindings, under, at_state}
use Rattle.bk_form.specs.Role.{bind, given_by, bound_role, gives, if_holds}
use Rattle.bk_form.specs.Replacement.{count, IsClosed, AreClosed}
use Rattle.bk_form.specs.Meaning.{meaning, meanings, truth, of_value, bound_meaning, unary_meaning, binary_meaning, all_meaning, some_meaning, comprehension_meaning, lambda_meaning, range_types}
use Rattle.bk_form.proofs.Agreement.{length-ranges}
use Rattle.bk_form.proofs.Members.{and-both}
use Rattle.bk_gsl.specs.State.{holds, declared_type, are_values_for, with_value, with_values}
use Rattle.bk_gsl.specs.Typed.{IsListed, AreListed}
use Rattle.bk_gsl.proofs.States.{nat_eq-same}
use Rattle.bk_bind.specs.Closing.{closed_over, all_closed_over, closed_over_each}
use Rattle.bk_wp.specs.Quantifiers.{types_of}

count-closed_over : (z k : ℕ) (rs : Formulas) → count rs ≡ count (all_closed_over z k rs)
count-closed_over z k no_formulas = refl
count-closed_over z k (formula_and r rs) = ap suc (count-closed_over z k rs)

module _ (z : ℕ) where
  mutual
    pub closed-closed_over : (k : ℕ) (f : Formula) → IsClosed k f → IsClosed (suc k) (closed_over z k f)
    closed-closed_over k (variable i) c = elim (nat_eq i z) as (λ b. IsClosed (suc k) (cond b (bound k) (variable i))) [ true ↦ omega arith | false ↦ tt ]
    closed-closed_over k (bound i) c = omega arith
    closed-closed_over k (unary o f) c = closed-closed_over k f c
    closed-closed_over k (binary o f h) c = (closed-closed_over k f c.0, closed-closed_over k h c.1)
    closed-closed_over k (for_all ts p) c = let e : length ts + suc k ≡ suc (length ts + k) = omega arith in rw e (closed-closed_over (length ts + k) p c)
    closed-closed_over k (for_some ts p) c = let e : length ts + suc k ≡ suc (length ts + k) = omega arith in rw e (closed-closed_over (length ts + k) p c)
    closed-closed_over k (comprehension rs p) c = let e : suc (count rs + k) ≡ count rs + suc k = omega arith in (all-closed-closed_over k rs c.0, subst (λ x. IsClosed (x + suc k) (closed_over z (count rs + k) p)) (count-closed_over z k rs) (subst (λ x. IsClosed x (closed_over z (count rs + k) p)) e (closed-closed_over (count rs + k) p c.1)))
    closed-closed_over k (lambda rs p v) c = let e : suc (count rs + k) ≡ count rs + suc k = omega arith in (all-closed-closed_over k rs c.0, subst (λ x. IsClosed (x + suc k) (closed_over z (count rs + k) p)) (count-closed_over z k rs) (subst (λ x. IsClosed x (closed_over z (count rs + k) p)) e (closed-closed_over (count rs + k) p c.1)), subst (λ x. IsClosed (x + suc k) (closed_over z (count rs + k) v)) (count-closed_over z k rs) (subst (λ x. IsClosed x (closed_over z (count rs + k) v)) e (closed-closed_over (count rs + k) v c.2)))
    closed-closed_over k _ c = tt

    all-closed-closed_over : (k : ℕ) (fs : Formulas) → AreClosed k fs → AreClosed (suc k) (all_closed_over z k fs)
    all-closed-closed_over k no_formulas c = tt
    all-closed-closed_over k (formula_and f fs) c = (closed-closed_over k f c.0, all-closed-closed_over k fs c.1)

pub closed-each : (zs : List ℕ) (f : Formula) → IsClosed 0 f → IsClosed (length zs) (closed_over_each zs f)
closed-each [] f c = c
closed-each (z ∷ zs) f c = closed-closed_over z (length zs) (closed_over_each zs f) (closed-each zs f c)

pub length-types : (table : Table) (zs : List ℕ) → length (types_of table zs) ≡ length zs
length-types table [] = refl
length-types table (z ∷ zs) = ap suc (length-types table zs)

-- under a quantifier over the variables
pub closed-under : (table : Table) (zs : List ℕ) (f : Formula) → IsClosed (length zs) f → IsClosed (length (types_of table zs) + 0) f
closed-under table zs f c = let e : length zs ≡ length (types_of table zs) + 0 = omega (arith, length-types table zs) in subst (λ n. IsClosed n f) e c

-- ---- one binding more behind the innermost k
record Closing (k : ℕ) (x : Binding) (a b : List Binding) : Type 0 where
  same : (i : ℕ) → i < k → slice_get b i ≡ slice_get a i
  last : slice_get b k ≡ Some x

Closing-cons : {k : ℕ} {x : Binding} {a b : List Binding} (y : Binding) → Closing k x a b → Closing (suc k) x (y ∷ a) (y ∷ b)
Closing-cons {k} {x} {a} {b} y h = record { same = at; last = h.last }
  where
    at : (i : ℕ) → i < suc k → slice_get (y ∷ b) i ≡ slice_get (y ∷ a) i
    at zero p = refl
    at (suc i) p = h.same i (omega arith)

Closing-bind : (ts : List ValueType) (vs : List MathValue) {k : ℕ} {x : Binding} {a b : List Binding} → Closing k x a b → Closing (length ts + k) x (bind (bindings ts vs) a) (bind (bindings ts vs) b)
Closing-bind [] vs {k} h = let e : zero + k ≡ k = omega arith in rw e h
Closing-bind (t ∷ ts) [] {k} h = let e : suc (length ts) + k ≡ length ts + suc k = omega arith in rw e (Closing-bind ts [] (Closing-cons (t, base_of t) h))
Closing-bind (t ∷ ts) (v ∷ vs) {k} h = let e : suc (length ts) + k ≡ length ts + suc k = omega arith in rw e (Closing-bind ts vs (Closing-cons (t, v) h))

Closing-ranges : (n : ℕ) (ts us : List ValueType) (vs : List MathValue) {k : ℕ} {x : Binding} {a b : List Binding} → ts ≡ us → length ts ≡ n → Closing k x a b → Closing (n + k) x (bind (bindings us vs) a) (bind (bindings ts vs) b)
Closing-ranges n ts us vs {k} {x} {a} {b} e d h = subst (λ y. Closing (n + k) x (bind (bindings y vs) a) (bind (bindings ts vs) b)) e (subst (λ j. Closing (j + k) x (bind (bindings ts vs) a) (bind (bindings ts vs) b)) d (Closing-bind ts vs h))

module _ (find : Finder) (e : Environment) (z : ℕ) (t : ValueType) (v : MathValue) (given : bound_role e.table (Some t) ≡ given_by (variable_type e.table z)) where
  abbrev inner : List Binding → Environment
  inner b = record e { bound = b }

  abbrev outer : List Binding → Environment
  outer a = record e { state = with_value e.state z v; bound = a }

  mutual
    meaning-closing : (k : ℕ) (a b : List Binding) (f : Formula) → IsClosed k f → Closing k (t, v) a b → meaning find (inner b) (closed_over z k f) ≡ meaning find (outer a) f
    meaning-closing k a b (variable n) c h = by_test (nat_eq n z) refl
      where
        by_test : (x : Bool) → nat_eq n z ≡ x → meaning find (record e { bound = b }) (cond x (bound k) (variable n)) ≡ of_value (given_by (variable_type e.table n)) (cond x v (e.state n))
        by_test true q = ap (bound_meaning e.table) h.last ∙ ap (λ r. of_value r v) given ∙ ap (λ m. of_value (given_by (variable_type e.table m)) v) (sym (nat_eq-same n z q))
        by_test false q = refl
    meaning-closing k a b (bound n) c h = ap (bound_meaning e.table) (h.same n c)
    meaning-closing k a b (unary o f) c h = λ i. unary_meaning o (meaning-closing k a b f c h i)
    meaning-closing k a b (binary o f g) c h = λ i. binary_meaning find (set_size e.table) o (meaning-closing k a b f c.0 h i) (meaning-closing k a b g c.1 h i)
    meaning-closing k a b (for_all ts p) c h = λ i. all_meaning find e.table ts (λ vs. meaning-closing (length ts + k) (bind (bindings ts vs) a) (bind (bindings ts vs) b) p c (Closing-bind ts vs h) i)
    meaning-closing k a b (for_some ts p) c h = λ i. some_meaning find e.table ts (λ vs. meaning-closing (length ts + k) (bind (bindings ts vs) a) (bind (bindings ts vs) b) p c (Closing-bind ts vs h) i)
    meaning-closing k a b (comprehension rs p) c h =
        let r = meanings-closing k a b rs c.0 h in
        let x = range_types (meanings find (inner b) (all_closed_over z k rs)) in
        let y = range_types (meanings find (outer a) rs) in
        let l = ap length (ap range_types r) ∙ length-ranges find (outer a) rs in
        λ i. comprehension_meaning (r i) (λ vs. meaning-closing (count rs + k) (bind (bindings y vs) a) (bind (bindings x vs) b) p c.1 (Closing-ranges (count rs) x y vs (ap range_types r) l h) i)
    meaning-closing k a b (lambda rs p w) c h =
        let r = meanings-closing k a b rs c.0 h in
        let x = range_types (meanings find (inner b) (all_closed_over z k rs)) in
        let y = range_types (meanings find (outer a) rs) in
        let l = ap length (ap range_types r) ∙ length-ranges find (outer a) rs in
        λ i. lambda_meaning (r i) (λ vs. meaning-closing (count rs + k) (bind (bindings y vs) a) (bind (bindings x vs) b) p c.1 (Closing-ranges (count rs) x y vs (ap range_types r) l h) i) (λ vs. meaning-closing (count rs + k) (bind (bindings y vs) a) (bind (bindings x vs) b) w c.2 (Closing-ranges (count rs) x y vs (ap range_types r) l h) i)
    meaning-closing k a b _ c h = refl

    meanings-closing : (k : ℕ) (a b : List Binding) (fs : Formulas) → AreClosed k fs → Closing k (t, v) a b → meanings find (inner b) (all_closed_over z k fs) ≡ meanings find (outer a) fs
    meanings-closing k a b no_formulas c h = refl
    meanings-closing k a b (formula_and f fs) c h = λ i. meaning-closing k a b f c.0 h i ∷ meanings-closing k a b fs c.1 h i

-- ---- listed variables
listed-at : (number : ℕ) (vars : List VariableEntry) → All (λ v. IsTrue (is_among_sets number v.of_type)) vars → (n : ℕ) (t : ValueType) → option_map (λ v. v.of_type) (slice_get vars n) ≡ Some t → is_among_sets number t ≡ true
listed-at number [] h n t e = absurd (cc)
listed-at number (v ∷ vars) h zero t e = let q : v.of_type ≡ t = cc in subst (λ x. is_among_sets number x ≡ true) q (true-then (is_among_sets number v.of_type) (All-head (λ v. IsTrue (is_among_sets number v.of_type)) v vars h))
  where
    true-then : (b : Bool) → IsTrue b → b ≡ true
    true-then true h = refl
    true-then false h = absurd (search (rules, h))
listed-at number (v ∷ vars) h (suc n) t e = listed-at number vars (All-tail (λ v. IsTrue (is_among_sets number v.of_type)) v vars h) n t e

pub declared-listed : (table : Table) → IsWellFormed table → (z : ℕ) → IsListed table z → bound_role table (Some (declared_type table z)) ≡ given_by (variable_type table z)
declared-listed table facts z l =
    let k = listed-at (length table.sets) table.variables facts.listed z l.0 l.1 in
    ap (λ o. bound_role table (Some (unwrap_or o bool_type))) l.1 ∙ ap (λ b. if_holds b (gives l.0)) k ∙ sym (ap given_by l.1)

module _ (find : Finder) (table : Table) (facts : IsWellFormed table) where
  -- the variables bound together mean what they mean in the state with the values
  meaning-each : (e : State) (zs : List ℕ) (vs : List MathValue) (f : Formula) → IsClosed 0 f → AreListed table zs → are_values_for table zs vs ≡ true → meaning find (under (at_state table e) (types_of table zs) vs) (closed_over_each zs f) ≡ meaning find (at_state table (with_values e zs vs)) f
  meaning-each e [] vs f c l o = refl
  meaning-each e (z ∷ zs) [] f c l o = absurd (cc)
  meaning-each e (z ∷ zs) (v ∷ vs) f c l o =
      let t = declared_type table z in
      let ts = types_of table zs in
      let k : length ts + 0 ≡ length zs = omega (arith, length-types table zs) in
      let start : Closing 0 (t, v) [] ((t, v) ∷ []) = record { same = λ i p. absurd (omega arith); last = refl } in
      let g = subst (λ n. Closing n (t, v) (bind (bindings ts vs) []) (bind (bindings ts vs) ((t, v) ∷ []))) k (Closing-bind ts vs start) in
      meaning-closing find (at_state table e) z t v (declared-listed table facts z l.0) (length zs) (bind (bindings ts vs) []) (bind (bindings ts vs) ((t, v) ∷ [])) (closed_over_each zs f) (closed-each zs f c) g
      ∙ meaning-each (with_value e z v) zs vs f c l.1 ((and-both (is_value_of (set_size table) t v) (are_values_for table zs vs) o).1)

  pub holds-each : (e : State) (zs : List ℕ) (vs : List MathValue) (f : Formula) → IsClosed 0 f → AreListed table zs → are_values_for table zs vs ≡ true → truth find (under (at_state table e) (types_of table zs) vs) (closed_over_each zs f) ≡ holds find table (with_values e zs vs) f
  holds-each e zs vs f c l o = ap (λ m. m.truth) (meaning-each e zs vs f c l o)
