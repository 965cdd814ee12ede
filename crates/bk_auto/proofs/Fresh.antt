-- New variables have the types that were asked for, and stand in no formula that was typed before.
use Rattle.std.proofs.Common.{◌≡◌, inl, inr, ℕ, zero, suc, ◌+◌, ◌<◌, ◌≤◌, List, [], ◌∷◌, ◌++◌, length, length-append, map, refl, sym, ◌∙◌, ap, subst, Bool, true, false, not, ◌&&◌, ◌||◌, nat_eq, arith}
use Rattle.std.proofs.lemmas.Bool.{cases_Bool}
use Rattle.std.proofs.lemmas.Bool.Decides.{nat_tests}
use Rattle.std.proofs.lemmas.List.{append-nil, append_assoc}
use Rattle.std.proofs.lemmas.Option.{slice_get_within}
use Rattle.std.specs.Prelude.{Option, Some, None, slice_get}
use Rattle.std.specs.Option.{option_map}
use Rattle.std.specs.List.{list_any, list_all}
use Rattle.bk_val.specs.ValueType.{ValueType, int_type, set_type, pair_type}
use Rattle.bk_form.specs.Table.{Table, VariableEntry, variable_type, IsWellFormed}
use Rattle.bk_form.specs.Wider.{IsWider}
use Rattle.bk_form.specs.Formula.{Formula, variable, unary, binary, for_all, for_some, comprehension, lambda, Formulas, no_formulas, formula_and}
use Rattle.bk_form.specs.Role.{Role, gives, predicate, untyped, given_by, same_type, if_predicate, if_value, unary_role, binary_role, role, roles, bind, gives_set, each_gives_set, element_types, tuple_type}
use Rattle.bk_form.specs.Replacement.{occurs, any_occurs}
use Rattle.bk_form.specs.Each.{Each}
use Rattle.bk_form.specs.Predicates.{IsPredicate}
use Rattle.bk_form.proofs.Closed.{IsSome, unary-none, left-none, right-none, predicate-none, quantifier-some, ranges-some, are-each, set-some, both}
use Rattle.bk_form.proofs.Equations.{same_type-self}
use Rattle.bk_form.proofs.Members.{or-cases, and-true}
use Rattle.bk_seq.specs.Sequents.{Sequent, Types}
use Rattle.bk_kernel.specs.Naming.{gives_type, give_each, names_of, is_new, are_distinct, are_fresh}
use Rattle.bk_auto.specs.Found.{numbers_from, GrewBy}

-- ---- a formula that is typed has only listed variables
abbrev IsListed : Table → ℕ → Type 0
IsListed table n = (t : ValueType) × (variable_type table n ≡ Some t)

nat_eq-same : (m n : ℕ) → nat_eq m n ≡ true → m ≡ n
nat_eq-same m n h = grind (arith, nat_tests)

listed-or-none : (table : Table) (n : ℕ) (o : Option ValueType) → variable_type table n ≡ o → IsSome (given_by o) → IsListed table n
listed-or-none table n None e h = absurd (h refl)
listed-or-none table n (Some t) e h = (t, e)

module _ (table : Table) (n : ℕ) where
  mutual
    occurs-listed : (around : List ValueType) (f : Formula) → IsSome (role table around f) → occurs n f ≡ true → IsListed table n
    occurs-listed around (variable m) h o = let w = listed-or-none table m (variable_type table m) refl h in (w.0, subst (λ x. variable_type table x ≡ Some w.0) (nat_eq-same m n o) w.1)
    occurs-listed around (unary op a) h o = occurs-listed around a (λ k. h (ap (unary_role op) k ∙ unary-none op)) o
    occurs-listed around (binary op a b) h o = elim (or-cases (occurs n a) (occurs n b) o) [
      | inl q ↦ occurs-listed around a (λ k. h (ap (λ r. binary_role op r (role table around b)) k ∙ left-none op (role table around b))) q
      | inr q ↦ occurs-listed around b (λ k. h (ap (binary_role op (role table around a)) k ∙ right-none op (role table around a))) q
    ]
    occurs-listed around (for_all ts p) h o = occurs-listed (bind ts around) p (quantifier-some table ts (role table (bind ts around) p) h) o
    occurs-listed around (for_some ts p) h o = occurs-listed (bind ts around) p (quantifier-some table ts (role table (bind ts around) p) h) o
    occurs-listed around (comprehension rs p) h o =
        let ts = element_types (roles table around rs) in
        let t = set_type (tuple_type ts) in
        let k = ranges-some (roles table around rs) (if_predicate (gives t) (role table (bind ts around) p)) h in
        elim (or-cases (any_occurs n rs) (occurs n p) o) [
          | inl q ↦ any-occurs-listed around rs (are-each (roles table around rs) k.0) q
          | inr q ↦ occurs-listed (bind ts around) p (λ x. k.1 (ap (if_predicate (gives t)) x)) q
        ]
    occurs-listed around (lambda rs p v) h o =
        let ts = element_types (roles table around rs) in
        let q = role table (bind ts around) p in
        let w = role table (bind ts around) v in
        let image : Role → Role = if_value (λ u. gives (set_type (pair_type (tuple_type ts) u))) in
        let k = ranges-some (roles table around rs) (if_predicate (image w) q) h in
        elim (or-cases (any_occurs n rs || occurs n p) (occurs n v) o) [
          | inl y ↦ elim (or-cases (any_occurs n rs) (occurs n p) y) [
            | inl z ↦ any-occurs-listed around rs (are-each (roles table around rs) k.0) z
            | inr z ↦ occurs-listed (bind ts around) p (λ x. k.1 (ap (if_predicate (image w)) x)) z
          ]
          | inr z ↦ occurs-listed (bind ts around) v (λ x. k.1 (ap (λ y. if_predicate (image y) q) x ∙ predicate-none q)) z
        ]
    occurs-listed around _ h o = absurd (cc)

    any-occurs-listed : (around : List ValueType) (fs : Formulas) → each_gives_set (roles table around fs) ≡ true → any_occurs n fs ≡ true → IsListed table n
    any-occurs-listed around no_formulas h o = absurd (cc)
    any-occurs-listed around (formula_and f fs) h o =
        let k = both (gives_set (role table around f)) (each_gives_set (roles table around fs)) h in
        elim (or-cases (occurs n f) (any_occurs n fs) o) [
          | inl q ↦ occurs-listed around f (set-some (role table around f) k.0) q
          | inr q ↦ any-occurs-listed around fs k.1 q
        ]

listed-below : (vs : List VariableEntry) (n : ℕ) (t : ValueType) → option_map (λ v. v.of_type) (slice_get vs n) ≡ Some t → n < length vs
listed-below vs n t e = at (slice_get vs n) refl e
  where
    at : (o : Option VariableEntry) → slice_get vs n ≡ o → option_map (λ v. v.of_type) o ≡ Some t → n < length vs
    at None q h = absurd (cc)
    at (Some v) q h = slice_get_within vs n v q

module _ (table : Table) (n : ℕ) (beyond : length table.variables ≤ n) where
  new-in : (p : Formula) → IsPredicate table p → not (occurs n p) ≡ true
  new-in p h = elim (cases_Bool (occurs n p)) [
    | inl q ↦
        let w = occurs-listed table n [] p (λ k. let e : predicate ≡ untyped = sym h ∙ k in cc) q in
        let below : n < length table.variables = listed-below table.variables n w.0 w.1 in
        absurd (omega arith)
    | inr q ↦ ap not q
  ]

  new-all : (ps : List Formula) → Each (IsPredicate table) ps → is_new ps n ≡ true
  new-all [] h = refl
  new-all (p ∷ ps) h = and-true (not (occurs n p)) (is_new ps n) (new-in p h.0) (new-all ps h.1)

all-new : (table : Table) (ps : List Formula) (n k : ℕ) → length table.variables ≤ n → Each (IsPredicate table) ps → list_all (is_new ps) (numbers_from n k) ≡ true
all-new table ps n zero b h = refl
all-new table ps n (suc k) b h = and-true (is_new ps n) (list_all (is_new ps) (numbers_from (suc n) k)) (new-all table n b ps h) (all-new table ps (suc n) k (omega arith) h)

-- ---- each number once
not-after : (m n k : ℕ) → m < n → list_any (nat_eq m) (numbers_from n k) ≡ false
not-after m n zero h = refl
not-after m n (suc k) h =
    let first : nat_eq m n ≡ false = grind (arith, nat_tests) in
    let rest = not-after m (suc n) k (omega arith) in
    λ i. first i || rest i

distinct-from : (n k : ℕ) → are_distinct (numbers_from n k) ≡ true
distinct-from n zero = refl
distinct-from n (suc k) =
    and-true (not (list_any (nat_eq n) (numbers_from (suc n) k))) (are_distinct (numbers_from (suc n) k)) (ap not (not-after n (suc n) k (omega arith))) (distinct-from (suc n) k)

-- ---- their types
type-at : (vs rest : List VariableEntry) (v : VariableEntry) → option_map (λ x. x.of_type) (slice_get (vs ++ v ∷ rest) (length vs)) ≡ Some v.of_type
type-at [] rest v = refl
type-at (x ∷ vs) rest v = type-at vs rest v

types-from : (table : Table) (vs more rest : List VariableEntry) (n : ℕ) → n ≡ length vs → table.variables ≡ vs ++ (more ++ rest) → give_each table (map (λ v. v.of_type) more) (names_of (numbers_from n (length more))) ≡ true
types-from table vs [] rest n long is = refl
types-from table vs (v ∷ more) rest n long is =
    let here : variable_type table n ≡ Some v.of_type =
    ap (λ xs. option_map (λ (x : VariableEntry). x.of_type) (slice_get xs n)) is ∙ ap (λ k. option_map (λ (x : VariableEntry). x.of_type) (slice_get (vs ++ v ∷ (more ++ rest)) k)) long ∙ type-at vs (more ++ rest) v in
    let given : gives_type (given_by (variable_type table n)) v.of_type ≡ true = ap (λ o. gives_type (given_by o) v.of_type) here ∙ same_type-self v.of_type in
    and-true (gives_type (given_by (variable_type table n)) v.of_type) (give_each table (map (λ x. x.of_type) more) (names_of (numbers_from (suc n) (length more)))) given
    (types-from table (vs ++ v ∷ []) more rest (suc n) (let e = length-append vs (v ∷ []) in omega arith) (is ∙ sym (append_assoc vs (v ∷ []) (more ++ rest))))

pub length_map : {A B : Type 0} (f : A → B) (xs : List A) → length (map f xs) ≡ length xs
length_map f [] = refl
length_map f (x ∷ xs) = ap suc (length_map f xs)

-- they are fresh in a sequent that typed before, over each table that has them
pub fresh : (small large wide : Table) (s : Sequent) (ts : List ValueType) (ns : List ℕ) → Types small s → GrewBy small large ts → IsWider large wide → ns ≡ numbers_from (length small.variables) (length ts) → are_fresh wide s ts ns ≡ true
fresh small large wide s ts ns types g w e = ap (are_fresh wide s ts) e ∙ all (length small.variables) refl
  where
    count : length g.more ≡ length ts
    count = sym (length_map (λ (v : VariableEntry). v.of_type) g.more) ∙ ap length g.types

    are : wide.variables ≡ small.variables ++ (g.more ++ w.variables.0)
    are = w.variables.1 ∙ ap (λ (t : Table). t.variables ++ w.variables.0) g.made ∙ append_assoc small.variables g.more w.variables.0

    typed : (n : ℕ) → n ≡ length small.variables → give_each wide ts (names_of (numbers_from n (length ts))) ≡ true
    typed n long =
        ap (λ xs. give_each wide xs (names_of (numbers_from n (length ts)))) (sym g.types)
        ∙ ap (λ k. give_each wide (map (λ (v : VariableEntry). v.of_type) g.more) (names_of (numbers_from n k))) (sym count)
        ∙ types-from wide small.variables g.more w.variables.0 n long are

    all : (n : ℕ) → n ≡ length small.variables → are_fresh wide s ts (numbers_from n (length ts)) ≡ true
    all n long =
        and-true (give_each wide ts (names_of (numbers_from n (length ts))) && are_distinct (numbers_from n (length ts))) (list_all (is_new (s.1 ∷ s.0)) (numbers_from n (length ts)))
        (and-true (give_each wide ts (names_of (numbers_from n (length ts)))) (are_distinct (numbers_from n (length ts))) (typed n long) (distinct-from n (length ts)))
        (all-new small (s.1 ∷ s.0) n (length ts) (omega arith) (types.1, types.0))
