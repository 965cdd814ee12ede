-- A formula that types means the same over a wider table.
use Rattle.std.proofs.Common.{◌≡◌, ℕ, zero, suc, ◌≤◌, List, [], ◌∷◌, ◌++◌, length, length-append, map, refl, sym, ◌∙◌, ap, subst, Bool, true, false, not, ◌&&◌, nat_lt, nat_eq, arith, rules, All, IsTrue, pos}
use Rattle.std.specs.Prelude.{Option, Some, None, slice_get}
use Rattle.std.specs.Option.{option_map, option_map_or}
use Rattle.std.proofs.lemmas.List.Elements.{All-head, All-tail}
use Rattle.std.proofs.lemmas.Bool.Decides.{nat_tests}
use Rattle.bk_val.specs.Value.{MathValue, MathValues, int, bool, elem, pair, set, none, more, is_rising}
use Rattle.bk_val.specs.Sets.{has}
use Rattle.bk_val.specs.ValueType.{ValueType, int_type, bool_type, enum_type, pair_type, set_type, base_of, is_value_of, are_values_of, are_of_types}
use Rattle.bk_form.specs.Table.{Table, VariableEntry, lists_type, is_among_sets, at_least_one, listed_size, set_size, variable_type, IsWellFormed}
use Rattle.bk_form.specs.Formula.{Formula, variable, bound, literal, truth_value, element, empty_set, named, btrue, bfalse, unary, binary, for_all, for_some, comprehension, lambda, Formulas, no_formulas, formula_and}
use Rattle.bk_form.specs.Search.{Finder, no_choice}
use Rattle.bk_form.specs.Environment.{Environment, State, Binding, bindings}
use Rattle.bk_form.specs.Role.{Role, gives, predicate, untyped, if_holds, if_predicate, if_value, given_by, empty_role, named_role, all_listed, role, roles, bind, are_ranges, element_type, element_types, tuple_type}
use Rattle.bk_form.specs.Operators.{covers, passes, is_in_binary, is_in_named, named_value, is_partial_function, is_injective, elements, first_part}
use Rattle.bk_form.specs.Meaning.{Meaning, meaning, meanings, of_value, of_truth, bound_meaning, named_meaning, unary_meaning, binary_meaning, comprehension_meaning, lambda_meaning, range_types}
use Rattle.bk_form.specs.declared.operator.BinOp.{BinOp}
use Rattle.bk_form.specs.declared.operator.BinOp.TheVariants.{TotalFunctions, TotalInjections, PartialSurjections, TotalSurjections, Bijections}
use Rattle.bk_form.specs.declared.operator.Domain.{Domain}
use Rattle.bk_form.specs.declared.operator.Domain.TheVariants.{Integer, Natural, Natural1, Bool as Booleans, Enum}
use Rattle.bk_form.proofs.Counted.{size-listed}
use Rattle.bk_form.proofs.Members.{and-both}
use Rattle.bk_form.proofs.Roles.{meaning-role, meanings-role, types-bind}
use Rattle.bk_form.specs.Wider.{IsWider, IsTypedRole}
use Rattle.bk_form.specs.Laws.{WideningMeans, WideningKeepsRoles}
use Rattle.bk_form.proofs.Operands.{holds-op, predicate-op, value-op, unary-op, binary-op, Lists, element-l, role-l}

-- ---- lists
pub get-wider : {A : Type 0} (xs ys : List A) (n : ℕ) (x : A) → slice_get xs n ≡ Some x → slice_get (xs ++ ys) n ≡ Some x
get-wider [] ys n x h = absurd (cc)
get-wider (y ∷ xs) ys zero x h = h
get-wider (y ∷ xs) ys (suc n) x h = get-wider xs ys n x h

get-same : {A : Type 0} (xs ys : List A) (n : ℕ) → nat_lt n (length xs) ≡ true → slice_get (xs ++ ys) n ≡ slice_get xs n
get-same [] ys n h = absurd (none n h)
  where
    none : (n : ℕ) → nat_lt n 0 ≡ true → ⊥
    none n h = grind (arith, nat_tests)
get-same (x ∷ xs) ys zero h = refl
get-same (x ∷ xs) ys (suc n) h = get-same xs ys n (smaller n (length xs) h)
  where
    smaller : (m n : ℕ) → nat_lt (suc m) (suc n) ≡ true → nat_lt m n ≡ true
    smaller m n h = grind (arith, nat_tests)

true-then : (b : Bool) → IsTrue b → b ≡ true
true-then true h = refl
true-then false h = absurd (search (rules, h))

listed-at : (count : ℕ) (vars : List VariableEntry) → All (λ v. IsTrue (is_among_sets count v.of_type)) vars → (n : ℕ) (t : ValueType) → option_map (λ v. v.of_type) (slice_get vars n) ≡ Some t → is_among_sets count t ≡ true
listed-at count [] h n t e = absurd (cc)
listed-at count (v ∷ vars) h zero t e = let q : v.of_type ≡ t = cc in subst (λ x. is_among_sets count x ≡ true) q (true-then (is_among_sets count v.of_type) (All-head (λ v. IsTrue (is_among_sets count v.of_type)) v vars h))
listed-at count (v ∷ vars) h (suc n) t e = listed-at count vars (All-tail (λ v. IsTrue (is_among_sets count v.of_type)) v vars h) n t e

among-more : (m n : ℕ) (t : ValueType) → m ≤ n → is_among_sets m t ≡ true → is_among_sets n t ≡ true
among-more m n int_type h q = refl
among-more m n bool_type h q = refl
among-more m n (enum_type e) h q = grind (arith, nat_tests)
among-more m n (pair_type s t) h q = let k = and-both (is_among_sets m s) (is_among_sets m t) q in λ i. among-more m n s h k.0 i && among-more m n t h k.1 i
among-more m n (set_type t) h q = among-more m n t h q

abbrev pub types_in : List Binding → List ValueType
types_in b = map (λ x. x.0) b

-- the type of a listed variable has only listed sets
pub type-listed : (table : Table) → IsWellFormed table → (n : ℕ) (t : ValueType) → variable_type table n ≡ Some t → Lists table t
type-listed table well n t h = listed-at (length table.sets) table.variables well.listed n t h

-- ---- the facts of a wider table
module _ (small large : Table) (well : IsWellFormed small) (wider : IsWider small large) where
  pub variable-wider : (n : ℕ) (t : ValueType) → variable_type small n ≡ Some t → variable_type large n ≡ Some t
  variable-wider n t h = ap (λ vs. option_map (λ v. v.of_type) (slice_get vs n)) wider.variables.1 ∙ at (slice_get small.variables n) refl h
    where
      at : (o : Option VariableEntry) → slice_get small.variables n ≡ o → option_map (λ v. v.of_type) o ≡ Some t → option_map (λ v. v.of_type) (slice_get (small.variables ++ wider.variables.0) n) ≡ Some t
      at None q k = absurd (cc)
      at (Some v) q k = ap (option_map (λ v. v.of_type)) (get-wider small.variables wider.variables.0 n v q) ∙ k

  pub variables_listed : (n : ℕ) (t : ValueType) → variable_type small n ≡ Some t → Lists small t
  variables_listed n t h = listed-at (length small.sets) small.variables well.listed n t h

  elements_listed : (s i : ℕ) → nat_lt i (listed_size small s) ≡ true → Lists small (enum_type s)
  elements_listed s i h = size-listed small s i h

  sets-more : length small.sets ≤ length large.sets
  sets-more = let e : length large.sets ≡ length (small.sets ++ wider.sets.0) = ap length wider.sets.1 in omega (arith, length-append small.sets wider.sets.0)

  pub lists-wider : (t : ValueType) → Lists small t → Lists large t
  lists-wider t h = among-more (length small.sets) (length large.sets) t sets-more h

  pub size-same : (n : ℕ) → Lists small (enum_type n) → set_size large n ≡ set_size small n
  size-same n h = ap (λ ss. option_map_or (λ s. at_least_one s.size) (slice_get ss n) 0) wider.sets.1 ∙ ap (λ o. option_map_or (λ s. at_least_one s.size) o 0) (get-same small.sets wider.sets.0 n h)

  listed-same : (n : ℕ) → Lists small (enum_type n) → listed_size large n ≡ listed_size small n
  listed-same n h = ap (λ ss. option_map_or (λ s. s.size) (slice_get ss n) 0) wider.sets.1 ∙ ap (λ o. option_map_or (λ s. s.size) o 0) (get-same small.sets wider.sets.0 n h)

  mutual
    -- a type of listed sets has the same values
    pub value-same : (t : ValueType) → Lists small t → (v : MathValue) → is_value_of (set_size large) t v ≡ is_value_of (set_size small) t v
    value-same int_type l (int z) = refl
    value-same int_type l _ = refl
    value-same bool_type l (bool b) = refl
    value-same bool_type l _ = refl
    value-same (enum_type n) l (elem e i) = ap (λ k. nat_eq e n && nat_lt i k) (size-same n l)
    value-same (enum_type n) l _ = refl
    value-same (pair_type s t) l (pair v w) = let k = and-both (lists_type small s) (lists_type small t) l in λ i. value-same s k.0 v i && value-same t k.1 w i
    value-same (pair_type s t) l _ = refl
    value-same (set_type t) l (set vs) = ap (λ b. b && is_rising vs) (values-same t l vs)
    value-same (set_type t) l _ = refl

    values-same : (t : ValueType) → Lists small t → (vs : MathValues) → are_values_of (set_size large) t vs ≡ are_values_of (set_size small) t vs
    values-same t l none = refl
    values-same t l (more v vs) = λ i. value-same t l v i && values-same t l vs i

  pub types-same : (ts : List ValueType) → all_listed small ts ≡ true → (vs : List MathValue) → are_of_types (set_size large) ts vs ≡ are_of_types (set_size small) ts vs
  types-same [] l [] = refl
  types-same [] l (v ∷ vs) = refl
  types-same (t ∷ ts) l [] = refl
  types-same (t ∷ ts) l (v ∷ vs) = let k = and-both (lists_type small t) (all_listed small ts) l in λ i. value-same t k.0 v i && types-same ts k.1 vs i

  all-wider : (ts : List ValueType) → all_listed small ts ≡ true → all_listed large ts ≡ true
  all-wider [] l = refl
  all-wider (t ∷ ts) l = let k = and-both (lists_type small t) (all_listed small ts) l in λ i. lists-wider t k.0 i && all-wider ts k.1 i

  all-same : (ts : List ValueType) → all_listed small ts ≡ true → all_listed large ts ≡ all_listed small ts
  all-same ts l = all-wider ts l ∙ sym l

  one-listed : (t : ValueType) → Lists small t → all_listed small (t ∷ []) ≡ true
  one-listed t l = ap (λ b. b && true) l

  covers-same : (find : Finder) (t : ValueType) → Lists small t → (in_a : MathValue → Bool) (xs : List MathValue) → covers find (set_size large) t in_a xs ≡ covers find (set_size small) t in_a xs
  covers-same find t l in_a xs = λ i. no_choice find (λ vs. types-same (t ∷ []) (one-listed t l) vs i && passes (λ v. in_a v && not (has xs v)) vs)

  in-same : (find : Finder) (t u : ValueType) → Lists small t → Lists small u → (o : BinOp) (in_a in_b : MathValue → Bool) (value v : MathValue) → is_in_binary find (set_size large) t u o in_a in_b value v ≡ is_in_binary find (set_size small) t u o in_a in_b value v
  in-same find t u l m TotalFunctions in_a in_b value v = λ i. is_partial_function in_a in_b v && covers-same find t l in_a (map first_part (elements v)) i
  in-same find t u l m TotalInjections in_a in_b value v = λ i. is_partial_function in_a in_b v && is_injective (elements v) && covers-same find t l in_a (map first_part (elements v)) i
  in-same find t u l m PartialSurjections in_a in_b value v = λ i. is_partial_function in_a in_b v && covers-same find u m in_b (map Rattle.bk_val.specs.Sets.second_of (elements v)) i
  in-same find t u l m TotalSurjections in_a in_b value v = λ i. is_partial_function in_a in_b v && covers-same find t l in_a (map first_part (elements v)) i && covers-same find u m in_b (map Rattle.bk_val.specs.Sets.second_of (elements v)) i
  in-same find t u l m Bijections in_a in_b value v = λ i. is_partial_function in_a in_b v && is_injective (elements v) && covers-same find t l in_a (map first_part (elements v)) i && covers-same find u m in_b (map Rattle.bk_val.specs.Sets.second_of (elements v)) i
  in-same find t u l m _ in_a in_b value v = refl

  binary-same : (find : Finder) (o : BinOp) (a b : Meaning) → Lists small (element_type a.role) → Lists small (element_type b.role) → binary_meaning find (set_size large) o a b ≡ binary_meaning find (set_size small) o a b
  binary-same find o a b l m = λ i. record {
    role = (binary_meaning find (set_size small) o a b).role;
    value = (binary_meaning find (set_size small) o a b).value;
    truth = (binary_meaning find (set_size small) o a b).truth;
    contains = λ v. in-same find (element_type a.role) (element_type b.role) l m o a.contains b.contains (binary_meaning find (set_size small) o a b).value v i;
  }

  given-same : (n : ℕ) (o : Option ValueType) → variable_type small n ≡ o → IsTypedRole (given_by o) → given_by (variable_type large n) ≡ given_by (variable_type small n)
  given-same n None q h = absurd h
  given-same n (Some t) q h = ap given_by (variable-wider n t q ∙ sym q)

  bound-same : (o : Option Binding) → IsTypedRole (bound_meaning small o).role → bound_meaning large o ≡ bound_meaning small o
  bound-same None h = refl
  bound-same (Some b) h = let k = holds-op (lists_type small b.0) (gives b.0) h in ap (λ x. of_value (if_holds x (gives b.0)) b.1) (lists-wider b.0 k.0 ∙ sym k.0)

  empty-same : (t : ValueType) → IsTypedRole (empty_role small t) → empty_role large t ≡ empty_role small t
  empty-same (set_type t) h = let k = holds-op (lists_type small t) (gives (set_type t)) h in ap (λ x. if_holds x (gives (set_type t))) (lists-wider t k.0 ∙ sym k.0)
  empty-same _ h = absurd h

  in-named : (d : Domain) → IsTypedRole (named_role small d) → (v : MathValue) → is_in_named (set_size large) d v ≡ is_in_named (set_size small) d v
  in-named (Enum n) h (elem s i) = ap (λ k. nat_eq s n && nat_lt i k) (size-same n (holds-op (lists_type small (enum_type n)) (gives (set_type (enum_type n))) h).0)
  in-named (Enum n) h _ = refl
  in-named Integer h (int z) = refl
  in-named Integer h _ = refl
  in-named Natural h (int z) = refl
  in-named Natural h _ = refl
  in-named Natural1 h (int z) = refl
  in-named Natural1 h _ = refl
  in-named Booleans h (bool z) = refl
  in-named Booleans h _ = refl

  named-value : (d : Domain) → IsTypedRole (named_role small d) → named_value (set_size large) d ≡ named_value (set_size small) d
  named-value (Enum n) h = ap (λ k. Rattle.bk_form.specs.Operators.set_value (Rattle.bk_form.specs.Operators.elements_from n 0 k)) (size-same n (holds-op (lists_type small (enum_type n)) (gives (set_type (enum_type n))) h).0)
  named-value _ h = refl

  named-role : (d : Domain) → IsTypedRole (named_role small d) → named_role large d ≡ named_role small d
  named-role (Enum n) h = let k = holds-op (lists_type small (enum_type n)) (gives (set_type (enum_type n))) h in ap (λ x. if_holds x (gives (set_type (enum_type n)))) (lists-wider (enum_type n) k.0 ∙ sym k.0)
  named-role _ h = refl

  named-same : (d : Domain) → IsTypedRole (named_role small d) → named_meaning large d ≡ named_meaning small d
  named-same d h = λ i. record { role = named-role d h i; value = named-value d h i; truth = false; contains = λ v. in-named d h v i }

  module _ (find : Finder) (d s : State) (same : (n : ℕ) (t : ValueType) → variable_type small n ≡ Some t → d n ≡ s n) where
    abbrev wide : List Binding → Environment
    wide b = record { table = large; state = d; bound = b }

    abbrev here : List Binding → Environment
    here b = record { table = small; state = s; bound = b }

    variable-same : (n : ℕ) (o : Option ValueType) → variable_type small n ≡ o → IsTypedRole (given_by o) → d n ≡ s n
    variable-same n None q h = absurd h
    variable-same n (Some t) q h = same n t q

    pub around : (ts : List ValueType) (vs : List MathValue) (b : List Binding) (p : Formula) → IsTypedRole (role small (bind ts (types_in b)) p) → IsTypedRole (role small (types_in (bind (bindings ts vs) b)) p)
    around ts vs b p h = subst (λ x. IsTypedRole (role small x p)) (sym (types-bind ts vs b)) h

    abbrev pub AreTypedRoles : List Role → Type 0
    AreTypedRoles [] = Unit {0}
    AreTypedRoles (r ∷ rs) = IsTypedRole r × AreTypedRoles rs

    set-typed : (r : Role) → Rattle.bk_form.specs.Role.gives_set r ≡ true → IsTypedRole r
    set-typed untyped h = absurd (cc)
    set-typed _ h = tt

    each-typed : (rs : List Role) → Rattle.bk_form.specs.Role.each_gives_set rs ≡ true → AreTypedRoles rs
    each-typed [] h = tt
    each-typed (r ∷ rs) h = let k = and-both (Rattle.bk_form.specs.Role.gives_set r) (Rattle.bk_form.specs.Role.each_gives_set rs) h in (set-typed r k.0, each-typed rs k.1)

    pub ranges-typed : (rs : List Role) → are_ranges rs ≡ true → AreTypedRoles rs
    ranges-typed [] h = absurd (cc)
    ranges-typed (r ∷ rs) h = each-typed (r ∷ rs) h

    listed : (b : List Binding) (f : Formula) → Lists small (element_type (meaning find (here b) f).role)
    listed b f = subst (λ r. Lists small (element_type r)) (sym (meaning-role find (here b) f)) (element-l small (role small (types_in b) f) (role-l small variables_listed elements_listed (types_in b) f))

    mutual
      pub meaning-wider : (b : List Binding) (f : Formula) → IsTypedRole (role small (types_in b) f) → meaning find (wide b) f ≡ meaning find (here b) f
      meaning-wider b (variable n) h = λ i. of_value (given-same n (variable_type small n) refl h i) (variable-same n (variable_type small n) refl h i)
      meaning-wider b (bound n) h = bound-same (slice_get b n) (subst IsTypedRole (sym (meaning-role find (here b) (bound n))) h)
      meaning-wider b (literal z) h = refl
      meaning-wider b (truth_value z) h = refl
      meaning-wider b (element s i) h =
          let k = holds-op (nat_lt i (listed_size small s)) (gives (enum_type s)) h in
          ap (λ n. of_value (if_holds (nat_lt i n) (gives (enum_type s))) (elem s i)) (listed-same s (elements_listed s i k.0))
      meaning-wider b (empty_set t) h = ap (λ r. of_value r (set none)) (empty-same t h)
      meaning-wider b (named d) h = named-same d h
      meaning-wider b btrue h = refl
      meaning-wider b bfalse h = refl
      meaning-wider b (unary o f) h = ap (unary_meaning o) (meaning-wider b f (unary-op o (role small (types_in b) f) h))
      meaning-wider b (binary o f g) h =
          let k = binary-op o (role small (types_in b) f) (role small (types_in b) g) h in
          (λ i. binary_meaning find (set_size large) o (meaning-wider b f k.0 i) (meaning-wider b g k.1 i))
          ∙ binary-same find o (meaning find (here b) f) (meaning find (here b) g) (listed b f) (listed b g)
      meaning-wider b (for_all ts p) h =
          let body = role small (bind ts (types_in b)) p in
          let k = holds-op (all_listed small ts) (if_predicate predicate body) h in
          let n = (predicate-op predicate body k.1).0 in
          let inner = λ (vs : List MathValue). meaning-wider (bind (bindings ts vs) b) p (around ts vs b p n) in
          λ i. of_truth (if_holds (all-same ts k.0 i) (if_predicate predicate (inner [] i).role)) (no_choice find (λ vs. types-same ts k.0 vs i && not (inner vs i).truth))
      meaning-wider b (for_some ts p) h =
          let body = role small (bind ts (types_in b)) p in
          let k = holds-op (all_listed small ts) (if_predicate predicate body) h in
          let n = (predicate-op predicate body k.1).0 in
          let inner = λ (vs : List MathValue). meaning-wider (bind (bindings ts vs) b) p (around ts vs b p n) in
          λ i. of_truth (if_holds (all-same ts k.0 i) (if_predicate predicate (inner [] i).role)) (not (no_choice find (λ vs. types-same ts k.0 vs i && (inner vs i).truth)))
      meaning-wider b (comprehension rs p) h =
          let rr = roles small (types_in b) rs in
          let ts = element_types rr in
          let k = holds-op (are_ranges rr) (if_predicate (gives (set_type (tuple_type ts))) (role small (bind ts (types_in b)) p)) h in
          let n = (predicate-op (gives (set_type (tuple_type ts))) (role small (bind ts (types_in b)) p) k.1).0 in
          let r = meanings-wider b rs (ranges-typed rr k.0) in
          let ms = meanings find (here b) rs in
          let us = range_types ms in
          let m = subst (λ x. IsTypedRole (role small (bind x (types_in b)) p)) (sym (ap element_types (meanings-role find (here b) rs))) n in
          let inner = λ (vs : List MathValue). meaning-wider (bind (bindings us vs) b) p (around us vs b p m) in
          ap (λ x. comprehension_meaning x (λ vs. meaning find (wide (bind (bindings (range_types x) vs) b)) p)) r
          ∙ λ i. comprehension_meaning ms (λ vs. inner vs i)
      meaning-wider b (lambda rs p v) h =
          let rr = roles small (types_in b) rs in
          let ts = element_types rr in
          let image = role small (bind ts (types_in b)) v in
          let body = role small (bind ts (types_in b)) p in
          let k = holds-op (are_ranges rr) (if_predicate (if_value (λ u. gives (set_type (pair_type (tuple_type ts) u))) image) body) h in
          let n = predicate-op (if_value (λ u. gives (set_type (pair_type (tuple_type ts) u))) image) body k.1 in
          let q = (value-op (λ u. gives (set_type (pair_type (tuple_type ts) u))) image n.1).0 in
          let r = meanings-wider b rs (ranges-typed rr k.0) in
          let ms = meanings find (here b) rs in
          let us = range_types ms in
          let e = sym (ap element_types (meanings-role find (here b) rs)) in
          let m = subst (λ x. IsTypedRole (role small (bind x (types_in b)) p)) e n.0 in
          let l = subst (λ x. IsTypedRole (role small (bind x (types_in b)) v)) e q in
          let inner = λ (vs : List MathValue). meaning-wider (bind (bindings us vs) b) p (around us vs b p m) in
          let value = λ (vs : List MathValue). meaning-wider (bind (bindings us vs) b) v (around us vs b v l) in
          ap (λ x. lambda_meaning x (λ vs. meaning find (wide (bind (bindings (range_types x) vs) b)) p) (λ vs. meaning find (wide (bind (bindings (range_types x) vs) b)) v)) r
          ∙ λ i. lambda_meaning ms (λ vs. inner vs i) (λ vs. value vs i)

      pub meanings-wider : (b : List Binding) (fs : Formulas) → AreTypedRoles (roles small (types_in b) fs) → meanings find (wide b) fs ≡ meanings find (here b) fs
      meanings-wider b no_formulas h = refl
      meanings-wider b (formula_and f fs) h = λ i. meaning-wider b f h.0 i ∷ meanings-wider b fs h.1 i

pub widening_means : WideningMeans
widening_means find e large d well wider same f h = meaning-wider e.table large well wider find d e.state same e.bound f h

pub widening_roles : WideningKeepsRoles
widening_roles small large well wider ts f h =
    let find : Finder = λ test. None in
    let s : State = λ n. int (Rattle.std.specs.Prelude.pos 0) in
    let bs : List Binding = map (λ t. (t, base_of t)) ts in
    let e : types_in bs ≡ ts = firsts ts in
    let m = meaning-wider small large well wider find s s (λ n t q. refl) bs f (subst (λ x. IsTypedRole (role small x f)) (sym e) h) in
    ap (λ x. role large x f) (sym e) ∙ sym (meaning-role find (record { table = large; state = s; bound = bs }) f) ∙ ap (λ x. x.role) m ∙ meaning-role find (record { table = small; state = s; bound = bs }) f ∙ ap (λ x. role small x f) e
  where
    firsts : (ts : List ValueType) → types_in (map (λ t. (t, base_of t)) ts) ≡ ts
    firsts [] = refl
    firsts (t ∷ ts) = ap (λ x. t ∷ x) (firsts ts)
