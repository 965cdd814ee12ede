-- Tables whose sets get sizes.
use Rattle.std.proofs.Common.{◌≡◌, ◌⊎◌, inl, inr, ℕ, zero, suc, ◌<◌, ◌+◌, List, [], ◌∷◌, ◌++◌, length, map, refl, sym, ◌∙◌, ap, subst, true, false, cond, nat_eq, nat_lt, eq-eqb, arith, All, IsTrue, pos}
use Rattle.std.specs.Prelude.{Option, Some, None, slice_get}
use Rattle.std.specs.Option.{option_map_or}
use Rattle.std.specs.Ordering.{nat_cmp, ordering_then, match_ordering}
use Rattle.std.specs.Cmp.{nat_cmp_is}
use Rattle.std.specs.BTreeSet.{insert_key}
use Rattle.std.specs.declared.cmp.Ordering.TheVariants.{Less, Equal}
use Rattle.std.proofs.lemmas.Bool.Decides.{nat_tests}
use Rattle.std.proofs.lemmas.List.Elements.{All-nil, All-cons, All-head, All-tail}
use Rattle.bk_val.specs.Value.{MathValue, int, elem, value_cmp}
use Rattle.bk_val.specs.Sets.{set_of}
use Rattle.bk_val.specs.ValueType.{ValueType, enum_type, set_type, pair_type}
use Rattle.bk_form.specs.Table.{Table, SetEntry, VariableEntry, sized_at, listed_size, set_size, texts_from, texts_of_elements, lists_type, is_among_sets, IsCounted, IsWellFormed}
use Rattle.bk_form.specs.Formula.{Formula, variable, bound, literal, truth_value, element, empty_set, named, btrue, bfalse, unary, binary, for_all, for_some, comprehension, lambda, Formulas, no_formulas, formula_and}
use Rattle.bk_form.specs.Role.{Role, untyped, gives, gives_set, each_gives_set, predicate, if_holds, if_predicate, if_value, bound_role, empty_role, named_role, all_listed, role, roles, unary_role, binary_role, quantifier_role, comprehension_role, lambda_role, bind, are_ranges, element_types, tuple_type}
use Rattle.bk_form.specs.Operators.{elements_from}
use Rattle.bk_form.specs.declared.operator.Domain.{Domain}
use Rattle.bk_form.specs.declared.operator.Domain.TheVariants.{Enum}
use Rattle.bk_form.specs.Wider.{IsTypedRole, IsWider}
use Rattle.bk_form.specs.Sized.{or_else, sized_from, with_sizes, HasSizes, AreSizes, only_size, SizesKeepRoles, SizesFit, OneSizeIsGiven, SetsAreCounted, ElementsHaveTexts}
use Rattle.bk_form.proofs.Members.{list_of-values_of, and-both}
use Rattle.bk_form.proofs.Operands.{holds-op, predicate-op, value-op, unary-op, binary-op}
use Rattle.bk_form.proofs.Counted.{none-below}

-- ---- lists of sets
pub sized-length : (sizes : ℕ → ℕ) (n : ℕ) (ss : List SetEntry) → length (sized_from sizes n ss) ≡ length ss
sized-length sizes n [] = refl
sized-length sizes n (s ∷ ss) = ap suc (sized-length sizes (suc n) ss)

sized-append : (sizes : ℕ → ℕ) (n : ℕ) (ss ts : List SetEntry) → sized_from sizes n (ss ++ ts) ≡ sized_from sizes n ss ++ sized_from sizes (length ss + n) ts
sized-append sizes n [] ts = ap (λ m. sized_from sizes m ts) (omega arith)
sized-append sizes n (s ∷ ss) ts =
    let e : length ss + suc n ≡ length (s ∷ ss) + n = omega arith in
    λ i. record s { size = or_else s.size (sizes n) } ∷ (sized-append sizes (suc n) ss ts ∙ ap (λ m. sized_from sizes (suc n) ss ++ sized_from sizes m ts) e) i

or_else-some : (m n : ℕ) → 0 < m → or_else m n ≡ m
or_else-some zero n h = absurd (omega arith)
or_else-some (suc m) n h = refl

or_else-positive : (m n : ℕ) → 0 < n → 0 < or_else m n
or_else-positive zero n h = h
or_else-positive (suc m) n h = omega arith

pub sized-whole : (sizes : ℕ → ℕ) (n : ℕ) (ss : List SetEntry) → HasSizes ss → sized_from sizes n ss ≡ ss
sized-whole sizes n [] h = refl
sized-whole sizes n (s ∷ ss) h =
    λ i. record s { size = or_else-some s.size (sizes n) (All-head (λ (s : SetEntry). 0 < s.size) s ss h) i } ∷ sized-whole sizes (suc n) ss (All-tail (λ (s : SetEntry). 0 < s.size) s ss h) i

sized-each : (sizes : ℕ → ℕ) → AreSizes sizes → (n : ℕ) (ss : List SetEntry) → HasSizes (sized_from sizes n ss)
sized-each sizes p n [] = All-nil (λ (s : SetEntry). 0 < s.size)
sized-each sizes p n (s ∷ ss) = All-cons (λ (s : SetEntry). 0 < s.size) (record s { size = or_else s.size (sizes n) }) (sized_from sizes (suc n) ss) (or_else-positive s.size (sizes n) (p n)) (sized-each sizes p (suc n) ss)

counted-sized : (s : SetEntry) (n : ℕ) → IsCounted s → IsCounted (record s { size = or_else s.size n })
counted-sized s n (inl h) = inl h
counted-sized s n (inr h) = by_size s.size s.elements refl h
  where
    by_size : (m : ℕ) (es : List (List ℕ)) → s.elements ≡ es → m ≡ length es → (s.elements ≡ []) ⊎ (or_else m n ≡ length es)
    by_size m [] q k = inl q
    by_size zero (e ∷ es) q k = absurd (omega (arith, k))
    by_size (suc m) (e ∷ es) q k = inr k

all-counted : (sizes : ℕ → ℕ) (n : ℕ) (ss : List SetEntry) → All IsCounted ss → All IsCounted (sized_from sizes n ss)
all-counted sizes n [] h = All-nil IsCounted
all-counted sizes n (s ∷ ss) h = All-cons IsCounted (record s { size = or_else s.size (sizes n) }) (sized_from sizes (suc n) ss) (counted-sized s (sizes n) (All-head IsCounted s ss h)) (all-counted sizes (suc n) ss (All-tail IsCounted s ss h))

size-kept : (sizes : ℕ → ℕ) (n : ℕ) (ss : List SetEntry) (s i : ℕ) → nat_lt i (option_map_or (λ s. s.size) (slice_get ss s) 0) ≡ true → option_map_or (λ s. s.size) (slice_get (sized_from sizes n ss) s) 0 ≡ option_map_or (λ s. s.size) (slice_get ss s) 0
size-kept sizes n [] s i h = refl
size-kept sizes n (x ∷ xs) zero i h = some x.size h
  where
    some : (m : ℕ) → nat_lt i m ≡ true → or_else m (sizes n) ≡ m
    some zero k = absurd (none-below i k)
    some (suc m) k = refl
size-kept sizes n (x ∷ xs) (suc s) i h = size-kept sizes (suc n) xs s i h

-- ---- roles
abbrev pub EachTypes : List Role → Type 0
EachTypes [] = Unit {0}
EachTypes (r ∷ rs) = IsTypedRole r × EachTypes rs

set-types : (r : Role) → gives_set r ≡ true → IsTypedRole r
set-types untyped h = absurd (cc)
set-types _ h = tt

each-types : (rs : List Role) → each_gives_set rs ≡ true → EachTypes rs
each-types [] h = tt
each-types (r ∷ rs) h = let k = and-both (gives_set r) (each_gives_set rs) h in (set-types r k.0, each-types rs k.1)

pub ranges-type : (rs : List Role) → are_ranges rs ≡ true → EachTypes rs
ranges-type [] h = absurd (cc)
ranges-type (r ∷ rs) h = each-types (r ∷ rs) h

module _ (sizes : ℕ → ℕ) (table : Table) where
  pub lists-sized : (t : ValueType) → lists_type (with_sizes sizes table) t ≡ lists_type table t
  lists-sized t = ap (λ n. is_among_sets n t) (sized-length sizes 0 table.sets)

  all-listed-sized : (ts : List ValueType) → all_listed (with_sizes sizes table) ts ≡ all_listed table ts
  all-listed-sized [] = refl
  all-listed-sized (t ∷ ts) = λ i. Rattle.std.specs.Prelude.◌&&◌ (lists-sized t i) (all-listed-sized ts i)

  bound-sized : (o : Option ValueType) → bound_role (with_sizes sizes table) o ≡ bound_role table o
  bound-sized None = refl
  bound-sized (Some t) = ap (λ b. if_holds b (gives t)) (lists-sized t)

  empty-sized : (t : ValueType) → empty_role (with_sizes sizes table) t ≡ empty_role table t
  empty-sized (set_type t) = ap (λ b. if_holds b (gives (set_type t))) (lists-sized t)
  empty-sized _ = refl

  named-sized : (d : Domain) → named_role (with_sizes sizes table) d ≡ named_role table d
  named-sized (Enum n) = ap (λ b. if_holds b (gives (set_type (enum_type n)))) (lists-sized (enum_type n))
  named-sized _ = refl

  mutual
    pub role-sized : (around : List ValueType) (f : Formula) → IsTypedRole (role table around f) → role (with_sizes sizes table) around f ≡ role table around f
    role-sized around (variable n) h = refl
    role-sized around (bound n) h = bound-sized (slice_get around n)
    role-sized around (literal z) h = refl
    role-sized around (truth_value z) h = refl
    role-sized around (element s i) h =
        let k = holds-op (nat_lt i (listed_size table s)) (gives (enum_type s)) h in
        ap (λ n. if_holds (nat_lt i n) (gives (enum_type s))) (size-kept sizes 0 table.sets s i k.0)
    role-sized around (empty_set t) h = empty-sized t
    role-sized around (named d) h = named-sized d
    role-sized around btrue h = refl
    role-sized around bfalse h = refl
    role-sized around (unary o f) h = ap (unary_role o) (role-sized around f (unary-op o (role table around f) h))
    role-sized around (binary o f g) h = let k = binary-op o (role table around f) (role table around g) h in λ i. binary_role o (role-sized around f k.0 i) (role-sized around g k.1 i)
    role-sized around (for_all ts p) h =
        let body = role table (bind ts around) p in
        let k = holds-op (all_listed table ts) (if_predicate predicate body) h in
        let n = (predicate-op predicate body k.1).0 in
        λ i. if_holds (all-listed-sized ts i) (if_predicate predicate (role-sized (bind ts around) p n i))
    role-sized around (for_some ts p) h =
        let body = role table (bind ts around) p in
        let k = holds-op (all_listed table ts) (if_predicate predicate body) h in
        let n = (predicate-op predicate body k.1).0 in
        λ i. if_holds (all-listed-sized ts i) (if_predicate predicate (role-sized (bind ts around) p n i))
    role-sized around (comprehension rs p) h =
        let rr = roles table around rs in
        let ts = element_types rr in
        let k = holds-op (are_ranges rr) (if_predicate (gives (set_type (tuple_type ts))) (role table (bind ts around) p)) h in
        let n = (predicate-op (gives (set_type (tuple_type ts))) (role table (bind ts around) p) k.1).0 in
        ap (λ x. comprehension_role x (role (with_sizes sizes table) (bind (element_types x) around) p)) (roles-sized around rs (ranges-type rr k.0))
        ∙ ap (comprehension_role rr) (role-sized (bind ts around) p n)
    role-sized around (lambda rs p v) h =
        let rr = roles table around rs in
        let ts = element_types rr in
        let image = role table (bind ts around) v in
        let body = role table (bind ts around) p in
        let k = holds-op (are_ranges rr) (if_predicate (if_value (λ u. gives (set_type (pair_type (tuple_type ts) u))) image) body) h in
        let n = predicate-op (if_value (λ u. gives (set_type (pair_type (tuple_type ts) u))) image) body k.1 in
        let q = (value-op (λ u. gives (set_type (pair_type (tuple_type ts) u))) image n.1).0 in
        ap (λ x. lambda_role x (role (with_sizes sizes table) (bind (element_types x) around) p) (role (with_sizes sizes table) (bind (element_types x) around) v)) (roles-sized around rs (ranges-type rr k.0))
        ∙ λ i. lambda_role rr (role-sized (bind ts around) p n.0 i) (role-sized (bind ts around) v q i)

    pub roles-sized : (around : List ValueType) (fs : Formulas) → EachTypes (roles table around fs) → roles (with_sizes sizes table) around fs ≡ roles table around fs
    roles-sized around no_formulas h = refl
    roles-sized around (formula_and f fs) h = λ i. role-sized around f h.0 i ∷ roles-sized around fs h.1 i

pub sizes_keep_roles : SizesKeepRoles
sizes_keep_roles sizes table around f h = role-sized sizes table around f h

-- ---- tables
pub well-sized : (sizes : ℕ → ℕ) (table : Table) → IsWellFormed table → IsWellFormed (with_sizes sizes table)
well-sized sizes table w =
    let same = sized-length sizes 0 table.sets in
    record {
      counted = all-counted sizes 0 table.sets w.counted;
      listed = subst (λ n. All (λ (v : VariableEntry). IsTrue (is_among_sets n v.of_type)) table.variables) (sym same) w.listed;
    }

pub sizes_fit : SizesFit
sizes_fit = record {
  well = well-sized;
  wider = λ sizes small large w. record {
    sets = (sized_from sizes (length small.sets + 0) w.sets.0, ap (sized_from sizes 0) w.sets.1 ∙ sized-append sizes 0 small.sets w.sets.0);
    variables = w.variables;
  };
  whole = λ sizes table h. λ i. record { sets = sized-whole sizes 0 table.sets h i; variables = table.variables };
  each = λ sizes p table. sized-each sizes p 0 table.sets;
}

-- ---- one size
or_else-none : (m : ℕ) → or_else m 0 ≡ m
or_else-none zero = refl
or_else-none (suc m) = refl

or_else-this : (m n : ℕ) → m ≡ 0 → or_else m n ≡ n
or_else-this zero n h = refl
or_else-this (suc m) n h = absurd (omega (arith, h))

this-number : (n size m : ℕ) → m ≡ n → only_size n size m ≡ size
this-number n size m h = let e : nat_eq m n ≡ true = eq-eqb m n h in rw e refl

other-number : (n size m : ℕ) → n < m → only_size n size m ≡ 0
other-number n size m h = let e : nat_eq m n ≡ false = grind (arith, nat_tests) in rw e refl

earlier-number : (n size m : ℕ) → m < n → only_size n size m ≡ 0
earlier-number n size m h = let e : nat_eq m n ≡ false = grind (arith, nat_tests) in rw e refl

-- past the number nothing changes
past-one : (n size k : ℕ) (ss : List SetEntry) → n < k → sized_from (only_size n size) k ss ≡ ss
past-one n size k [] h = refl
past-one n size k (s ∷ ss) h =
    let same : or_else s.size (only_size n size k) ≡ s.size = ap (or_else s.size) (other-number n size k h) ∙ or_else-none s.size in
    λ i. record s { size = same i } ∷ past-one n size (suc k) ss (omega arith) i

sized-one : (size m k n : ℕ) (ss : List SetEntry) → m ≡ n + k → option_map_or (λ s. s.size) (slice_get ss n) 0 ≡ 0 → sized_from (only_size m size) k ss ≡ sized_at n size ss
sized-one size m k n [] e h = refl
sized-one size m k zero (s ∷ ss) e h =
    let this : or_else s.size (only_size m size k) ≡ size = or_else-this s.size (only_size m size k) h ∙ this-number m size k (omega arith) in
    λ i. record s { size = this i } ∷ past-one m size (suc k) ss (omega arith) i
sized-one size m k (suc n) (s ∷ ss) e h =
    let same : or_else s.size (only_size m size k) ≡ s.size = ap (or_else s.size) (earlier-number m size k (omega arith)) ∙ or_else-none s.size in
    λ i. record s { size = same i } ∷ sized-one size m (suc k) n ss (omega arith) h i

pub one_size_is_given : OneSizeIsGiven
one_size_is_given table n size h =
    let all : sized_from (only_size n size) 0 table.sets ≡ sized_at n size table.sets = sized-one size n 0 n table.sets (omega arith) h in
    λ i. record { sets = all i; variables = table.variables }

-- ---- the number of elements
next-above : (s i : ℕ) → value_cmp (elem s i) (elem s (suc i)) ≡ Less
next-above s i = let e : nat_cmp s s ≡ Equal = sym (nat_cmp_is s s Equal refl) in let d : nat_cmp i (suc i) ≡ Less = sym (nat_cmp_is i (suc i) Less (omega arith)) in λ k. ordering_then (e k) (d k)

in-order : (s i n : ℕ) → set_of (elements_from s i n) ≡ elements_from s i n
in-order s i zero = refl
in-order s i (suc n) = ap (λ xs. insert_key value_cmp xs (elem s i)) (in-order s (suc i) n) ∙ in_front n
  where
    in_front : (n : ℕ) → insert_key value_cmp (elements_from s (suc i) n) (elem s i) ≡ elem s i ∷ elements_from s (suc i) n
    in_front zero = refl
    in_front (suc n) = ap (λ o. match_ordering o (elem s i ∷ elem s (suc i) ∷ elements_from s (suc (suc i)) n) (elem s (suc i) ∷ elements_from s (suc (suc i)) n) (elem s (suc i) ∷ insert_key value_cmp (elements_from s (suc (suc i)) n) (elem s i))) (next-above s i)

as-many : (s i n : ℕ) → length (elements_from s i n) ≡ n
as-many s i zero = refl
as-many s i (suc n) = ap suc (as-many s (suc i) n)

pub sets_are_counted : SetsAreCounted
sets_are_counted find e n = ap (λ xs. int (pos (length xs))) (list_of-values_of (set_of (elements_from n 0 (set_size e.table n))) ∙ in-order n 0 (set_size e.table n)) ∙ ap (λ k. int (pos k)) (as-many n 0 (set_size e.table n))

-- ---- texts of elements
texts_from-length : (name : List ℕ) (i n : ℕ) → length (texts_from name i n) ≡ n
texts_from-length name i zero = refl
texts_from-length name i (suc n) = ap suc (texts_from-length name (suc i) n)

each-has-text : (name : List ℕ) (n : ℕ) (xs : List (List ℕ)) → (xs ≡ []) ⊎ (n ≡ length xs) → length (texts_of_elements name n xs) ≡ n
each-has-text name n [] h = texts_from-length name 0 n
each-has-text name n (x ∷ xs) (inl e) = absurd (cc)
each-has-text name n (x ∷ xs) (inr e) = sym e

pub elements_have_texts : ElementsHaveTexts
elements_have_texts s h = each-has-text s.name s.size s.elements h
