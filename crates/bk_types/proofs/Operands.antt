-- The rules of operands, by what the operands are taken for.
use Rattle.std.proofs.Common.{◌≡◌, ◌<◌, refl, ◌∙◌, ap, cond, Bool, true, false, ◌&&◌, List, [], ◌∷◌, ◌++◌, length, arith}
use Rattle.std.specs.Prelude.{Option, None, Some}
use Rattle.bk_val.specs.ValueType.{ValueType, int_type, bool_type, enum_type, pair_type, set_type}
use Rattle.bk_form.specs.Table.{Table}
use Rattle.bk_form.specs.Formula.{Formula, formulas_of}
use Rattle.bk_form.specs.declared.operator.UnOp.TheVariants.{Card, Dom, Ran, Inverse, Id, Single, Min, Pow}
use Rattle.bk_form.specs.Role.{Role, gives, ranges_over, predicate, untyped, same_type, if_holds, if_predicate, if_number, if_value, if_set, if_relation, if_domain, product_role, connective_role, numbers_role, unary_role, equality_role, membership_role, arrow_role, sets_role, domain_part_role, range_part_role, override_role, pair_role, image_role, application_role, composition_role, all_listed, roles, are_ranges, each_gives_set, gives_set, element_type, element_types, tuple_type, quantifier_role, comprehension_role, lambda_role}
use Rattle.bk_types.specs.Parts.{predicate_part, number_part, value_part, set_part, relation_part, domain_part, role_by, role_by_two, product_by}

by-predicate : (r a : Role) → if_predicate r a ≡ cond (predicate_part a) r untyped
by-predicate r (gives t) = refl
by-predicate r (ranges_over t) = refl
by-predicate r predicate = refl
by-predicate r untyped = refl

by-number : (r a : Role) → if_number r a ≡ cond (number_part a) r untyped
by-number r (gives int_type) = refl
by-number r (gives bool_type) = refl
by-number r (gives (enum_type n)) = refl
by-number r (gives (pair_type t u)) = refl
by-number r (gives (set_type t)) = refl
by-number r (ranges_over t) = refl
by-number r predicate = refl
by-number r untyped = refl

by-value : (f : ValueType → Role) (a : Role) → if_value f a ≡ role_by f (value_part a)
by-value f (gives t) = refl
by-value f (ranges_over t) = refl
by-value f predicate = refl
by-value f untyped = refl

by-set : (f : ValueType → Role) (a : Role) → if_set f a ≡ role_by f (set_part a)
by-set f (gives int_type) = refl
by-set f (gives bool_type) = refl
by-set f (gives (enum_type n)) = refl
by-set f (gives (pair_type t u)) = refl
by-set f (gives (set_type t)) = refl
by-set f (ranges_over t) = refl
by-set f predicate = refl
by-set f untyped = refl

by-relation : (f : ValueType → ValueType → Role) (a : Role) → if_relation f a ≡ role_by_two f (relation_part a)
by-relation f (gives int_type) = refl
by-relation f (gives bool_type) = refl
by-relation f (gives (enum_type n)) = refl
by-relation f (gives (pair_type t u)) = refl
by-relation f (gives (set_type int_type)) = refl
by-relation f (gives (set_type bool_type)) = refl
by-relation f (gives (set_type (enum_type n))) = refl
by-relation f (gives (set_type (pair_type t u))) = refl
by-relation f (gives (set_type (set_type t))) = refl
by-relation f (ranges_over t) = refl
by-relation f predicate = refl
by-relation f untyped = refl

by-domain : (f : ValueType → Role) (a : Role) → if_domain f a ≡ role_by f (domain_part a)
by-domain f (gives int_type) = refl
by-domain f (gives bool_type) = refl
by-domain f (gives (enum_type n)) = refl
by-domain f (gives (pair_type t u)) = refl
by-domain f (gives (set_type t)) = refl
by-domain f (ranges_over t) = refl
by-domain f predicate = refl
by-domain f untyped = refl

by-product : (a b : Role) → product_role a b ≡ product_by (set_part a) (set_part b) (domain_part a) (domain_part b)
by-product (gives (set_type t)) (gives int_type) = refl
by-product (gives (set_type t)) (gives bool_type) = refl
by-product (gives (set_type t)) (gives (enum_type n)) = refl
by-product (gives (set_type t)) (gives (pair_type u v)) = refl
by-product (gives (set_type t)) (gives (set_type u)) = refl
by-product (gives (set_type t)) (ranges_over u) = refl
by-product (gives (set_type t)) predicate = refl
by-product (gives (set_type t)) untyped = refl
by-product (gives int_type) b = refl
by-product (gives bool_type) b = refl
by-product (gives (enum_type n)) b = refl
by-product (gives (pair_type t u)) b = refl
by-product (ranges_over t) b = by-domain (λ u. ranges_over (pair_type t u)) b
by-product predicate b = refl
by-product untyped b = refl

-- ---- what each test comes to
value-some : (f : ValueType → Role) (a : Role) (t : ValueType) → value_part a ≡ Some t → if_value f a ≡ f t
value-some f a t h = by-value f a ∙ ap (role_by f) h

value-none : (f : ValueType → Role) (a : Role) → value_part a ≡ None → if_value f a ≡ untyped
value-none f a h = by-value f a ∙ ap (role_by f) h

set-some : (f : ValueType → Role) (a : Role) (t : ValueType) → set_part a ≡ Some t → if_set f a ≡ f t
set-some f a t h = by-set f a ∙ ap (role_by f) h

set-none : (f : ValueType → Role) (a : Role) → set_part a ≡ None → if_set f a ≡ untyped
set-none f a h = by-set f a ∙ ap (role_by f) h

domain-some : (f : ValueType → Role) (a : Role) (t : ValueType) → domain_part a ≡ Some t → if_domain f a ≡ f t
domain-some f a t h = by-domain f a ∙ ap (role_by f) h

domain-none : (f : ValueType → Role) (a : Role) → domain_part a ≡ None → if_domain f a ≡ untyped
domain-none f a h = by-domain f a ∙ ap (role_by f) h

relation-some : (f : ValueType → ValueType → Role) (a : Role) (t u : ValueType) → relation_part a ≡ Some (t, u) → if_relation f a ≡ f t u
relation-some f a t u h = by-relation f a ∙ ap (role_by_two f) h

relation-none : (f : ValueType → ValueType → Role) (a : Role) → relation_part a ≡ None → if_relation f a ≡ untyped
relation-none f a h = by-relation f a ∙ ap (role_by_two f) h

-- a rule that comes to nothing for each type
nothing : (f : ValueType → Role) → ((t : ValueType) → f t ≡ untyped) → (o : Option ValueType) → role_by f o ≡ untyped
nothing f h None = refl
nothing f h (Some t) = h t

nothing_of_two : (f : ValueType → ValueType → Role) → ((t u : ValueType) → f t u ≡ untyped) → (o : Option (ValueType × ValueType)) → role_by_two f o ≡ untyped
nothing_of_two f h None = refl
nothing_of_two f h (Some p) = h p.0 p.1

never : (c : Bool) (r : Role) → if_holds (c && false) r ≡ untyped
never true r = refl
never false r = refl

-- a predicate, or a whole number
pub predicate-true : (r a : Role) → predicate_part a ≡ true → if_predicate r a ≡ r
predicate-true r a h = by-predicate r a ∙ ap (λ c. cond c r untyped) h

pub predicate-false : (r a : Role) → predicate_part a ≡ false → if_predicate r a ≡ untyped
predicate-false r a h = by-predicate r a ∙ ap (λ c. cond c r untyped) h

pub number-true : (r a : Role) → number_part a ≡ true → if_number r a ≡ r
number-true r a h = by-number r a ∙ ap (λ c. cond c r untyped) h

pub number-false : (r a : Role) → number_part a ≡ false → if_number r a ≡ untyped
number-false r a h = by-number r a ∙ ap (λ c. cond c r untyped) h

-- nothing either way
unless : (c : Bool) → cond c untyped untyped ≡ untyped
unless true = refl
unless false = refl

-- two predicates
pub connective-both : (a b : Role) → predicate_part a ≡ true → predicate_part b ≡ true → connective_role a b ≡ predicate
connective-both a b h k = predicate-true (if_predicate predicate b) a h ∙ predicate-true predicate b k

pub connective-no_first : (a b : Role) → predicate_part a ≡ false → connective_role a b ≡ untyped
connective-no_first a b h = predicate-false (if_predicate predicate b) a h

pub connective-no_second : (a b : Role) → predicate_part b ≡ false → connective_role a b ≡ untyped
connective-no_second a b k = ap (λ r. if_predicate r a) (predicate-false predicate b k) ∙ by-predicate untyped a ∙ unless (predicate_part a)

-- two numbers
pub numbers-both : (r a b : Role) → number_part a ≡ true → number_part b ≡ true → numbers_role r a b ≡ r
numbers-both r a b h k = number-true (if_number r b) a h ∙ number-true r b k

pub numbers-no_first : (r a b : Role) → number_part a ≡ false → numbers_role r a b ≡ untyped
numbers-no_first r a b h = number-false (if_number r b) a h

pub numbers-no_second : (r a b : Role) → number_part b ≡ false → numbers_role r a b ≡ untyped
numbers-no_second r a b k = ap (λ s. if_number s a) (number-false r b k) ∙ by-number untyped a ∙ unless (number_part a)

-- ---- two operands
-- two values of one type
pub equality-same : (a b : Role) (t u : ValueType) → value_part a ≡ Some t → value_part b ≡ Some u → same_type t u ≡ true → equality_role a b ≡ predicate
equality-same a b t u h k e = value-some (λ t. if_value (λ u. if_holds (same_type t u) (predicate)) b) a t h ∙ value-some (λ u. if_holds (same_type t u) (predicate)) b u k ∙ ap (λ c. if_holds c (predicate)) e

pub equality-other : (a b : Role) (t u : ValueType) → value_part a ≡ Some t → value_part b ≡ Some u → same_type t u ≡ false → equality_role a b ≡ untyped
equality-other a b t u h k e = value-some (λ t. if_value (λ u. if_holds (same_type t u) (predicate)) b) a t h ∙ value-some (λ u. if_holds (same_type t u) (predicate)) b u k ∙ ap (λ c. if_holds c (predicate)) e

pub equality-no_first : (a b : Role) → value_part a ≡ None → equality_role a b ≡ untyped
equality-no_first a b h = value-none (λ t. if_value (λ u. if_holds (same_type t u) (predicate)) b) a h

pub equality-no_second : (a b : Role) → value_part b ≡ None → equality_role a b ≡ untyped
equality-no_second a b k = by-value (λ t. if_value (λ u. if_holds (same_type t u) (predicate)) b) a ∙ nothing (λ t. if_value (λ u. if_holds (same_type t u) (predicate)) b) (λ t. value-none (λ u. if_holds (same_type t u) (predicate)) b k) (value_part a)

-- a value and a domain over its type
pub membership-same : (a b : Role) (t u : ValueType) → value_part a ≡ Some t → domain_part b ≡ Some u → same_type t u ≡ true → membership_role a b ≡ predicate
membership-same a b t u h k e = value-some (λ t. if_domain (λ u. if_holds (same_type t u) (predicate)) b) a t h ∙ domain-some (λ u. if_holds (same_type t u) (predicate)) b u k ∙ ap (λ c. if_holds c (predicate)) e

pub membership-other : (a b : Role) (t u : ValueType) → value_part a ≡ Some t → domain_part b ≡ Some u → same_type t u ≡ false → membership_role a b ≡ untyped
membership-other a b t u h k e = value-some (λ t. if_domain (λ u. if_holds (same_type t u) (predicate)) b) a t h ∙ domain-some (λ u. if_holds (same_type t u) (predicate)) b u k ∙ ap (λ c. if_holds c (predicate)) e

pub membership-no_first : (a b : Role) → value_part a ≡ None → membership_role a b ≡ untyped
membership-no_first a b h = value-none (λ t. if_domain (λ u. if_holds (same_type t u) (predicate)) b) a h

pub membership-no_second : (a b : Role) → domain_part b ≡ None → membership_role a b ≡ untyped
membership-no_second a b k = by-value (λ t. if_domain (λ u. if_holds (same_type t u) (predicate)) b) a ∙ nothing (λ t. if_domain (λ u. if_holds (same_type t u) (predicate)) b) (λ t. domain-none (λ u. if_holds (same_type t u) (predicate)) b k) (value_part a)

-- two domains
pub arrow-both : (a b : Role) (t u : ValueType) → domain_part a ≡ Some t → domain_part b ≡ Some u → arrow_role a b ≡ ranges_over (set_type (pair_type t u))
arrow-both a b t u h k = domain-some (λ t. if_domain (λ u. ranges_over (set_type (pair_type t u))) b) a t h ∙ domain-some (λ u. ranges_over (set_type (pair_type t u))) b u k

pub arrow-no_first : (a b : Role) → domain_part a ≡ None → arrow_role a b ≡ untyped
arrow-no_first a b h = domain-none (λ t. if_domain (λ u. ranges_over (set_type (pair_type t u))) b) a h

pub arrow-no_second : (a b : Role) → domain_part b ≡ None → arrow_role a b ≡ untyped
arrow-no_second a b k = by-domain (λ t. if_domain (λ u. ranges_over (set_type (pair_type t u))) b) a ∙ nothing (λ t. if_domain (λ u. ranges_over (set_type (pair_type t u))) b) (λ t. domain-none (λ u. ranges_over (set_type (pair_type t u))) b k) (domain_part a)

-- two sets of one type
pub sets-same : (a b : Role) (t u : ValueType) → set_part a ≡ Some t → set_part b ≡ Some u → same_type t u ≡ true → sets_role a b ≡ gives (set_type t)
sets-same a b t u h k e = set-some (λ t. if_set (λ u. if_holds (same_type t u) (gives (set_type t))) b) a t h ∙ set-some (λ u. if_holds (same_type t u) (gives (set_type t))) b u k ∙ ap (λ c. if_holds c (gives (set_type t))) e

pub sets-other : (a b : Role) (t u : ValueType) → set_part a ≡ Some t → set_part b ≡ Some u → same_type t u ≡ false → sets_role a b ≡ untyped
sets-other a b t u h k e = set-some (λ t. if_set (λ u. if_holds (same_type t u) (gives (set_type t))) b) a t h ∙ set-some (λ u. if_holds (same_type t u) (gives (set_type t))) b u k ∙ ap (λ c. if_holds c (gives (set_type t))) e

pub sets-no_first : (a b : Role) → set_part a ≡ None → sets_role a b ≡ untyped
sets-no_first a b h = set-none (λ t. if_set (λ u. if_holds (same_type t u) (gives (set_type t))) b) a h

pub sets-no_second : (a b : Role) → set_part b ≡ None → sets_role a b ≡ untyped
sets-no_second a b k = by-set (λ t. if_set (λ u. if_holds (same_type t u) (gives (set_type t))) b) a ∙ nothing (λ t. if_set (λ u. if_holds (same_type t u) (gives (set_type t))) b) (λ t. set-none (λ u. if_holds (same_type t u) (gives (set_type t))) b k) (set_part a)

-- a relation and a set of its first parts
pub domain-part-same : (r a : Role) (t u v : ValueType) → relation_part r ≡ Some (t, u) → set_part a ≡ Some v → same_type v t ≡ true → domain_part_role r a ≡ gives (set_type (pair_type t u))
domain-part-same r a t u v h k e = relation-some (λ t u. if_set (λ v. if_holds (same_type v t) (gives (set_type (pair_type t u)))) a) r t u h ∙ set-some (λ v. if_holds (same_type v t) (gives (set_type (pair_type t u)))) a v k ∙ ap (λ c. if_holds c (gives (set_type (pair_type t u)))) e

pub domain-part-other : (r a : Role) (t u v : ValueType) → relation_part r ≡ Some (t, u) → set_part a ≡ Some v → same_type v t ≡ false → domain_part_role r a ≡ untyped
domain-part-other r a t u v h k e = relation-some (λ t u. if_set (λ v. if_holds (same_type v t) (gives (set_type (pair_type t u)))) a) r t u h ∙ set-some (λ v. if_holds (same_type v t) (gives (set_type (pair_type t u)))) a v k ∙ ap (λ c. if_holds c (gives (set_type (pair_type t u)))) e

pub domain-part-no_first : (r a : Role) → relation_part r ≡ None → domain_part_role r a ≡ untyped
domain-part-no_first r a h = relation-none (λ t u. if_set (λ v. if_holds (same_type v t) (gives (set_type (pair_type t u)))) a) r h

pub domain-part-no_second : (r a : Role) → set_part a ≡ None → domain_part_role r a ≡ untyped
domain-part-no_second r a k = by-relation (λ t u. if_set (λ v. if_holds (same_type v t) (gives (set_type (pair_type t u)))) a) r ∙ nothing_of_two (λ t u. if_set (λ v. if_holds (same_type v t) (gives (set_type (pair_type t u)))) a) (λ t u. set-none (λ v. if_holds (same_type v t) (gives (set_type (pair_type t u)))) a k) (relation_part r)

-- a relation and a set of its second parts
pub range-part-same : (r a : Role) (t u v : ValueType) → relation_part r ≡ Some (t, u) → set_part a ≡ Some v → same_type v u ≡ true → range_part_role r a ≡ gives (set_type (pair_type t u))
range-part-same r a t u v h k e = relation-some (λ t u. if_set (λ v. if_holds (same_type v u) (gives (set_type (pair_type t u)))) a) r t u h ∙ set-some (λ v. if_holds (same_type v u) (gives (set_type (pair_type t u)))) a v k ∙ ap (λ c. if_holds c (gives (set_type (pair_type t u)))) e

pub range-part-other : (r a : Role) (t u v : ValueType) → relation_part r ≡ Some (t, u) → set_part a ≡ Some v → same_type v u ≡ false → range_part_role r a ≡ untyped
range-part-other r a t u v h k e = relation-some (λ t u. if_set (λ v. if_holds (same_type v u) (gives (set_type (pair_type t u)))) a) r t u h ∙ set-some (λ v. if_holds (same_type v u) (gives (set_type (pair_type t u)))) a v k ∙ ap (λ c. if_holds c (gives (set_type (pair_type t u)))) e

pub range-part-no_first : (r a : Role) → relation_part r ≡ None → range_part_role r a ≡ untyped
range-part-no_first r a h = relation-none (λ t u. if_set (λ v. if_holds (same_type v u) (gives (set_type (pair_type t u)))) a) r h

pub range-part-no_second : (r a : Role) → set_part a ≡ None → range_part_role r a ≡ untyped
range-part-no_second r a k = by-relation (λ t u. if_set (λ v. if_holds (same_type v u) (gives (set_type (pair_type t u)))) a) r ∙ nothing_of_two (λ t u. if_set (λ v. if_holds (same_type v u) (gives (set_type (pair_type t u)))) a) (λ t u. set-none (λ v. if_holds (same_type v u) (gives (set_type (pair_type t u)))) a k) (relation_part r)

-- two relations of one type
pub override-same : (a b : Role) (t u v w : ValueType) → relation_part a ≡ Some (t, u) → relation_part b ≡ Some (v, w) → same_type t v ≡ true → same_type u w ≡ true → override_role a b ≡ gives (set_type (pair_type t u))
override-same a b t u v w h k d e = relation-some (λ t u. if_relation (λ v w. if_holds (same_type t v && same_type u w) (gives (set_type (pair_type t u)))) b) a t u h ∙ relation-some (λ v w. if_holds (same_type t v && same_type u w) (gives (set_type (pair_type t u)))) b v w k ∙ ap (λ c. if_holds (c && same_type u w) (gives (set_type (pair_type t u)))) d ∙ ap (λ c. if_holds c (gives (set_type (pair_type t u)))) e

pub override-first : (a b : Role) (t u v w : ValueType) → relation_part a ≡ Some (t, u) → relation_part b ≡ Some (v, w) → same_type t v ≡ false → override_role a b ≡ untyped
override-first a b t u v w h k e = relation-some (λ t u. if_relation (λ v w. if_holds (same_type t v && same_type u w) (gives (set_type (pair_type t u)))) b) a t u h ∙ relation-some (λ v w. if_holds (same_type t v && same_type u w) (gives (set_type (pair_type t u)))) b v w k ∙ ap (λ c. if_holds (c && same_type u w) (gives (set_type (pair_type t u)))) e

pub override-second : (a b : Role) (t u v w : ValueType) → relation_part a ≡ Some (t, u) → relation_part b ≡ Some (v, w) → same_type u w ≡ false → override_role a b ≡ untyped
override-second a b t u v w h k e = relation-some (λ t u. if_relation (λ v w. if_holds (same_type t v && same_type u w) (gives (set_type (pair_type t u)))) b) a t u h ∙ relation-some (λ v w. if_holds (same_type t v && same_type u w) (gives (set_type (pair_type t u)))) b v w k ∙ ap (λ c. if_holds (same_type t v && c) (gives (set_type (pair_type t u)))) e ∙ never (same_type t v) (gives (set_type (pair_type t u)))

pub override-no_first : (a b : Role) → relation_part a ≡ None → override_role a b ≡ untyped
override-no_first a b h = relation-none (λ t u. if_relation (λ v w. if_holds (same_type t v && same_type u w) (gives (set_type (pair_type t u)))) b) a h

pub override-no_second : (a b : Role) → relation_part b ≡ None → override_role a b ≡ untyped
override-no_second a b k = by-relation (λ t u. if_relation (λ v w. if_holds (same_type t v && same_type u w) (gives (set_type (pair_type t u)))) b) a ∙ nothing_of_two (λ t u. if_relation (λ v w. if_holds (same_type t v && same_type u w) (gives (set_type (pair_type t u)))) b) (λ t u. relation-none (λ v w. if_holds (same_type t v && same_type u w) (gives (set_type (pair_type t u)))) b k) (relation_part a)

-- two values
pub pair-both : (a b : Role) (t u : ValueType) → value_part a ≡ Some t → value_part b ≡ Some u → pair_role a b ≡ gives (pair_type t u)
pair-both a b t u h k = value-some (λ t. if_value (λ u. gives (pair_type t u)) b) a t h ∙ value-some (λ u. gives (pair_type t u)) b u k

pub pair-no_first : (a b : Role) → value_part a ≡ None → pair_role a b ≡ untyped
pair-no_first a b h = value-none (λ t. if_value (λ u. gives (pair_type t u)) b) a h

pub pair-no_second : (a b : Role) → value_part b ≡ None → pair_role a b ≡ untyped
pair-no_second a b k = by-value (λ t. if_value (λ u. gives (pair_type t u)) b) a ∙ nothing (λ t. if_value (λ u. gives (pair_type t u)) b) (λ t. value-none (λ u. gives (pair_type t u)) b k) (value_part a)

-- a relation and a set of its first parts
pub image-same : (r a : Role) (t u v : ValueType) → relation_part r ≡ Some (t, u) → set_part a ≡ Some v → same_type v t ≡ true → image_role r a ≡ gives (set_type u)
image-same r a t u v h k e = relation-some (λ t u. if_set (λ v. if_holds (same_type v t) (gives (set_type u))) a) r t u h ∙ set-some (λ v. if_holds (same_type v t) (gives (set_type u))) a v k ∙ ap (λ c. if_holds c (gives (set_type u))) e

pub image-other : (r a : Role) (t u v : ValueType) → relation_part r ≡ Some (t, u) → set_part a ≡ Some v → same_type v t ≡ false → image_role r a ≡ untyped
image-other r a t u v h k e = relation-some (λ t u. if_set (λ v. if_holds (same_type v t) (gives (set_type u))) a) r t u h ∙ set-some (λ v. if_holds (same_type v t) (gives (set_type u))) a v k ∙ ap (λ c. if_holds c (gives (set_type u))) e

pub image-no_first : (r a : Role) → relation_part r ≡ None → image_role r a ≡ untyped
image-no_first r a h = relation-none (λ t u. if_set (λ v. if_holds (same_type v t) (gives (set_type u))) a) r h

pub image-no_second : (r a : Role) → set_part a ≡ None → image_role r a ≡ untyped
image-no_second r a k = by-relation (λ t u. if_set (λ v. if_holds (same_type v t) (gives (set_type u))) a) r ∙ nothing_of_two (λ t u. if_set (λ v. if_holds (same_type v t) (gives (set_type u))) a) (λ t u. set-none (λ v. if_holds (same_type v t) (gives (set_type u))) a k) (relation_part r)

-- a relation and one of its first parts
pub application-same : (f a : Role) (t u v : ValueType) → relation_part f ≡ Some (t, u) → value_part a ≡ Some v → same_type v t ≡ true → application_role f a ≡ gives u
application-same f a t u v h k e = relation-some (λ t u. if_value (λ v. if_holds (same_type v t) (gives u)) a) f t u h ∙ value-some (λ v. if_holds (same_type v t) (gives u)) a v k ∙ ap (λ c. if_holds c (gives u)) e

pub application-other : (f a : Role) (t u v : ValueType) → relation_part f ≡ Some (t, u) → value_part a ≡ Some v → same_type v t ≡ false → application_role f a ≡ untyped
application-other f a t u v h k e = relation-some (λ t u. if_value (λ v. if_holds (same_type v t) (gives u)) a) f t u h ∙ value-some (λ v. if_holds (same_type v t) (gives u)) a v k ∙ ap (λ c. if_holds c (gives u)) e

pub application-no_first : (f a : Role) → relation_part f ≡ None → application_role f a ≡ untyped
application-no_first f a h = relation-none (λ t u. if_value (λ v. if_holds (same_type v t) (gives u)) a) f h

pub application-no_second : (f a : Role) → value_part a ≡ None → application_role f a ≡ untyped
application-no_second f a k = by-relation (λ t u. if_value (λ v. if_holds (same_type v t) (gives u)) a) f ∙ nothing_of_two (λ t u. if_value (λ v. if_holds (same_type v t) (gives u)) a) (λ t u. value-none (λ v. if_holds (same_type v t) (gives u)) a k) (relation_part f)

-- two relations, the second from where the first ends
pub composition-same : (a b : Role) (t u v w : ValueType) → relation_part a ≡ Some (t, u) → relation_part b ≡ Some (v, w) → same_type u v ≡ true → composition_role a b ≡ gives (set_type (pair_type t w))
composition-same a b t u v w h k e = relation-some (λ t u. if_relation (λ v w. if_holds (same_type u v) (gives (set_type (pair_type t w)))) b) a t u h ∙ relation-some (λ v w. if_holds (same_type u v) (gives (set_type (pair_type t w)))) b v w k ∙ ap (λ c. if_holds c (gives (set_type (pair_type t w)))) e

pub composition-other : (a b : Role) (t u v w : ValueType) → relation_part a ≡ Some (t, u) → relation_part b ≡ Some (v, w) → same_type u v ≡ false → composition_role a b ≡ untyped
composition-other a b t u v w h k e = relation-some (λ t u. if_relation (λ v w. if_holds (same_type u v) (gives (set_type (pair_type t w)))) b) a t u h ∙ relation-some (λ v w. if_holds (same_type u v) (gives (set_type (pair_type t w)))) b v w k ∙ ap (λ c. if_holds c (gives (set_type (pair_type t w)))) e

pub composition-no_first : (a b : Role) → relation_part a ≡ None → composition_role a b ≡ untyped
composition-no_first a b h = relation-none (λ t u. if_relation (λ v w. if_holds (same_type u v) (gives (set_type (pair_type t w)))) b) a h

pub composition-no_second : (a b : Role) → relation_part b ≡ None → composition_role a b ≡ untyped
composition-no_second a b k = by-relation (λ t u. if_relation (λ v w. if_holds (same_type u v) (gives (set_type (pair_type t w)))) b) a ∙ nothing_of_two (λ t u. if_relation (λ v w. if_holds (same_type u v) (gives (set_type (pair_type t w)))) b) (λ t u. relation-none (λ v w. if_holds (same_type u v) (gives (set_type (pair_type t w)))) b k) (relation_part a)

-- ---- one operand
pub card-some : (a : Role) (t : ValueType) → set_part a ≡ Some t → unary_role Card a ≡ gives int_type
card-some a t h = set-some (λ t. gives int_type) a t h

pub card-none : (a : Role) → set_part a ≡ None → unary_role Card a ≡ untyped
card-none a h = set-none (λ t. gives int_type) a h

pub dom-some : (a : Role) (t u : ValueType) → relation_part a ≡ Some (t, u) → unary_role Dom a ≡ gives (set_type t)
dom-some a t u h = relation-some (λ t u. gives (set_type t)) a t u h

pub dom-none : (a : Role) → relation_part a ≡ None → unary_role Dom a ≡ untyped
dom-none a h = relation-none (λ t u. gives (set_type t)) a h

pub ran-some : (a : Role) (t u : ValueType) → relation_part a ≡ Some (t, u) → unary_role Ran a ≡ gives (set_type u)
ran-some a t u h = relation-some (λ t u. gives (set_type u)) a t u h

pub ran-none : (a : Role) → relation_part a ≡ None → unary_role Ran a ≡ untyped
ran-none a h = relation-none (λ t u. gives (set_type u)) a h

pub inverse-some : (a : Role) (t u : ValueType) → relation_part a ≡ Some (t, u) → unary_role Inverse a ≡ gives (set_type (pair_type u t))
inverse-some a t u h = relation-some (λ t u. gives (set_type (pair_type u t))) a t u h

pub inverse-none : (a : Role) → relation_part a ≡ None → unary_role Inverse a ≡ untyped
inverse-none a h = relation-none (λ t u. gives (set_type (pair_type u t))) a h

pub id-some : (a : Role) (t : ValueType) → set_part a ≡ Some t → unary_role Id a ≡ gives (set_type (pair_type t t))
id-some a t h = set-some (λ t. gives (set_type (pair_type t t))) a t h

pub id-none : (a : Role) → set_part a ≡ None → unary_role Id a ≡ untyped
id-none a h = set-none (λ t. gives (set_type (pair_type t t))) a h

pub single-some : (a : Role) (t : ValueType) → value_part a ≡ Some t → unary_role Single a ≡ gives (set_type t)
single-some a t h = value-some (λ t. gives (set_type t)) a t h

pub single-none : (a : Role) → value_part a ≡ None → unary_role Single a ≡ untyped
single-none a h = value-none (λ t. gives (set_type t)) a h

pub min-same : (a : Role) (t : ValueType) → set_part a ≡ Some t → same_type t int_type ≡ true → unary_role Min a ≡ gives int_type
min-same a t h e = set-some (λ t. if_holds (same_type t int_type) (gives int_type)) a t h ∙ ap (λ c. if_holds c (gives int_type)) e

pub min-other : (a : Role) (t : ValueType) → set_part a ≡ Some t → same_type t int_type ≡ false → unary_role Min a ≡ untyped
min-other a t h e = set-some (λ t. if_holds (same_type t int_type) (gives int_type)) a t h ∙ ap (λ c. if_holds c (gives int_type)) e

pub min-none : (a : Role) → set_part a ≡ None → unary_role Min a ≡ untyped
min-none a h = set-none (λ t. if_holds (same_type t int_type) (gives int_type)) a h

pub pow-some : (a : Role) (t : ValueType) → domain_part a ≡ Some t → unary_role Pow a ≡ ranges_over (set_type t)
pow-some a t h = domain-some (λ t. ranges_over (set_type t)) a t h

pub pow-none : (a : Role) → domain_part a ≡ None → unary_role Pow a ≡ untyped
pow-none a h = domain-none (λ t. ranges_over (set_type t)) a h

-- ---- products
-- what ranges over no type is no set
no_set : (a : Role) → domain_part a ≡ None → set_part a ≡ None
no_set (gives int_type) h = refl
no_set (gives bool_type) h = refl
no_set (gives (enum_type n)) h = refl
no_set (gives (pair_type t u)) h = refl
no_set (gives (set_type t)) h = cc
no_set (ranges_over t) h = cc
no_set predicate h = refl
no_set untyped h = refl

product-domains : (o c d : Option ValueType) → product_by o None c d ≡ role_by (λ t. role_by (λ u. ranges_over (pair_type t u)) d) c
product-domains None c d = refl
product-domains (Some t) c d = refl

pub product-values : (a b : Role) (t u : ValueType) → set_part a ≡ Some t → set_part b ≡ Some u → product_role a b ≡ gives (set_type (pair_type t u))
product-values a b t u h k = by-product a b ∙ ap (λ o. product_by o (set_part b) (domain_part a) (domain_part b)) h ∙ ap (λ o. product_by (Some t) o (domain_part a) (domain_part b)) k

pub product-left : (a b : Role) (t u : ValueType) → set_part a ≡ None → domain_part a ≡ Some t → domain_part b ≡ Some u → product_role a b ≡ ranges_over (pair_type t u)
product-left a b t u n h k = by-product a b ∙ ap (λ o. product_by o (set_part b) (domain_part a) (domain_part b)) n ∙ ap (role_by (λ t. role_by (λ u. ranges_over (pair_type t u)) (domain_part b))) h ∙ ap (role_by (λ u. ranges_over (pair_type t u))) k

pub product-right : (a b : Role) (t u : ValueType) → set_part b ≡ None → domain_part a ≡ Some t → domain_part b ≡ Some u → product_role a b ≡ ranges_over (pair_type t u)
product-right a b t u n h k = by-product a b ∙ ap (λ o. product_by (set_part a) o (domain_part a) (domain_part b)) n ∙ product-domains (set_part a) (domain_part a) (domain_part b) ∙ ap (role_by (λ t. role_by (λ u. ranges_over (pair_type t u)) (domain_part b))) h ∙ ap (role_by (λ u. ranges_over (pair_type t u))) k

pub product-no_first : (a b : Role) → domain_part a ≡ None → product_role a b ≡ untyped
product-no_first a b h = by-product a b ∙ ap (λ o. product_by o (set_part b) (domain_part a) (domain_part b)) (no_set a h) ∙ ap (role_by (λ t. role_by (λ u. ranges_over (pair_type t u)) (domain_part b))) h

pub product-no_second : (a b : Role) → domain_part b ≡ None → product_role a b ≡ untyped
product-no_second a b k = by-product a b ∙ ap (λ o. product_by (set_part a) o (domain_part a) (domain_part b)) (no_set b k) ∙ product-domains (set_part a) (domain_part a) (domain_part b) ∙ nothing (λ t. role_by (λ u. ranges_over (pair_type t u)) (domain_part b)) (λ t. ap (role_by (λ u. ranges_over (pair_type t u))) k) (domain_part a)

-- ---- binders
unless_held : (c : Bool) → if_holds c untyped ≡ untyped
unless_held true = refl
unless_held false = refl

pub quantifier-typed : (table : Table) (ts : List ValueType) (p : Role) → all_listed table ts ≡ true → predicate_part p ≡ true → quantifier_role table ts p ≡ predicate
quantifier-typed table ts p h k = ap (λ c. if_holds c (if_predicate predicate p)) h ∙ predicate-true predicate p k

pub quantifier-unlisted : (table : Table) (ts : List ValueType) (p : Role) → all_listed table ts ≡ false → quantifier_role table ts p ≡ untyped
quantifier-unlisted table ts p h = ap (λ c. if_holds c (if_predicate predicate p)) h

pub quantifier-no_predicate : (table : Table) (ts : List ValueType) (p : Role) → predicate_part p ≡ false → quantifier_role table ts p ≡ untyped
quantifier-no_predicate table ts p k = ap (if_holds (all_listed table ts)) (predicate-false predicate p k) ∙ unless_held (all_listed table ts)

pub comprehension-typed : (rs : List Role) (p : Role) → are_ranges rs ≡ true → predicate_part p ≡ true → comprehension_role rs p ≡ gives (set_type (tuple_type (element_types rs)))
comprehension-typed rs p h k = ap (λ c. if_holds c (if_predicate (gives (set_type (tuple_type (element_types rs)))) p)) h ∙ predicate-true (gives (set_type (tuple_type (element_types rs)))) p k

pub comprehension-no_ranges : (rs : List Role) (p : Role) → are_ranges rs ≡ false → comprehension_role rs p ≡ untyped
comprehension-no_ranges rs p h = ap (λ c. if_holds c (if_predicate (gives (set_type (tuple_type (element_types rs)))) p)) h

pub comprehension-no_predicate : (rs : List Role) (p : Role) → predicate_part p ≡ false → comprehension_role rs p ≡ untyped
comprehension-no_predicate rs p k = ap (if_holds (are_ranges rs)) (predicate-false (gives (set_type (tuple_type (element_types rs)))) p k) ∙ unless_held (are_ranges rs)

-- what a lambda with ranges gives, by its value
abbrev image_role_of : List Role → Role → Role
image_role_of rs v = if_value (λ u. gives (set_type (pair_type (tuple_type (element_types rs)) u))) v

pub lambda-typed : (rs : List Role) (p v : Role) (u : ValueType) → are_ranges rs ≡ true → predicate_part p ≡ true → value_part v ≡ Some u → lambda_role rs p v ≡ gives (set_type (pair_type (tuple_type (element_types rs)) u))
lambda-typed rs p v u h k e = ap (λ c. if_holds c (if_predicate (image_role_of rs v) p)) h ∙ predicate-true (image_role_of rs v) p k ∙ value-some (λ u. gives (set_type (pair_type (tuple_type (element_types rs)) u))) v u e

pub lambda-no_ranges : (rs : List Role) (p v : Role) → are_ranges rs ≡ false → lambda_role rs p v ≡ untyped
lambda-no_ranges rs p v h = ap (λ c. if_holds c (if_predicate (image_role_of rs v) p)) h

pub lambda-no_predicate : (rs : List Role) (p v : Role) → predicate_part p ≡ false → lambda_role rs p v ≡ untyped
lambda-no_predicate rs p v k = ap (if_holds (are_ranges rs)) (predicate-false (image_role_of rs v) p k) ∙ unless_held (are_ranges rs)

pub lambda-no_value : (rs : List Role) (p v : Role) → value_part v ≡ None → lambda_role rs p v ≡ untyped
lambda-no_value rs p v e = ap (λ r. if_holds (are_ranges rs) (if_predicate r p)) (value-none (λ u. gives (set_type (pair_type (tuple_type (element_types rs)) u))) v e) ∙ ap (if_holds (are_ranges rs)) (by-predicate untyped p ∙ unless (predicate_part p)) ∙ unless_held (are_ranges rs)

-- ranges
pub set-gives : (a : Role) (t : ValueType) → set_part a ≡ Some t → gives_set a ≡ true
set-gives (gives int_type) t h = cc
set-gives (gives bool_type) t h = cc
set-gives (gives (enum_type n)) t h = cc
set-gives (gives (pair_type u v)) t h = cc
set-gives (gives (set_type u)) t h = refl
set-gives (ranges_over u) t h = cc
set-gives predicate t h = cc
set-gives untyped t h = cc

pub set-gives_none : (a : Role) → set_part a ≡ None → gives_set a ≡ false
set-gives_none (gives int_type) h = refl
set-gives_none (gives bool_type) h = refl
set-gives_none (gives (enum_type n)) h = refl
set-gives_none (gives (pair_type u v)) h = refl
set-gives_none (gives (set_type u)) h = cc
set-gives_none (ranges_over u) h = refl
set-gives_none predicate h = refl
set-gives_none untyped h = refl

pub set-element : (a : Role) (t : ValueType) → set_part a ≡ Some t → element_type a ≡ t
set-element (gives int_type) t h = cc
set-element (gives bool_type) t h = cc
set-element (gives (enum_type n)) t h = cc
set-element (gives (pair_type u v)) t h = cc
set-element (gives (set_type u)) t h = cc
set-element (ranges_over u) t h = cc
set-element predicate t h = cc
set-element untyped t h = cc

-- one element stands behind the others, and in front of the rest
pub one_more : (ts us : List ValueType) (t : ValueType) → (ts ++ t ∷ []) ++ us ≡ ts ++ t ∷ us
one_more [] us t = refl
one_more (s ∷ ts) us t = ap (λ vs. s ∷ vs) (one_more ts us t)

-- no range is none, and of some the first alone says nothing
pub no_range : (table : Table) (around : List ValueType) (fs : List Formula) → length fs ≡ 0 → are_ranges (roles table around (formulas_of fs)) ≡ false
no_range table around [] h = refl
no_range table around (f ∷ fs) h = absurd (omega (arith, h))

pub some_ranges : (table : Table) (around : List ValueType) (fs : List Formula) → 0 < length fs → are_ranges (roles table around (formulas_of fs)) ≡ each_gives_set (roles table around (formulas_of fs))
some_ranges table around [] h = absurd (omega (arith, h))
some_ranges table around (f ∷ fs) h = refl

pub ruleset predicates = (predicate-true, predicate-false)

pub ruleset numbers = (number-true, number-false)

pub ruleset connectives = (connective-both, connective-no_first, connective-no_second)

pub ruleset two_numbers = (numbers-both, numbers-no_first, numbers-no_second)

pub ruleset products = (product-values, product-left, product-right, product-no_first, product-no_second)

pub ruleset quantifiers = (quantifier-typed, quantifier-unlisted, quantifier-no_predicate)

pub ruleset comprehensions = (comprehension-typed, comprehension-no_ranges, comprehension-no_predicate)

pub ruleset lambdas = (lambda-typed, lambda-no_ranges, lambda-no_predicate, lambda-no_value)

pub ruleset ranges = (set-gives, set-gives_none, set-element, one_more, no_range, some_ranges)

pub ruleset equalities = (equality-same, equality-other, equality-no_first, equality-no_second)

pub ruleset memberships = (membership-same, membership-other, membership-no_first, membership-no_second)

pub ruleset arrows = (arrow-both, arrow-no_first, arrow-no_second)

pub ruleset two_sets = (sets-same, sets-other, sets-no_first, sets-no_second)

pub ruleset domain_parts = (domain-part-same, domain-part-other, domain-part-no_first, domain-part-no_second)

pub ruleset range_parts = (range-part-same, range-part-other, range-part-no_first, range-part-no_second)

pub ruleset overrides = (override-same, override-first, override-second, override-no_first, override-no_second)

pub ruleset pairs = (pair-both, pair-no_first, pair-no_second)

pub ruleset images = (image-same, image-other, image-no_first, image-no_second)

pub ruleset applications = (application-same, application-other, application-no_first, application-no_second)

pub ruleset compositions = (composition-same, composition-other, composition-no_first, composition-no_second)

pub ruleset counts = (card-some, card-none)

pub ruleset domains = (dom-some, dom-none)

pub ruleset second_parts = (ran-some, ran-none)

pub ruleset inverses = (inverse-some, inverse-none)

pub ruleset identities = (id-some, id-none)

pub ruleset singles = (single-some, single-none)

pub ruleset extremes = (min-same, min-other, min-none)

pub ruleset powers = (pow-some, pow-none)
