-- The typing of formulas: what a formula stands for, by its form alone.
-- Source: B-Book, type checking; B Language Reference Manual.
use Rattle.std.specs.Prelude.{ℕ, nat_eq, nat_lt, Bool, true, false, ◌&&◌, List, [], ◌∷◌, map, Option, Some, None, slice_get}
use Rattle.bk_val.specs.ValueType.{ValueType, int_type, bool_type, enum_type, pair_type, set_type}
use Rattle.bk_form.specs.Table.{Table, listed_size, variable_type, lists_type}
use Rattle.bk_form.specs.Formula.{Formula, variable, bound, literal, truth_value, element, empty_set, named, btrue, bfalse}
use Rattle.bk_form.specs.Formula.{unary, binary, for_all, for_some, comprehension, lambda, Formulas, no_formulas, formula_and}
use Rattle.bk_form.specs.declared.operator.UnOp.{UnOp}
use Rattle.bk_form.specs.declared.operator.UnOp.TheVariants.{Not, BoolOf, Neg, Card, Min, Max, Dom, Ran, Id, Inverse, Single, Pow, Pow1}
use Rattle.bk_form.specs.declared.operator.BinOp.{BinOp}
use Rattle.bk_form.specs.declared.operator.BinOp.TheVariants.{And, Or, Imp, Iff, Eq, Lt, Le, In, Relations, PartialFunctions}
use Rattle.bk_form.specs.declared.operator.BinOp.TheVariants.{TotalFunctions, PartialInjections, TotalInjections, PartialSurjections}
use Rattle.bk_form.specs.declared.operator.BinOp.TheVariants.{TotalSurjections, Bijections, Union, Inter, Minus, Times, DomRes, RanRes}
use Rattle.bk_form.specs.declared.operator.BinOp.TheVariants.{DomSub, RanSub, Over, Maps, Range, Add, Sub, Mul, Div, Mod, Power, Image}
use Rattle.bk_form.specs.declared.operator.BinOp.TheVariants.{Apply, Comp}
use Rattle.bk_form.specs.declared.operator.Domain.{Domain}
use Rattle.bk_form.specs.declared.operator.Domain.TheVariants.{Bool as Booleans, Enum}

-- What a formula stands for: a value of the type that it gives, a domain that is no value and ranges over a type, a predicate, or nothing.
pub data Role : Type 0 where
  gives : ValueType → Role
  ranges_over : ValueType → Role
  predicate : Role
  untyped : Role

-- whether two types are the same
abbrev pub same_type : ValueType → ValueType → Bool
same_type int_type int_type = true
same_type bool_type bool_type = true
same_type (enum_type m) (enum_type n) = nat_eq m n
same_type (pair_type s t) (pair_type u v) = same_type s u && same_type t v
same_type (set_type s) (set_type t) = same_type s t
same_type _ _ = false

-- the role, where the test holds
abbrev pub if_holds : Bool → Role → Role
if_holds true r = r
if_holds false r = untyped

-- ---- what an operand has to be: the rest of the rule takes its type
-- the role r, where the operand is a predicate
abbrev pub if_predicate : Role → Role → Role
if_predicate r predicate = r
if_predicate r _ = untyped

-- the role r, where the operand is a whole number
abbrev pub if_number : Role → Role → Role
if_number r (gives int_type) = r
if_number r _ = untyped

-- the role by the operand's type, where the operand has a value
abbrev pub if_value : (ValueType → Role) → Role → Role
if_value f (gives t) = f t
if_value f _ = untyped

-- a set value, by the type of its elements
abbrev pub if_set : (ValueType → Role) → Role → Role
if_set f (gives (set_type t)) = f t
if_set f _ = untyped

-- a relation, by the types of its first and second parts
abbrev pub if_relation : (ValueType → ValueType → Role) → Role → Role
if_relation f (gives (set_type (pair_type t u))) = f t u
if_relation f _ = untyped

-- a set value or another domain, by the type that it ranges over
abbrev pub if_domain : (ValueType → Role) → Role → Role
if_domain f (gives (set_type t)) = f t
if_domain f (ranges_over t) = f t
if_domain f _ = untyped

-- a product of two set values is a value; a product of domains is a domain
abbrev pub product_role : Role → Role → Role
product_role (gives (set_type t)) (gives (set_type u)) = gives (set_type (pair_type t u))
product_role a b = if_domain (λ t. if_domain (λ u. ranges_over (pair_type t u)) b) a

-- ---- the rule of each operator
-- what an operator on one formula stands for, by what that formula does
abbrev pub unary_role : UnOp → Role → Role
unary_role Not a = if_predicate predicate a
unary_role BoolOf a = if_predicate (gives bool_type) a
unary_role Neg a = if_number (gives int_type) a
unary_role Card a = if_set (λ t. gives int_type) a
unary_role Min a = if_set (λ t. if_holds (same_type t int_type) (gives int_type)) a
unary_role Max a = if_set (λ t. if_holds (same_type t int_type) (gives int_type)) a
unary_role Dom a = if_relation (λ t u. gives (set_type t)) a
unary_role Ran a = if_relation (λ t u. gives (set_type u)) a
unary_role Id a = if_set (λ t. gives (set_type (pair_type t t))) a
unary_role Inverse a = if_relation (λ t u. gives (set_type (pair_type u t))) a
unary_role Single a = if_value (λ t. gives (set_type t)) a
unary_role Pow a = if_domain (λ t. ranges_over (set_type t)) a
unary_role Pow1 a = if_domain (λ t. ranges_over (set_type t)) a

-- two predicates
abbrev pub connective_role : Role → Role → Role
connective_role a b = if_predicate (if_predicate predicate b) a

-- two numbers
abbrev pub numbers_role : Role → Role → Role → Role
numbers_role r a b = if_number (if_number r b) a

-- two values of one type
abbrev pub equality_role : Role → Role → Role
equality_role a b = if_value (λ t. if_value (λ u. if_holds (same_type t u) predicate) b) a

-- a value and a domain that ranges over its type
abbrev pub membership_role : Role → Role → Role
membership_role a b = if_value (λ t. if_domain (λ u. if_holds (same_type t u) predicate) b) a

-- a set of relations between two domains
abbrev pub arrow_role : Role → Role → Role
arrow_role a b = if_domain (λ t. if_domain (λ u. ranges_over (set_type (pair_type t u))) b) a

-- two sets of one type
abbrev pub sets_role : Role → Role → Role
sets_role a b = if_set (λ t. if_set (λ u. if_holds (same_type t u) (gives (set_type t))) b) a

-- a relation and a set of its first parts
abbrev pub domain_part_role : Role → Role → Role
domain_part_role r a = if_relation (λ t u. if_set (λ v. if_holds (same_type v t) (gives (set_type (pair_type t u)))) a) r

-- a relation and a set of its second parts
abbrev pub range_part_role : Role → Role → Role
range_part_role r a = if_relation (λ t u. if_set (λ v. if_holds (same_type v u) (gives (set_type (pair_type t u)))) a) r

-- two relations of one type
abbrev pub override_role : Role → Role → Role
override_role a b =
    if_relation (λ t u. if_relation (λ v w. if_holds (same_type t v && same_type u w) (gives (set_type (pair_type t u)))) b) a

-- x |-> y, of two values
abbrev pub pair_role : Role → Role → Role
pair_role a b = if_value (λ t. if_value (λ u. gives (pair_type t u)) b) a

-- r[a], of a relation and a set of its first parts: a set of its second parts
abbrev pub image_role : Role → Role → Role
image_role r a = if_relation (λ t u. if_set (λ v. if_holds (same_type v t) (gives (set_type u))) a) r

-- f(x), of a relation and one of its first parts: one of its second parts
abbrev pub application_role : Role → Role → Role
application_role f a = if_relation (λ t u. if_value (λ v. if_holds (same_type v t) (gives u)) a) f

-- (r ; s), where s takes up the type in which r ends
abbrev pub composition_role : Role → Role → Role
composition_role a b = if_relation (λ t u. if_relation (λ v w. if_holds (same_type u v) (gives (set_type (pair_type t w)))) b) a

-- what an operator on two formulas stands for, by what the two do
abbrev pub binary_role : BinOp → Role → Role → Role
binary_role And a b = connective_role a b
binary_role Or a b = connective_role a b
binary_role Imp a b = connective_role a b
binary_role Iff a b = connective_role a b
binary_role Eq a b = equality_role a b
binary_role Lt a b = numbers_role predicate a b
binary_role Le a b = numbers_role predicate a b
binary_role In a b = membership_role a b
binary_role Relations a b = arrow_role a b
binary_role PartialFunctions a b = arrow_role a b
binary_role TotalFunctions a b = arrow_role a b
binary_role PartialInjections a b = arrow_role a b
binary_role TotalInjections a b = arrow_role a b
binary_role PartialSurjections a b = arrow_role a b
binary_role TotalSurjections a b = arrow_role a b
binary_role Bijections a b = arrow_role a b
binary_role Union a b = sets_role a b
binary_role Inter a b = sets_role a b
binary_role Minus a b = sets_role a b
binary_role Times a b = product_role a b
binary_role DomRes a b = domain_part_role b a
binary_role RanRes a b = range_part_role a b
binary_role DomSub a b = domain_part_role b a
binary_role RanSub a b = range_part_role a b
binary_role Over a b = override_role a b
binary_role Maps a b = pair_role a b
binary_role Range a b = numbers_role (gives (set_type int_type)) a b
binary_role Add a b = numbers_role (gives int_type) a b
binary_role Sub a b = numbers_role (gives int_type) a b
binary_role Mul a b = numbers_role (gives int_type) a b
binary_role Div a b = numbers_role (gives int_type) a b
binary_role Mod a b = numbers_role (gives int_type) a b
binary_role Power a b = numbers_role (gives int_type) a b
binary_role Image a b = image_role a b
binary_role Apply a b = application_role a b
binary_role Comp a b = composition_role a b

-- ---- leaves
-- a variable gives its type, and nothing where the table has no such variable
abbrev pub given_by : Option ValueType → Role
given_by None = untyped
given_by (Some t) = gives t

-- a bound number whose type has only sets that the table lists
abbrev pub bound_role : Table → Option ValueType → Role
bound_role table None = untyped
bound_role table (Some t) = if_holds (lists_type table t) (gives t)

-- {} gives the type that it carries, where that is a type of sets over listed sets
abbrev pub empty_role : Table → ValueType → Role
empty_role table (set_type t) = if_holds (lists_type table t) (gives (set_type t))
empty_role table _ = untyped

-- an element gives its set, where the number is below the set's size: of a set without a size no element types
abbrev pub element_role : Table → ℕ → ℕ → Role
element_role table s i = if_holds (nat_lt i (listed_size table s)) (gives (enum_type s))

-- BOOL and the enumerated sets are values; the others are infinite
abbrev pub named_role : Table → Domain → Role
named_role table Booleans = gives (set_type bool_type)
named_role table (Enum n) = if_holds (lists_type table (enum_type n)) (gives (set_type (enum_type n)))
named_role table _ = ranges_over int_type

-- ---- binders
-- the table lists each enumerated set in each of the types
abbrev pub all_listed : Table → List ValueType → Bool
all_listed table [] = true
all_listed table (t ∷ ts) = lists_type table t && all_listed table ts

-- the bound variables of a list go in front of those around them, the last one innermost
abbrev pub bind : {A : Type 0} → List A → List A → List A
bind [] around = around
bind (x ∷ xs) around = bind xs (x ∷ around)

-- whether it is a set value, whose elements can be listed
abbrev pub gives_set : Role → Bool
gives_set (gives (set_type t)) = true
gives_set _ = false

-- whether each of them is a set value
abbrev pub each_gives_set : List Role → Bool
each_gives_set [] = true
each_gives_set (r ∷ rs) = gives_set r && each_gives_set rs

-- the ranges of a comprehension or lambda are set values, and at least one
abbrev pub are_ranges : List Role → Bool
are_ranges [] = false
are_ranges (r ∷ rs) = each_gives_set (r ∷ rs)

-- the type of the elements of a set or domain; what is neither has BOOL in its place
abbrev pub element_type : Role → ValueType
element_type (gives (set_type t)) = t
element_type (ranges_over t) = t
element_type _ = bool_type

-- the types of the elements of the ranges
abbrev pub element_types : List Role → List ValueType
element_types rs = map element_type rs

-- the type with these joined on its right one by one, as that of x |-> y |-> z is (t * u) * v
abbrev pub tuple_type_onto : ValueType → List ValueType → ValueType
tuple_type_onto t [] = t
tuple_type_onto t (u ∷ us) = tuple_type_onto (pair_type t u) us

-- the type of several values as one: pairs to the left
abbrev pub tuple_type : List ValueType → ValueType
tuple_type [] = bool_type
tuple_type (t ∷ ts) = tuple_type_onto t ts

-- !x.P and #x.P, with P a predicate and x of listed types
abbrev pub quantifier_role : Table → List ValueType → Role → Role
quantifier_role table ts body = if_holds (all_listed table ts) (if_predicate predicate body)

-- {x | P}, with P a predicate: a set of tuples of elements of the ranges
abbrev pub comprehension_role : List Role → Role → Role
comprehension_role ranges body = if_holds (are_ranges ranges) (if_predicate (gives (set_type (tuple_type (element_types ranges)))) body)

-- %x.(P | E), with P a predicate: a relation from tuples of elements of the ranges to the type of E
abbrev pub lambda_role : List Role → Role → Role → Role
lambda_role ranges body image = if_holds (are_ranges ranges)
    (if_predicate (if_value (λ u. gives (set_type (pair_type (tuple_type (element_types ranges)) u))) image) body)

abbrev mutual
  -- the role of a formula under bound variables of these types, the innermost first
  pub role : Table → List ValueType → Formula → Role
  role table around (variable n) = given_by (variable_type table n)
  role table around (bound n) = bound_role table (slice_get around n)
  role table around (literal z) = gives int_type
  role table around (truth_value b) = gives bool_type
  role table around (element s i) = element_role table s i
  role table around (empty_set t) = empty_role table t
  role table around (named d) = named_role table d
  role table around btrue = predicate
  role table around bfalse = predicate
  role table around (unary o a) = unary_role o (role table around a)
  role table around (binary o a b) = binary_role o (role table around a) (role table around b)
  role table around (for_all ts p) = quantifier_role table ts (role table (bind ts around) p)
  role table around (for_some ts p) = quantifier_role table ts (role table (bind ts around) p)
  role table around (comprehension rs p) =
      comprehension_role (roles table around rs) (role table (bind (element_types (roles table around rs)) around) p)
  role table around (lambda rs p v) = lambda_role (roles table around rs) (role table
      (bind (element_types (roles table around rs)) around) p) (role table (bind (element_types (roles table around rs)) around) v)

  -- the roles of several formulas, in order
  pub roles : Table → List ValueType → Formulas → List Role
  roles table around no_formulas = []
  roles table around (formula_and f fs) = role table around f ∷ roles table around fs
