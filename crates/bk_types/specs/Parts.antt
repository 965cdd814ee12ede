-- What an operand is taken for, by its role.
use Rattle.std.specs.Prelude.{Bool, true, false, Option, None, Some}
use Rattle.bk_val.specs.ValueType.{ValueType, int_type, pair_type, set_type}
use Rattle.bk_form.specs.Role.{Role, gives, ranges_over, predicate, untyped}

-- whether it is a predicate
abbrev pub predicate_part : Role → Bool
predicate_part predicate = true
predicate_part _ = false

-- whether it is a whole number
abbrev pub number_part : Role → Bool
number_part (gives int_type) = true
number_part _ = false

-- the type of a value
abbrev pub value_part : Role → Option ValueType
value_part (gives t) = Some t
value_part _ = None

-- the type of the elements of a set value
abbrev pub set_part : Role → Option ValueType
set_part (gives (set_type t)) = Some t
set_part _ = None

-- the types of the first and second parts of a relation
abbrev pub relation_part : Role → Option (ValueType × ValueType)
relation_part (gives (set_type (pair_type t u))) = Some (t, u)
relation_part _ = None

-- the type that a set value or another domain ranges over
abbrev pub domain_part : Role → Option ValueType
domain_part (gives (set_type t)) = Some t
domain_part (ranges_over t) = Some t
domain_part _ = None

-- the role by a type, where there is one
abbrev pub role_by : (ValueType → Role) → Option ValueType → Role
role_by f None = untyped
role_by f (Some t) = f t

-- the role by two types, where they are there
abbrev pub role_by_two : (ValueType → ValueType → Role) → Option (ValueType × ValueType) → Role
role_by_two f None = untyped
role_by_two f (Some p) = f p.0 p.1

-- a product by the elements of set values, and else by domains
abbrev pub product_by : Option ValueType → Option ValueType → Option ValueType → Option ValueType → Role
product_by (Some t) (Some u) c d = gives (set_type (pair_type t u))
product_by _ _ c d = role_by (λ t. role_by (λ u. ranges_over (pair_type t u)) d) c
