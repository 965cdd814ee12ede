-- Where a formula types, each operand does, and what is given or ranged over is a type whose sets the table lists.
use Rattle.std.proofs.Common.{◌≡◌, ℕ, List, [], ◌∷◌, refl, Bool, true, false, ◌&&◌, nat_lt}
use Rattle.std.specs.Prelude.{Option, Some, None, slice_get}
use Rattle.bk_val.specs.ValueType.{ValueType, int_type, bool_type, enum_type, pair_type, set_type}
use Rattle.bk_form.specs.Table.{Table, lists_type, listed_size, variable_type}
use Rattle.bk_form.specs.Formula.{Formula, variable, bound, literal, truth_value, element, empty_set, named, btrue, bfalse, unary, binary, for_all, for_some, comprehension, lambda, Formulas, no_formulas, formula_and}
use Rattle.bk_form.specs.Role.{Role, gives, ranges_over, predicate, if_holds, if_predicate, if_number, if_value, if_set, if_relation, if_domain, same_type, given_by, bound_role, empty_role, named_role, role, roles, unary_role, binary_role, product_role, bind, are_ranges, element_type, element_types, tuple_type_onto, tuple_type}
use Rattle.bk_form.specs.declared.operator.UnOp.{UnOp}
use Rattle.bk_form.specs.declared.operator.UnOp.TheVariants.{Not, BoolOf, Neg, Card, Min, Max, Dom, Ran, Id, Inverse, Single, Pow, Pow1}
use Rattle.bk_form.specs.declared.operator.BinOp.{BinOp}
use Rattle.bk_form.specs.declared.operator.BinOp.TheVariants.{And, Or, Imp, Iff, Eq, Lt, Le, In, Relations, PartialFunctions, TotalFunctions, PartialInjections, TotalInjections, PartialSurjections, TotalSurjections, Bijections, Union, Inter, Minus, Times, DomRes, RanRes, DomSub, RanSub, Over, Maps, Range, Add, Sub, Mul, Div, Mod, Power, Image, Apply, Comp}
use Rattle.bk_form.specs.declared.operator.Domain.{Domain}
use Rattle.bk_form.specs.declared.operator.Domain.TheVariants.{Bool as Booleans, Enum}
use Rattle.bk_form.proofs.Members.{and-true, and-both}
use Rattle.bk_form.specs.Wider.{IsTypedRole}

-- ---- an operand of what types, types
pub holds-op : (b : Bool) (r : Role) → IsTypedRole (if_holds b r) → (b ≡ true) × IsTypedRole r
holds-op true r h = (refl, h)
holds-op false r h = absurd h

pub predicate-op : (r a : Role) → IsTypedRole (if_predicate r a) → IsTypedRole a × IsTypedRole r
predicate-op r predicate h = (tt, h)
predicate-op r _ h = absurd h

number-op : (r a : Role) → IsTypedRole (if_number r a) → IsTypedRole a × IsTypedRole r
number-op r (gives int_type) h = (tt, h)
number-op r _ h = absurd h

pub value-op : (f : ValueType → Role) (a : Role) → IsTypedRole (if_value f a) → IsTypedRole a × ((t : ValueType) × IsTypedRole (f t))
value-op f (gives t) h = (tt, (t, h))
value-op f _ h = absurd h

set-op : (f : ValueType → Role) (a : Role) → IsTypedRole (if_set f a) → IsTypedRole a × ((t : ValueType) × IsTypedRole (f t))
set-op f (gives (set_type t)) h = (tt, (t, h))
set-op f _ h = absurd h

domain-op : (f : ValueType → Role) (a : Role) → IsTypedRole (if_domain f a) → IsTypedRole a × ((t : ValueType) × IsTypedRole (f t))
domain-op f (gives (set_type t)) h = (tt, (t, h))
domain-op f (ranges_over t) h = (tt, (t, h))
domain-op f _ h = absurd h

relation-op : (f : ValueType → ValueType → Role) (a : Role) → IsTypedRole (if_relation f a) → IsTypedRole a × ((t : ValueType) × (u : ValueType) × IsTypedRole (f t u))
relation-op f (gives (set_type (pair_type t u))) h = (tt, (t, u, h))
relation-op f _ h = absurd h

pub unary-op : (o : UnOp) (a : Role) → IsTypedRole (unary_role o a) → IsTypedRole a
unary-op Not a h = (predicate-op predicate a h).0
unary-op BoolOf a h = (predicate-op (gives bool_type) a h).0
unary-op Neg a h = (number-op (gives int_type) a h).0
unary-op Card a h = (set-op (λ t. gives int_type) a h).0
unary-op Min a h = (set-op (λ t. if_holds (same_type t int_type) (gives int_type)) a h).0
unary-op Max a h = (set-op (λ t. if_holds (same_type t int_type) (gives int_type)) a h).0
unary-op Dom a h = (relation-op (λ t u. gives (set_type t)) a h).0
unary-op Ran a h = (relation-op (λ t u. gives (set_type u)) a h).0
unary-op Id a h = (set-op (λ t. gives (set_type (pair_type t t))) a h).0
unary-op Inverse a h = (relation-op (λ t u. gives (set_type (pair_type u t))) a h).0
unary-op Single a h = (value-op (λ t. gives (set_type t)) a h).0
unary-op Pow a h = (domain-op (λ t. ranges_over (set_type t)) a h).0
unary-op Pow1 a h = (domain-op (λ t. ranges_over (set_type t)) a h).0

abbrev Both : Role → Role → Type 0
Both a b = IsTypedRole a × IsTypedRole b

connective-op : (a b : Role) → IsTypedRole (if_predicate (if_predicate predicate b) a) → Both a b
connective-op a b h = let k = predicate-op (if_predicate predicate b) a h in (k.0, (predicate-op predicate b k.1).0)

numbers-op : (r a b : Role) → IsTypedRole (if_number (if_number r b) a) → Both a b
numbers-op r a b h = let k = number-op (if_number r b) a h in (k.0, (number-op r b k.1).0)

values-op : (f : ValueType → ValueType → Role) (a b : Role) → IsTypedRole (if_value (λ t. if_value (f t) b) a) → Both a b
values-op f a b h = let k = value-op (λ t. if_value (f t) b) a h in (k.0, (value-op (f k.1.0) b k.1.1).0)

member-op : (f : ValueType → ValueType → Role) (a b : Role) → IsTypedRole (if_value (λ t. if_domain (f t) b) a) → Both a b
member-op f a b h = let k = value-op (λ t. if_domain (f t) b) a h in (k.0, (domain-op (f k.1.0) b k.1.1).0)

domains-op : (f : ValueType → ValueType → Role) (a b : Role) → IsTypedRole (if_domain (λ t. if_domain (f t) b) a) → Both a b
domains-op f a b h = let k = domain-op (λ t. if_domain (f t) b) a h in (k.0, (domain-op (f k.1.0) b k.1.1).0)

sets-op : (f : ValueType → ValueType → Role) (a b : Role) → IsTypedRole (if_set (λ t. if_set (f t) b) a) → Both a b
sets-op f a b h = let k = set-op (λ t. if_set (f t) b) a h in (k.0, (set-op (f k.1.0) b k.1.1).0)

part-op : (f : ValueType → ValueType → ValueType → Role) (r a : Role) → IsTypedRole (if_relation (λ t u. if_set (f t u) a) r) → Both r a
part-op f r a h = let k = relation-op (λ t u. if_set (f t u) a) r h in (k.0, (set-op (f k.1.0 k.1.1) a k.1.2).0)

apply-op : (f : ValueType → ValueType → ValueType → Role) (r a : Role) → IsTypedRole (if_relation (λ t u. if_value (f t u) a) r) → Both r a
apply-op f r a h = let k = relation-op (λ t u. if_value (f t u) a) r h in (k.0, (value-op (f k.1.0 k.1.1) a k.1.2).0)

relations-op : (f : ValueType → ValueType → ValueType → ValueType → Role) (a b : Role) → IsTypedRole (if_relation (λ t u. if_relation (f t u) b) a) → Both a b
relations-op f a b h = let k = relation-op (λ t u. if_relation (f t u) b) a h in (k.0, (relation-op (f k.1.0 k.1.1) b k.1.2).0)

product-op : (a b : Role) → IsTypedRole (product_role a b) → Both a b
product-op (gives (set_type t)) (gives (set_type u)) h = (tt, tt)
product-op a b h = domains-op (λ t u. ranges_over (pair_type t u)) a b h

swap-op : (a b : Role) → Both a b → Both b a
swap-op a b h = (h.1, h.0)

pub binary-op : (o : BinOp) (a b : Role) → IsTypedRole (binary_role o a b) → IsTypedRole a × IsTypedRole b
binary-op And a b h = connective-op a b h
binary-op Or a b h = connective-op a b h
binary-op Imp a b h = connective-op a b h
binary-op Iff a b h = connective-op a b h
binary-op Eq a b h = values-op (λ t u. if_holds (same_type t u) predicate) a b h
binary-op Lt a b h = numbers-op predicate a b h
binary-op Le a b h = numbers-op predicate a b h
binary-op In a b h = member-op (λ t u. if_holds (same_type t u) predicate) a b h
binary-op Relations a b h = domains-op (λ t u. ranges_over (set_type (pair_type t u))) a b h
binary-op PartialFunctions a b h = domains-op (λ t u. ranges_over (set_type (pair_type t u))) a b h
binary-op TotalFunctions a b h = domains-op (λ t u. ranges_over (set_type (pair_type t u))) a b h
binary-op PartialInjections a b h = domains-op (λ t u. ranges_over (set_type (pair_type t u))) a b h
binary-op TotalInjections a b h = domains-op (λ t u. ranges_over (set_type (pair_type t u))) a b h
binary-op PartialSurjections a b h = domains-op (λ t u. ranges_over (set_type (pair_type t u))) a b h
binary-op TotalSurjections a b h = domains-op (λ t u. ranges_over (set_type (pair_type t u))) a b h
binary-op Bijections a b h = domains-op (λ t u. ranges_over (set_type (pair_type t u))) a b h
binary-op Union a b h = sets-op (λ t u. if_holds (same_type t u) (gives (set_type t))) a b h
binary-op Inter a b h = sets-op (λ t u. if_holds (same_type t u) (gives (set_type t))) a b h
binary-op Minus a b h = sets-op (λ t u. if_holds (same_type t u) (gives (set_type t))) a b h
binary-op Times a b h = product-op a b h
binary-op DomRes a b h = swap-op b a (part-op (λ t u v. if_holds (same_type v t) (gives (set_type (pair_type t u)))) b a h)
binary-op RanRes a b h = part-op (λ t u v. if_holds (same_type v u) (gives (set_type (pair_type t u)))) a b h
binary-op DomSub a b h = swap-op b a (part-op (λ t u v. if_holds (same_type v t) (gives (set_type (pair_type t u)))) b a h)
binary-op RanSub a b h = part-op (λ t u v. if_holds (same_type v u) (gives (set_type (pair_type t u)))) a b h
binary-op Over a b h = relations-op (λ t u v w. if_holds (same_type t v && same_type u w) (gives (set_type (pair_type t u)))) a b h
binary-op Maps a b h = values-op (λ t u. gives (pair_type t u)) a b h
binary-op Range a b h = numbers-op (gives (set_type int_type)) a b h
binary-op Add a b h = numbers-op (gives int_type) a b h
binary-op Sub a b h = numbers-op (gives int_type) a b h
binary-op Mul a b h = numbers-op (gives int_type) a b h
binary-op Div a b h = numbers-op (gives int_type) a b h
binary-op Mod a b h = numbers-op (gives int_type) a b h
binary-op Power a b h = numbers-op (gives int_type) a b h
binary-op Image a b h = part-op (λ t u v. if_holds (same_type v t) (gives (set_type u))) a b h
binary-op Apply a b h = apply-op (λ t u v. if_holds (same_type v t) (gives u)) a b h
binary-op Comp a b h = relations-op (λ t u v w. if_holds (same_type u v) (gives (set_type (pair_type t w)))) a b h

-- ---- types of listed sets
module _ (table : Table) where
  abbrev pub Lists : ValueType → Type 0
  Lists t = lists_type table t ≡ true

  -- the type that is given or ranged over has only listed sets
  abbrev pub ListsRole : Role → Type 0
  ListsRole (gives t) = lists_type table t ≡ true
  ListsRole (ranges_over t) = lists_type table t ≡ true
  ListsRole _ = Unit {0}

  abbrev pub ListsRoles : List Role → Type 0
  ListsRoles [] = Unit {0}
  ListsRoles (r ∷ rs) = ListsRole r × ListsRoles rs

  pair-l : (t u : ValueType) → Lists t → Lists u → Lists (pair_type t u)
  pair-l t u h k = and-true (lists_type table t) (lists_type table u) h k

  part-l : (t u : ValueType) → Lists (pair_type t u) → Lists t × Lists u
  part-l t u h = let k = and-both (lists_type table t) (lists_type table u) h in (k.0, k.1)

  holds-l : (b : Bool) (r : Role) → (b ≡ true → ListsRole r) → ListsRole (if_holds b r)
  holds-l true r h = h refl
  holds-l false r h = tt

  predicate-l : (r a : Role) → ListsRole r → ListsRole (if_predicate r a)
  predicate-l r predicate h = h
  predicate-l r _ h = tt

  number-l : (r a : Role) → ListsRole r → ListsRole (if_number r a)
  number-l r (gives int_type) h = h
  number-l r _ h = tt

  value-l : (f : ValueType → Role) (a : Role) → ListsRole a → ((t : ValueType) → Lists t → ListsRole (f t)) → ListsRole (if_value f a)
  value-l f (gives t) l h = h t l
  value-l f _ l h = tt

  set-l : (f : ValueType → Role) (a : Role) → ListsRole a → ((t : ValueType) → Lists t → ListsRole (f t)) → ListsRole (if_set f a)
  set-l f (gives (set_type t)) l h = h t l
  set-l f _ l h = tt

  domain-l : (f : ValueType → Role) (a : Role) → ListsRole a → ((t : ValueType) → Lists t → ListsRole (f t)) → ListsRole (if_domain f a)
  domain-l f (gives (set_type t)) l h = h t l
  domain-l f (ranges_over t) l h = h t l
  domain-l f _ l h = tt

  relation-l : (f : ValueType → ValueType → Role) (a : Role) → ListsRole a → ((t u : ValueType) → Lists t → Lists u → ListsRole (f t u)) → ListsRole (if_relation f a)
  relation-l f (gives (set_type (pair_type t u))) l h = let k = part-l t u l in h t u k.0 k.1
  relation-l f _ l h = tt

  unary-l : (o : UnOp) (a : Role) → ListsRole a → ListsRole (unary_role o a)
  unary-l Not a l = predicate-l predicate a tt
  unary-l BoolOf a l = predicate-l (gives bool_type) a refl
  unary-l Neg a l = number-l (gives int_type) a refl
  unary-l Card a l = set-l (λ t. gives int_type) a l (λ t k. refl)
  unary-l Min a l = set-l (λ t. if_holds (same_type t int_type) (gives int_type)) a l (λ t k. holds-l (same_type t int_type) (gives int_type) (λ q. refl))
  unary-l Max a l = set-l (λ t. if_holds (same_type t int_type) (gives int_type)) a l (λ t k. holds-l (same_type t int_type) (gives int_type) (λ q. refl))
  unary-l Dom a l = relation-l (λ t u. gives (set_type t)) a l (λ t u j k. j)
  unary-l Ran a l = relation-l (λ t u. gives (set_type u)) a l (λ t u j k. k)
  unary-l Id a l = set-l (λ t. gives (set_type (pair_type t t))) a l (λ t k. pair-l t t k k)
  unary-l Inverse a l = relation-l (λ t u. gives (set_type (pair_type u t))) a l (λ t u j k. pair-l u t k j)
  unary-l Single a l = value-l (λ t. gives (set_type t)) a l (λ t k. k)
  unary-l Pow a l = domain-l (λ t. ranges_over (set_type t)) a l (λ t k. k)
  unary-l Pow1 a l = domain-l (λ t. ranges_over (set_type t)) a l (λ t k. k)

  connective-l : (a b : Role) → ListsRole (if_predicate (if_predicate predicate b) a)
  connective-l a b = predicate-l (if_predicate predicate b) a (predicate-l predicate b tt)

  numbers-l : (r a b : Role) → ListsRole r → ListsRole (if_number (if_number r b) a)
  numbers-l r a b h = number-l (if_number r b) a (number-l r b h)

  arrow-l : (a b : Role) → ListsRole a → ListsRole b → ListsRole (if_domain (λ t. if_domain (λ u. ranges_over (set_type (pair_type t u))) b) a)
  arrow-l a b l m = domain-l (λ t. if_domain (λ u. ranges_over (set_type (pair_type t u))) b) a l (λ t j. domain-l (λ u. ranges_over (set_type (pair_type t u))) b m (λ u k. pair-l t u j k))

  sets-l : (a b : Role) → ListsRole a → ListsRole b → ListsRole (if_set (λ t. if_set (λ u. if_holds (same_type t u) (gives (set_type t))) b) a)
  sets-l a b l m = set-l (λ t. if_set (λ u. if_holds (same_type t u) (gives (set_type t))) b) a l (λ t j. set-l (λ u. if_holds (same_type t u) (gives (set_type t))) b m (λ u k. holds-l (same_type t u) (gives (set_type t)) (λ q. j)))

  part_of-l : (g : ValueType → ValueType → ValueType → Bool) (r a : Role) → ListsRole r → ListsRole a → ListsRole (if_relation (λ t u. if_set (λ v. if_holds (g t u v) (gives (set_type (pair_type t u)))) a) r)
  part_of-l g r a l m = relation-l (λ t u. if_set (λ v. if_holds (g t u v) (gives (set_type (pair_type t u)))) a) r l (λ t u j k. set-l (λ v. if_holds (g t u v) (gives (set_type (pair_type t u)))) a m (λ v n. holds-l (g t u v) (gives (set_type (pair_type t u))) (λ q. pair-l t u j k)))

  product-l : (a b : Role) → ListsRole a → ListsRole b → ListsRole (product_role a b)
  product-l (gives (set_type t)) (gives (set_type u)) l m = pair-l t u l m
  product-l a b l m = domain-l (λ t. if_domain (λ u. ranges_over (pair_type t u)) b) a l (λ t j. domain-l (λ u. ranges_over (pair_type t u)) b m (λ u k. pair-l t u j k))

  binary-l : (o : BinOp) (a b : Role) → ListsRole a → ListsRole b → ListsRole (binary_role o a b)
  binary-l And a b l m = connective-l a b
  binary-l Or a b l m = connective-l a b
  binary-l Imp a b l m = connective-l a b
  binary-l Iff a b l m = connective-l a b
  binary-l Eq a b l m = value-l (λ t. if_value (λ u. if_holds (same_type t u) predicate) b) a l (λ t j. value-l (λ u. if_holds (same_type t u) predicate) b m (λ u k. holds-l (same_type t u) predicate (λ q. tt)))
  binary-l Lt a b l m = numbers-l predicate a b tt
  binary-l Le a b l m = numbers-l predicate a b tt
  binary-l In a b l m = value-l (λ t. if_domain (λ u. if_holds (same_type t u) predicate) b) a l (λ t j. domain-l (λ u. if_holds (same_type t u) predicate) b m (λ u k. holds-l (same_type t u) predicate (λ q. tt)))
  binary-l Relations a b l m = arrow-l a b l m
  binary-l PartialFunctions a b l m = arrow-l a b l m
  binary-l TotalFunctions a b l m = arrow-l a b l m
  binary-l PartialInjections a b l m = arrow-l a b l m
  binary-l TotalInjections a b l m = arrow-l a b l m
  binary-l PartialSurjections a b l m = arrow-l a b l m
  binary-l TotalSurjections a b l m = arrow-l a b l m
  binary-l Bijections a b l m = arrow-l a b l m
  binary-l Union a b l m = sets-l a b l m
  binary-l Inter a b l m = sets-l a b l m
  binary-l Minus a b l m = sets-l a b l m
  binary-l Times a b l m = product-l a b l m
  binary-l DomRes a b l m = part_of-l (λ t u v. same_type v t) b a m l
  binary-l RanRes a b l m = part_of-l (λ t u v. same_type v u) a b l m
  binary-l DomSub a b l m = part_of-l (λ t u v. same_type v t) b a m l
  binary-l RanSub a b l m = part_of-l (λ t u v. same_type v u) a b l m
  binary-l Over a b l m = relation-l (λ t u. if_relation (λ v w. if_holds (same_type t v && same_type u w) (gives (set_type (pair_type t u)))) b) a l (λ t u j k. relation-l (λ v w. if_holds (same_type t v && same_type u w) (gives (set_type (pair_type t u)))) b m (λ v w x y. holds-l (same_type t v && same_type u w) (gives (set_type (pair_type t u))) (λ q. pair-l t u j k)))
  binary-l Maps a b l m = value-l (λ t. if_value (λ u. gives (pair_type t u)) b) a l (λ t j. value-l (λ u. gives (pair_type t u)) b m (λ u k. pair-l t u j k))
  binary-l Range a b l m = numbers-l (gives (set_type int_type)) a b refl
  binary-l Add a b l m = numbers-l (gives int_type) a b refl
  binary-l Sub a b l m = numbers-l (gives int_type) a b refl
  binary-l Mul a b l m = numbers-l (gives int_type) a b refl
  binary-l Div a b l m = numbers-l (gives int_type) a b refl
  binary-l Mod a b l m = numbers-l (gives int_type) a b refl
  binary-l Power a b l m = numbers-l (gives int_type) a b refl
  binary-l Image a b l m = relation-l (λ t u. if_set (λ v. if_holds (same_type v t) (gives (set_type u))) b) a l (λ t u j k. set-l (λ v. if_holds (same_type v t) (gives (set_type u))) b m (λ v n. holds-l (same_type v t) (gives (set_type u)) (λ q. k)))
  binary-l Apply a b l m = relation-l (λ t u. if_value (λ v. if_holds (same_type v t) (gives u)) b) a l (λ t u j k. value-l (λ v. if_holds (same_type v t) (gives u)) b m (λ v n. holds-l (same_type v t) (gives u) (λ q. k)))
  binary-l Comp a b l m = relation-l (λ t u. if_relation (λ v w. if_holds (same_type u v) (gives (set_type (pair_type t w)))) b) a l (λ t u j k. relation-l (λ v w. if_holds (same_type u v) (gives (set_type (pair_type t w)))) b m (λ v w x y. holds-l (same_type u v) (gives (set_type (pair_type t w))) (λ q. pair-l t w j y)))

  -- the type of a range's elements
  pub element-l : (r : Role) → ListsRole r → Lists (element_type r)
  element-l (gives (set_type t)) l = l
  element-l (ranges_over t) l = l
  element-l _ l = refl

  tuple_onto-l : (t : ValueType) (rs : List Role) → Lists t → ListsRoles rs → Lists (tuple_type_onto t (element_types rs))
  tuple_onto-l t [] m l = m
  tuple_onto-l t (r ∷ rs) m l = tuple_onto-l (pair_type t (element_type r)) rs (pair-l t (element_type r) m (element-l r l.0)) l.1

  tuple-l : (rs : List Role) → ListsRoles rs → Lists (tuple_type (element_types rs))
  tuple-l [] l = refl
  tuple-l (r ∷ rs) l = tuple_onto-l (element_type r) rs (element-l r l.0) l.1

  bound-l : (o : Option ValueType) → ListsRole (bound_role table o)
  bound-l None = tt
  bound-l (Some t) = holds-l (lists_type table t) (gives t) (λ q. q)

  empty-l : (t : ValueType) → ListsRole (empty_role table t)
  empty-l (set_type t) = holds-l (lists_type table t) (gives (set_type t)) (λ q. q)
  empty-l _ = tt

  named-l : (d : Domain) → ListsRole (named_role table d)
  named-l Booleans = refl
  named-l (Enum n) = holds-l (lists_type table (enum_type n)) (gives (set_type (enum_type n))) (λ q. q)
  named-l _ = refl

  module _ (variables_listed : (n : ℕ) (t : ValueType) → variable_type table n ≡ Some t → Lists t) (elements_listed : (s i : ℕ) → nat_lt i (listed_size table s) ≡ true → Lists (enum_type s)) where
    variable-l : (n : ℕ) (o : Option ValueType) → variable_type table n ≡ o → ListsRole (given_by o)
    variable-l n None e = tt
    variable-l n (Some t) e = variables_listed n t e

    mutual
      pub role-l : (around : List ValueType) (f : Formula) → ListsRole (role table around f)
      role-l around (variable n) = variable-l n (variable_type table n) refl
      role-l around (bound n) = bound-l (slice_get around n)
      role-l around (literal z) = refl
      role-l around (truth_value b) = refl
      role-l around (element s i) = holds-l (nat_lt i (listed_size table s)) (gives (enum_type s)) (λ q. elements_listed s i q)
      role-l around (empty_set t) = empty-l t
      role-l around (named d) = named-l d
      role-l around btrue = tt
      role-l around bfalse = tt
      role-l around (unary o a) = unary-l o (role table around a) (role-l around a)
      role-l around (binary o a b) = binary-l o (role table around a) (role table around b) (role-l around a) (role-l around b)
      role-l around (for_all ts p) = holds-l _ _ (λ q. predicate-l predicate (role table (bind ts around) p) tt)
      role-l around (for_some ts p) = holds-l _ _ (λ q. predicate-l predicate (role table (bind ts around) p) tt)
      role-l around (comprehension rs p) =
          let ts = element_types (roles table around rs) in
          holds-l (are_ranges (roles table around rs)) _ (λ q. predicate-l (gives (set_type (tuple_type ts))) (role table (bind ts around) p) (tuple-l (roles table around rs) (roles-l around rs)))
      role-l around (lambda rs p v) =
          let ts = element_types (roles table around rs) in
          let image = role table (bind ts around) v in
          holds-l (are_ranges (roles table around rs)) _ (λ q. predicate-l (if_value (λ u. gives (set_type (pair_type (tuple_type ts) u))) image) (role table (bind ts around) p)
          (value-l (λ u. gives (set_type (pair_type (tuple_type ts) u))) image (role-l (bind ts around) v) (λ u k. pair-l (tuple_type ts) u (tuple-l (roles table around rs) (roles-l around rs)) k)))

      roles-l : (around : List ValueType) (fs : Formulas) → ListsRoles (roles table around fs)
      roles-l around no_formulas = tt
      roles-l around (formula_and f fs) = (role-l around f, roles-l around fs)
