-- The operators on values, and the tests of domains, as in set theory. Outside its domain an operator gives the base value.
-- Source: B-Book; B Language Reference Manual.
use Rattle.std.specs.Prelude.{ℕ, zero, suc, nat_eq, nat_lt, ℤ, pos, negsuc, ◌+ℤ◌, ◌-ℤ◌, ◌*ℤ◌, int_lt, int_le}
use Rattle.std.specs.Prelude.{Bool, true, false, not, ◌&&◌, ◌||◌, cond, List, [], ◌∷◌, length, map, unwrap_or}
use Rattle.std.specs.List.{filter, list_all, flat_map}
use Rattle.std.specs.Ordering.{eq_by_cmp}
use Rattle.bk_val.specs.Value.{MathValue, int, bool, elem, pair, set, none, list_of, values_of, value_cmp}
use Rattle.bk_val.specs.ValueType.{ValueType, are_of_types}
use Rattle.bk_val.specs.Sets.{has, union_of, inter_of, minus_of, set_of, second_of, overridden_of, image_of, apply_of}
use Rattle.bk_val.specs.Number.{quotient_of, remainder_of, power_of}
use Rattle.bk_form.specs.Search.{Finder, no_choice}
use Rattle.bk_form.specs.declared.operator.UnOp.{UnOp}
use Rattle.bk_form.specs.declared.operator.UnOp.TheVariants.{Not, BoolOf, Neg, Card, Min, Max, Dom, Ran, Id, Inverse, Single, Pow, Pow1}
use Rattle.bk_form.specs.declared.operator.BinOp.{BinOp}
use Rattle.bk_form.specs.declared.operator.BinOp.TheVariants.{And, Or, Imp, Iff, Eq, Lt, Le, In, Relations, PartialFunctions}
use Rattle.bk_form.specs.declared.operator.BinOp.TheVariants.{TotalFunctions, PartialInjections, TotalInjections, PartialSurjections}
use Rattle.bk_form.specs.declared.operator.BinOp.TheVariants.{TotalSurjections, Bijections, Union, Inter, Minus, Times, DomRes, RanRes}
use Rattle.bk_form.specs.declared.operator.BinOp.TheVariants.{DomSub, RanSub, Over, Maps, Range, Add, Sub, Mul, Div, Mod, Power, Image}
use Rattle.bk_form.specs.declared.operator.BinOp.TheVariants.{Apply, Comp}
use Rattle.bk_form.specs.declared.operator.Domain.{Domain}
use Rattle.bk_form.specs.declared.operator.Domain.TheVariants.{Integer, Natural, Natural1, Bool as Booleans, Enum}

-- ---- parts of values
-- whether two values are the same
abbrev pub is_equal : MathValue → MathValue → Bool
is_equal v w = eq_by_cmp value_cmp v w

-- the elements of a set
abbrev pub elements : MathValue → List MathValue
elements (set vs) = list_of vs
elements _ = []

-- the set of these values
abbrev pub set_value : List MathValue → MathValue
set_value vs = set (values_of (set_of vs))

-- whether the first value is an element of the second; what is no set has no elements
abbrev pub is_element : MathValue → MathValue → Bool
is_element v w = has (elements w) v

-- the first part of a pair, and else the value itself
abbrev pub first_part : MathValue → MathValue
first_part (pair v w) = v
first_part v = v

-- the pair with its parts exchanged, as it stands in the inverse relation
abbrev pub swapped : MathValue → MathValue
swapped (pair v w) = pair w v
swapped v = v

-- the number that a value is, and 0 where it is none
abbrev pub number_in : MathValue → ℤ
number_in (int z) = z
number_in _ = pos 0

-- ---- sets of numbers
-- the numbers from z on, as many as n
abbrev pub numbers_from : ℤ → ℕ → List MathValue
numbers_from z zero = []
numbers_from z (suc n) = int z ∷ numbers_from (z +ℤ pos 1) n

-- a number that is not negative, as a count; 0 for a negative one
abbrev pub count_of : ℤ → ℕ
count_of (pos n) = n
count_of (negsuc n) = 0

-- the numbers from a to b, none where b is below a
abbrev pub interval : ℤ → ℤ → MathValue
interval a b = set_value (numbers_from a (count_of ((b +ℤ pos 1) -ℤ a)))

-- of two numbers the one that min keeps
abbrev pub smaller : ℤ → ℤ → ℤ
smaller a b = cond (int_lt b a) b a

-- of two numbers the one that max keeps
abbrev pub larger : ℤ → ℤ → ℤ
larger a b = cond (int_lt a b) b a

-- f carried through the numbers of a list from left to right, from z on
abbrev pub fold_numbers : (ℤ → ℤ → ℤ) → ℤ → List MathValue → ℤ
fold_numbers f z [] = z
fold_numbers f z (v ∷ vs) = fold_numbers f (f z (number_in v)) vs

-- the smallest or largest of a set of numbers, and 0 of the empty set
abbrev pub extreme : (ℤ → ℤ → ℤ) → List MathValue → ℤ
extreme f [] = pos 0
extreme f (v ∷ vs) = fold_numbers f (number_in v) vs

-- ---- relations
-- the product of two sets: each element of the first with each of the second
abbrev pub pairs_of : List MathValue → List MathValue → List MathValue
pairs_of xs ys = flat_map (λ x. map (pair x) ys) xs

-- whether the second value is a pair that begins with the first
abbrev pub begins_with : MathValue → MathValue → Bool
begins_with v p = is_equal v (first_part p)

-- the pairs of r and s that meet in the middle, joined
abbrev pub composed : List MathValue → List MathValue → List MathValue
composed r s = flat_map (λ p. map (λ q. pair (first_part p) (second_of q)) (filter (begins_with (second_of p)) s)) r

-- pairs that begin alike are the same
abbrev pub is_function : List MathValue → Bool
is_function r = list_all (λ p. list_all (λ q. not (is_equal (first_part p) (first_part q)) || is_equal p q) r) r

-- pairs that end alike are the same
abbrev pub is_injective : List MathValue → Bool
is_injective r = list_all (λ p. list_all (λ q. not (is_equal (second_of p) (second_of q)) || is_equal p q) r) r

-- ---- values of the operators
-- an operator on a term of value v, or bool(P) for a predicate P of that truth; not P, POW and POW1 are no values and get {}
abbrev pub unary_value : UnOp → MathValue → Bool → MathValue
unary_value BoolOf v truth = bool truth
unary_value Neg v truth = int (pos 0 -ℤ number_in v)
unary_value Card v truth = int (pos (length (elements v)))
unary_value Min v truth = int (extreme smaller (elements v))
unary_value Max v truth = int (extreme larger (elements v))
unary_value Dom v truth = set_value (map first_part (elements v))
unary_value Ran v truth = set_value (map second_of (elements v))
unary_value Id v truth = set_value (map (λ x. pair x x) (elements v))
unary_value Inverse v truth = set_value (map swapped (elements v))
unary_value Single v truth = set_value (v ∷ [])
unary_value _ v truth = set none

-- the value of `v op w`; base is that of an application unless exactly one pair of the function begins with the argument
abbrev pub binary_value : BinOp → MathValue → MathValue → MathValue → MathValue
binary_value Union base v w = set_value (union_of (elements v) (elements w))
binary_value Inter base v w = set_value (inter_of (elements v) (elements w))
binary_value Minus base v w = set_value (minus_of (elements v) (elements w))
binary_value Times base v w = set_value (pairs_of (elements v) (elements w))
binary_value DomRes base v w = set_value (filter (λ p. is_element (first_part p) v) (elements w))
binary_value RanRes base v w = set_value (filter (λ p. is_element (second_of p) w) (elements v))
binary_value DomSub base v w = set_value (filter (λ p. not (is_element (first_part p) v)) (elements w))
binary_value RanSub base v w = set_value (filter (λ p. not (is_element (second_of p) w)) (elements v))
binary_value Over base v w = set_value (overridden_of (elements v) (elements w))
binary_value Maps base v w = pair v w
binary_value Range base v w = interval (number_in v) (number_in w)
binary_value Add base v w = int (number_in v +ℤ number_in w)
binary_value Sub base v w = int (number_in v -ℤ number_in w)
binary_value Mul base v w = int (number_in v *ℤ number_in w)
binary_value Div base v w = int (quotient_of (number_in v) (number_in w))
binary_value Mod base v w = int (remainder_of (number_in v) (number_in w))
binary_value Power base v w = int (power_of (number_in v) (number_in w))
binary_value Image base v w = set_value (image_of (elements v) (elements w))
binary_value Apply base v w = unwrap_or (apply_of (elements v) w) base
binary_value Comp base v w = set_value (composed (elements v) (elements w))
binary_value _ base v w = set none

-- ---- truth of the operators
-- P => Q: P is false or Q is true
abbrev pub implies : Bool → Bool → Bool
implies p q = not p || q

-- the truth of not P; no other operator on one formula makes a predicate
abbrev pub unary_truth : UnOp → Bool → Bool
unary_truth Not p = not p
unary_truth _ p = false

-- a predicate on two terms of values v and w, or on two predicates of truths p and q; holds_in is the second term's test as a domain
abbrev pub binary_truth : BinOp → MathValue → MathValue → Bool → Bool → (MathValue → Bool) → Bool
binary_truth And v w p q holds_in = p && q
binary_truth Or v w p q holds_in = p || q
binary_truth Imp v w p q holds_in = implies p q
binary_truth Iff v w p q holds_in = implies p q && implies q p
binary_truth Eq v w p q holds_in = is_equal v w
binary_truth Lt v w p q holds_in = int_lt (number_in v) (number_in w)
binary_truth Le v w p q holds_in = int_le (number_in v) (number_in w)
binary_truth In v w p q holds_in = holds_in v
binary_truth _ v w p q holds_in = false

-- ---- domains, as tests of values
-- the elements of an enumerated set of n elements, from the i-th on
abbrev pub elements_from : ℕ → ℕ → ℕ → List MathValue
elements_from s i zero = []
elements_from s i (suc n) = elem s i ∷ elements_from s (suc i) n

-- BOOL and the enumerated sets are values
abbrev pub named_value : (ℕ → ℕ) → Domain → MathValue
named_value sizes Booleans = set_value (bool false ∷ bool true ∷ [])
named_value sizes (Enum n) = set_value (elements_from n 0 (sizes n))
named_value sizes _ = set none

-- whether the value is in INTEGER, NATURAL, NATURAL1, BOOL or the enumerated set, of so many elements
abbrev pub is_in_named : (ℕ → ℕ) → Domain → MathValue → Bool
is_in_named sizes Integer (int z) = true
is_in_named sizes Natural (int z) = int_le (pos 0) z
is_in_named sizes Natural1 (int z) = int_le (pos 1) z
is_in_named sizes Booleans (bool b) = true
is_in_named sizes (Enum n) (elem s i) = nat_eq s n && nat_lt i (sizes n)
is_in_named sizes _ _ = false

-- a set each of whose elements is in the domain
abbrev pub is_subset : (MathValue → Bool) → MathValue → Bool
is_subset in_a (set vs) = list_all in_a (list_of vs)
is_subset in_a _ = false

-- whether it is the set without elements; what is no set is not empty
abbrev pub is_empty : MathValue → Bool
is_empty (set none) = true
is_empty _ = false

-- a pair whose parts are in the two domains
abbrev pub is_pair_of : (MathValue → Bool) → (MathValue → Bool) → MathValue → Bool
is_pair_of in_a in_b (pair v w) = in_a v && in_b w
is_pair_of in_a in_b _ = false

-- the one value of a list of one passes the test
abbrev pub passes : (MathValue → Bool) → List MathValue → Bool
passes test (v ∷ []) = test v
passes test _ = false

-- every value of the type that is in the domain is among these; never so for an infinite domain
abbrev pub covers : Finder → (ℕ → ℕ) → ValueType → (MathValue → Bool) → List MathValue → Bool
covers find sizes t in_a xs = no_choice find (λ vs. are_of_types sizes (t ∷ []) vs && passes (λ v. in_a v && not (has xs v)) vs)

-- a set of pairs between the two domains
abbrev pub is_relation : (MathValue → Bool) → (MathValue → Bool) → MathValue → Bool
is_relation in_a in_b f = is_subset (is_pair_of in_a in_b) f

-- a relation in which each first part stands once
abbrev pub is_partial_function : (MathValue → Bool) → (MathValue → Bool) → MathValue → Bool
is_partial_function in_a in_b f = is_relation in_a in_b f && is_function (elements f)

-- POW and POW1 of a domain; of any other operator the elements of its value
abbrev pub is_in_unary : UnOp → (MathValue → Bool) → MathValue → MathValue → Bool
is_in_unary Pow in_a value v = is_subset in_a v
is_in_unary Pow1 in_a value v = is_subset in_a v && not (is_empty v)
is_in_unary _ in_a value v = is_element v value

-- products of domains and the arrows between domains that range over t and u; of any other operator the elements of its value
abbrev pub is_in_binary : Finder → (ℕ → ℕ) → ValueType → ValueType → BinOp →
    (MathValue → Bool) → (MathValue → Bool) → MathValue → MathValue → Bool
is_in_binary find sizes t u Times in_a in_b value v = is_pair_of in_a in_b v
is_in_binary find sizes t u Relations in_a in_b value v = is_relation in_a in_b v
is_in_binary find sizes t u PartialFunctions in_a in_b value v = is_partial_function in_a in_b v
is_in_binary find sizes t u TotalFunctions in_a in_b value v =
    is_partial_function in_a in_b v && covers find sizes t in_a (map first_part (elements v))
is_in_binary find sizes t u PartialInjections in_a in_b value v = is_partial_function in_a in_b v && is_injective (elements v)
is_in_binary find sizes t u TotalInjections in_a in_b value v =
    is_partial_function in_a in_b v && is_injective (elements v) && covers find sizes t in_a (map first_part (elements v))
is_in_binary find sizes t u PartialSurjections in_a in_b value v =
    is_partial_function in_a in_b v && covers find sizes u in_b (map second_of (elements v))
is_in_binary find sizes t u TotalSurjections in_a in_b value v = is_partial_function in_a in_b v
    && covers find sizes t in_a (map first_part (elements v)) && covers find sizes u in_b (map second_of (elements v))
is_in_binary find sizes t u Bijections in_a in_b value v = is_partial_function in_a in_b v && is_injective (elements v)
    && covers find sizes t in_a (map first_part (elements v)) && covers find sizes u in_b (map second_of (elements v))
is_in_binary find sizes t u _ in_a in_b value v = is_element v value

-- ---- binders
-- the value with these joined on its right one by one, as x |-> y |-> z is (x |-> y) |-> z
abbrev pub tuple_onto : MathValue → List MathValue → MathValue
tuple_onto v [] = v
tuple_onto v (w ∷ ws) = tuple_onto (pair v w) ws

-- several values as one: pairs to the left
abbrev pub tuple_of : List MathValue → MathValue
tuple_of [] = bool false
tuple_of (v ∷ vs) = tuple_onto v vs

-- the lists that take one element of each set
abbrev pub choices : List MathValue → List (List MathValue)
choices [] = [] ∷ []
choices (w ∷ ws) = flat_map (λ v. map (λ vs. v ∷ vs) (choices ws)) (elements w)
