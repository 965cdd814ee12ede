-- What a formula means in an environment: its value, its truth, and which values are in it as a domain.
-- Source: B-Book, set theory.
use Rattle.std.specs.Prelude.{ℕ, Bool, true, false, not, ◌&&◌, List, [], ◌∷◌, map, Option, Some, None, slice_get}
use Rattle.std.specs.List.{filter}
use Rattle.bk_val.specs.Value.{MathValue, int, bool, elem, pair, set, none}
use Rattle.bk_val.specs.ValueType.{ValueType, bool_type, int_type, are_of_types, base_of}
use Rattle.bk_form.specs.Table.{Table, set_size, variable_type}
use Rattle.bk_form.specs.Search.{Finder, no_choice}
use Rattle.bk_form.specs.Environment.{Environment, Binding, under}
use Rattle.bk_form.specs.Role.{Role, gives, predicate, untyped, unary_role, binary_role, given_by, bound_role, empty_role, element_role}
use Rattle.bk_form.specs.Role.{named_role, quantifier_role, comprehension_role, lambda_role, element_type, element_types}
use Rattle.bk_form.specs.Operators.{is_element, set_value, unary_value, unary_truth, is_in_unary, binary_value}
use Rattle.bk_form.specs.Operators.{binary_truth, is_in_binary, named_value, is_in_named, choices, tuple_of}
use Rattle.bk_form.specs.Formula.{Formula, variable, bound, literal, truth_value, element, empty_set, named, btrue, bfalse}
use Rattle.bk_form.specs.Formula.{unary, binary, for_all, for_some, comprehension, lambda, Formulas, no_formulas, formula_and}
use Rattle.bk_form.specs.declared.operator.UnOp.{UnOp}
use Rattle.bk_form.specs.declared.operator.BinOp.{BinOp}
use Rattle.bk_form.specs.declared.operator.Domain.{Domain}

-- what one formula means: its role, its value, its truth, and the test of the values that are in it
pub record Meaning : Type 0 where
  pub role : Role
  pub value : MathValue
  pub truth : Bool
  pub contains : MathValue → Bool

-- an expression that gives a value: no predicate, and what lies in it are the value's elements
abbrev pub of_value : Role → MathValue → Meaning
of_value r v = record { role = r; value = v; truth = false; contains = λ w. is_element w v }

-- a predicate: it has a truth, the empty set stands in for its value, and nothing lies in it
abbrev pub of_truth : Role → Bool → Meaning
of_truth r b = record { role = r; value = set none; truth = b; contains = λ w. false }

-- the type of a value; a formula that gives none has the base value of BOOL
abbrev pub type_in : Role → ValueType
type_in (gives t) = t
type_in _ = bool_type

-- a bound variable means the value that it is bound to; a loose number gives nothing, and counts as false
abbrev pub bound_meaning : Table → Option Binding → Meaning
bound_meaning table None = of_truth untyped false
bound_meaning table (Some b) = of_value (bound_role table (Some b.0)) b.1

-- INTEGER, NATURAL, NATURAL1, BOOL or an enumerated set: the values in it, and its own value where it is finite
abbrev pub named_meaning : Table → Domain → Meaning
named_meaning table d =
    record { role = named_role table d; value = named_value (set_size table) d; truth = false; contains = is_in_named (set_size table) d }

-- an operator on one formula, by what that formula means
abbrev pub unary_meaning : UnOp → Meaning → Meaning
unary_meaning o a = record {
  role = unary_role o a.role;
  value = unary_value o a.value a.truth;
  truth = unary_truth o a.truth;
  contains = is_in_unary o a.contains (unary_value o a.value a.truth);
}

-- what `a op b` means by what a and b mean; the base value of an application is that of the type which it gives
abbrev pub binary_meaning : Finder → (ℕ → ℕ) → BinOp → Meaning → Meaning → Meaning
binary_meaning find sizes o a b = record {
  role = binary_role o a.role b.role;
  value = binary_value o (base_of (type_in (binary_role o a.role b.role))) a.value b.value;
  truth = binary_truth o a.value b.value a.truth b.truth b.contains;
  contains = is_in_binary find sizes (element_type a.role) (element_type b.role) o a.contains
      b.contains (binary_value o (base_of (type_in (binary_role o a.role b.role))) a.value b.value);
}

-- true where no choice of values of the types makes the body false
abbrev pub all_meaning : Finder → Table → List ValueType → (List MathValue → Meaning) → Meaning
all_meaning find table ts body =
    of_truth (quantifier_role table ts (body []).role) (no_choice find (λ vs. are_of_types (set_size table) ts vs && not (body vs).truth))

-- true where some choice of values of the types makes the body true
abbrev pub some_meaning : Finder → Table → List ValueType → (List MathValue → Meaning) → Meaning
some_meaning find table ts body =
    of_truth (quantifier_role table ts (body []).role) (not (no_choice find (λ vs. are_of_types (set_size table) ts vs && (body vs).truth)))

-- what each of them stands for by its form
abbrev pub roles_of : List Meaning → List Role
roles_of ms = map (λ m. m.role) ms

-- the types of the elements of the ranges
abbrev pub range_types : List Meaning → List ValueType
range_types ms = element_types (roles_of ms)

-- the choices of elements of the ranges for which the body is true
abbrev pub chosen : List Meaning → (List MathValue → Meaning) → List (List MathValue)
chosen ranges body = filter (λ vs. (body vs).truth) (choices (map (λ m. m.value) ranges))

-- {x | P}: the set of the tuples of elements of the ranges for which P is true
abbrev pub comprehension_meaning : List Meaning → (List MathValue → Meaning) → Meaning
comprehension_meaning ranges body =
    of_value (comprehension_role (roles_of ranges) (body []).role) (set_value (map tuple_of (chosen ranges body)))

-- %x.(P | E): each tuple of elements of the ranges for which P is true, paired with the value that E has there
abbrev pub lambda_meaning : List Meaning → (List MathValue → Meaning) → (List MathValue → Meaning) → Meaning
lambda_meaning ranges body image = of_value (lambda_role (roles_of ranges) (body []).role (image []).role)
    (set_value (map (λ vs. pair (tuple_of vs) (image vs).value) (chosen ranges body)))

abbrev mutual
  -- what a formula means in an environment
  pub meaning : Finder → Environment → Formula → Meaning
  meaning find e (variable n) = of_value (given_by (variable_type e.table n)) (e.state n)
  meaning find e (bound n) = bound_meaning e.table (slice_get e.bound n)
  meaning find e (literal z) = of_value (gives int_type) (int z)
  meaning find e (truth_value b) = of_value (gives bool_type) (bool b)
  meaning find e (element s i) = of_value (element_role e.table s i) (elem s i)
  meaning find e (empty_set t) = of_value (empty_role e.table t) (set none)
  meaning find e (named d) = named_meaning e.table d
  meaning find e btrue = of_truth predicate true
  meaning find e bfalse = of_truth predicate false
  meaning find e (unary o a) = unary_meaning o (meaning find e a)
  meaning find e (binary o a b) = binary_meaning find (set_size e.table) o (meaning find e a) (meaning find e b)
  meaning find e (for_all ts p) = all_meaning find e.table ts (λ vs. meaning find (under e ts vs) p)
  meaning find e (for_some ts p) = some_meaning find e.table ts (λ vs. meaning find (under e ts vs) p)
  meaning find e (comprehension rs p) =
      comprehension_meaning (meanings find e rs) (λ vs. meaning find (under e (range_types (meanings find e rs)) vs) p)
  meaning find e (lambda rs p v) = lambda_meaning (meanings find e rs) (λ vs.
      meaning find (under e (range_types (meanings find e rs)) vs) p) (λ vs. meaning find (under e (range_types (meanings find e rs)) vs) v)

  -- what each of them means
  pub meanings : Finder → Environment → Formulas → List Meaning
  meanings find e no_formulas = []
  meanings find e (formula_and f fs) = meaning find e f ∷ meanings find e fs

-- the value of an expression
abbrev pub value : Finder → Environment → Formula → MathValue
value find e f = (meaning find e f).value

-- the truth of a predicate
abbrev pub truth : Finder → Environment → Formula → Bool
truth find e f = (meaning find e f).truth

-- whether the value is in the domain
abbrev pub within : Finder → Environment → MathValue → Formula → Bool
within find e v f = (meaning find e f).contains v
