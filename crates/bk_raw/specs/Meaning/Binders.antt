-- The names that a quantifier, a comprehension or a lambda binds: how they get types. That typing predicates stand among the conjuncts,
-- for `!` left of `=>`, is the B Language Reference Manual's; which of them count is this project's own.
-- Source: B-Book.
use Rattle.std.specs.Prelude.{ℕ, Bool, true, false, cond, ◌&&◌, ◌||◌, nat_eq, List, [], ◌∷◌, ◌++◌, Option, None, Some}
use Rattle.std.specs.Str.{bytes_eq}
use Rattle.bk_val.specs.ValueType.{ValueType, bool_type, pair_type, set_type}
use Rattle.bk_form.specs.Formula.{Formula, Formulas, no_formulas, formula_and, btrue, unary, comprehension, lambda}
use Rattle.bk_form.specs.Role.{bind, tuple_type}
use Rattle.bk_form.specs.declared.operator.UnOp.TheVariants.{Single}
use Rattle.bk_form.specs.declared.operator.BinOp.TheVariants.{And as Conjunction}
use Rattle.bk_raw.specs.declared.operator.InfixOp.{InfixOp}
use Rattle.bk_raw.specs.declared.operator.InfixOp.TheVariants.{And, Equal, Member, Subset, StrictSubset}
use Rattle.bk_raw.specs.declared.term.RawName.{RawName}
use Rattle.bk_raw.specs.Meaning.Names.{Names, Named, local}
use Rattle.bk_raw.specs.Meaning.Outcome.{whole, Outcome, partial, holding, silent, Reading, plainly}
use Rattle.bk_raw.specs.Meaning.Outcome.{clean, no_type, ask_value, ask_set, ask_domain}
use Rattle.bk_raw.specs.Meaning.OperatorReadings.{connected}
use Rattle.bk_raw.specs.Errors.Faults.{Fault, twice_named}

-- ---- names with types
-- a bound name, where it is declared, and its type once it has one
pub record Bound : Type 0 where
  pub text : List ℕ
  pub at : ℕ
  pub of_type : Option ValueType

-- names that have no type yet
abbrev pub bound_names : List RawName → List Bound
bound_names [] = []
bound_names (x ∷ xs) = record { text = x.text; at = x.at; of_type = None } ∷ bound_names xs

-- what they stand for inside the binder
abbrev pub locals : List Bound → List Named
locals [] = []
locals (b ∷ bs) = record { text = b.text; meaning = local b.of_type } ∷ locals bs

-- the names in scope inside the binder
abbrev pub inside : List Bound → Names → Names
inside bs names = bind (locals bs) names

-- a type in the place of one that is missing, which is never used
abbrev pub or_bool : Option ValueType → ValueType
or_bool None = bool_type
or_bool (Some t) = t

-- their types, where each has one
abbrev pub types_of : List Bound → List ValueType
types_of [] = []
types_of (b ∷ bs) = or_bool b.of_type ∷ types_of bs

-- whether there is a type
abbrev pub has_type : Option ValueType → Bool
has_type None = false
has_type (Some t) = true

-- whether each of the names has a type
abbrev pub all_typed : List Bound → Bool
all_typed [] = true
all_typed (b ∷ bs) = has_type b.of_type && all_typed bs

-- the first type stays
abbrev pub first_type : Option ValueType → ValueType → Option ValueType
first_type None t = Some t
first_type (Some u) t = Some u

-- the first of the names with this text has the type, unless it has one already
abbrev pub typed_as : List ℕ → ValueType → List Bound → List Bound
typed_as text t [] = []
typed_as text t (b ∷ bs) =
    cond (bytes_eq b.text text) (record { text = b.text; at = b.at; of_type = first_type b.of_type t } ∷ bs) (b ∷ typed_as text t bs)

-- the same, where there is a type
abbrev pub typed_by : List ℕ → Option ValueType → List Bound → List Bound
typed_by text None bs = bs
typed_by text (Some t) bs = typed_as text t bs

-- the type that was answered
abbrev pub second : Option (Formula × ValueType) → Option ValueType
second None = None
second (Some p) = Some p.1

-- the type of the sets over a type
abbrev pub set_over : Option ValueType → Option ValueType
set_over None = None
set_over (Some t) = Some (set_type t)

-- what the conjunct `x o D` tells of the bound names: of `x : D`, `x <: D`, `x <<: D` (whose first part is `x <: D`) and `x = E`;
-- `P & Q` tells what both do
abbrev pub told_by : InfixOp → List Bound → Option (List ℕ) → List Bound → Outcome → List Bound
told_by And bs x both d = both
told_by Member bs (Some x) both d = typed_by x (second (ask_domain 0 d).answer) bs
told_by Subset bs (Some x) both d = typed_by x (set_over (second (ask_domain 0 d).answer)) bs
told_by StrictSubset bs (Some x) both d = typed_by x (set_over (second (ask_domain 0 d).answer)) bs
told_by Equal bs (Some x) both d = typed_by x (second (ask_value 0 d).answer) bs
told_by _ bs x both d = bs

-- ---- faults of a list of names
-- whether the text is one of these
abbrev pub is_text : List (List ℕ) → List ℕ → Bool
is_text [] text = false
is_text (x ∷ xs) text = bytes_eq x text || is_text xs text

-- each name that stood before
abbrev pub twice : List (List ℕ) → List RawName → List Fault
twice before [] = []
twice before (x ∷ xs) = cond (is_text before x.text) (twice_named x.at ∷ []) [] ++ twice (x.text ∷ before) xs

-- a name without a type is at fault where it is declared
abbrev pub untyped_faults : List Bound → List Fault
untyped_faults [] = []
untyped_faults (b ∷ bs) = cond (has_type b.of_type) [] (no_type b.at) ++ untyped_faults bs

-- ---- quantifiers
-- what comes of a predicate
abbrev pub if_holding : (Formula → Outcome) → Outcome → Outcome
if_holding k (holding p) = k p
if_holding k _ = silent

-- the outcome, where the test holds
abbrev pub where_typed : Bool → Outcome → Outcome
where_typed true o = o
where_typed false o = silent

-- !x.(P) or #x.(P), of faults of the binder, its names and the body
abbrev pub quantified : (List ValueType → Formula → Formula) → List Fault → List Bound → Reading → Reading
quantified k fs bs body = record {
  outcome = clean fs (where_typed (all_typed bs) (if_holding (λ p. holding (k (types_of bs) p)) body.outcome));
  faults = fs ++ (untyped_faults bs ++ body.faults);
}

-- ---- comprehensions and lambdas
-- a bound name with its range, the type of the range's elements, and the number of the conjunct that gives it
pub record Ranged : Type 0 where
  pub text : List ℕ
  pub at : ℕ
  pub range : Option (Formula × ValueType × ℕ)

-- names that have no range yet
abbrev pub unranged : List RawName → List Ranged
unranged [] = []
unranged (x ∷ xs) = record { text = x.text; at = x.at; range = None } ∷ unranged xs

-- the first range stays
abbrev pub first_range : Option (Formula × ValueType × ℕ) → Formula × ValueType × ℕ → Option (Formula × ValueType × ℕ)
first_range None r = Some r
first_range (Some s) r = Some s

-- the first of the names with this text has the range, unless it has one already
abbrev pub ranged_as : List ℕ → Formula × ValueType × ℕ → List Ranged → List Ranged
ranged_as text r [] = []
ranged_as text r (b ∷ bs) =
    cond (bytes_eq b.text text) (record { text = b.text; at = b.at; range = first_range b.range r } ∷ bs) (b ∷ ranged_as text r bs)

-- the same of what was answered, from the i-th conjunct
abbrev pub ranged_by : List ℕ → Option (Formula × ValueType) → ℕ → List Ranged → List Ranged
ranged_by text None i bs = bs
ranged_by text (Some d) i bs = ranged_as text (d.0, d.1, i) bs

-- {E}
abbrev pub as_single : Option (Formula × ValueType) → Option (Formula × ValueType)
as_single None = None
as_single (Some d) = Some (unary Single d.0, d.1)

-- what the conjunct `x o D`, the i-th of all, gives as ranges where D names no bound name; `P & Q` gives what both do
abbrev pub ranges_by : InfixOp → ℕ → List Ranged → Option (List ℕ) → List Ranged → Bool → Outcome → List Ranged
ranges_by And i bs x both true d = both
ranges_by And i bs x both false d = both
ranges_by Member i bs (Some x) both false d = ranged_by x (ask_set 0 d).answer i bs
ranges_by Equal i bs (Some x) both false d = ranged_by x (as_single (ask_value 0 d).answer) i bs
ranges_by _ i bs x both _ d = bs

-- the type of the range's elements
abbrev pub range_type : Option (Formula × ValueType × ℕ) → Option ValueType
range_type None = None
range_type (Some r) = Some r.1

-- the names with the types of their ranges
abbrev pub as_bound : List Ranged → List Bound
as_bound [] = []
as_bound (b ∷ bs) = record { text = b.text; at = b.at; of_type = range_type b.range } ∷ as_bound bs

-- a formula in the place of a range that is missing, which is never used
abbrev pub range_or : Option (Formula × ValueType × ℕ) → Formula
range_or None = btrue
range_or (Some r) = r.0

-- the ranges, where all names have one
abbrev pub ranges_of : List Ranged → Formulas
ranges_of [] = no_formulas
ranges_of (b ∷ bs) = formula_and (range_or b.range) (ranges_of bs)

-- whether the range comes from the i-th conjunct
abbrev pub is_used_by : ℕ → Option (Formula × ValueType × ℕ) → Bool
is_used_by i None = false
is_used_by i (Some r) = nat_eq r.2 i

-- whether the i-th conjunct gave a range
abbrev pub is_used : ℕ → List Ranged → Bool
is_used i [] = false
is_used i (b ∷ bs) = is_used_by i b.range || is_used i bs

-- the conjuncts that are left so far, joined to the left
abbrev pub conjoined : Reading → Reading → Reading
conjoined r s = record { outcome = (connected Conjunction r.outcome s.outcome).outcome; faults = r.faults ++ s.faults }

-- one conjunct more
abbrev pub with_conjunct : Option Reading → Reading → Option Reading
with_conjunct None s = Some s
with_conjunct (Some r) s = Some (conjoined r s)

-- one conjunct more, unless it gave a range
abbrev pub left_over : Bool → Option Reading → Reading → Option Reading
left_over true before r = before
left_over false before r = with_conjunct before r

-- whether it is &
abbrev pub is_and : InfixOp → Bool
is_and And = true
is_and _ = false

-- the conjuncts that are left, or btrue
abbrev pub body_of : Option Reading → Reading
body_of None = plainly (holding btrue)
body_of (Some r) = r

-- whether there is a name
abbrev pub is_some_name : List Ranged → Bool
is_some_name [] = false
is_some_name (b ∷ bs) = true

-- a binder without names, which no text has, has no type
abbrev pub nameless : ℕ → List Ranged → List Fault
nameless at bs = cond (is_some_name bs) [] (no_type at)

-- {x | P} at a byte, of faults of the binder, its names with their ranges, and what is left of P
abbrev pub comprehended : ℕ → List Fault → List Ranged → Reading → Reading
comprehended at fs bs body = record {
  outcome = clean fs (where_typed (is_some_name bs && all_typed (as_bound bs))
      (if_holding (λ p. partial (whole (comprehension (ranges_of bs) p) (set_type (tuple_type (types_of (as_bound bs)))))) body.outcome));
  faults = fs ++ (nameless at bs ++ (untyped_faults (as_bound bs) ++ body.faults));
}

-- what comes of a formula that gives a type
abbrev pub if_giving : (Formula → ValueType → Outcome) → Option (Formula × ValueType) → Outcome
if_giving k None = silent
if_giving k (Some v) = k v.0 v.1

-- %x.(P | E) at a byte, of faults of the binder, its names with their ranges, what is left of P, and E, which stands at a byte
-- of its own
abbrev pub abstracted : ℕ → List Fault → List Ranged → Reading → ℕ → Reading → Reading
abstracted at fs bs body there image = record {
  outcome = clean fs (where_typed (is_some_name bs && all_typed (as_bound bs))
      (if_holding
      (λ p. if_giving (λ f u. partial (whole (lambda (ranges_of bs) p f) (set_type (pair_type (tuple_type (types_of (as_bound bs))) u))))
      (ask_value there image.outcome).answer) body.outcome));
  faults =
      fs ++ (nameless at bs ++ (untyped_faults (as_bound bs) ++ (body.faults ++ (image.faults ++ (ask_value there image.outcome).faults))));
}
