-- What a term turns out to be, from its leaves up: the formula with its type, or why there is none. Types are those of type checking
-- in the B-Book; what `{}` takes, and the bytes of faults, are this project's own.
use Rattle.std.specs.Prelude.{ℕ, Bool, true, false, List, [], ◌∷◌, ◌++◌, Option, None, Some}
use Rattle.bk_val.specs.ValueType.{ValueType, pair_type, set_type}
use Rattle.bk_form.specs.Formula.{Formula, empty_set, unary, binary}
use Rattle.bk_form.specs.Role.{same_type}
use Rattle.bk_form.specs.declared.operator.BinOp.{BinOp}
use Rattle.bk_form.specs.declared.operator.BinOp.TheVariants.{Union as Joining, Inter, Minus as Without, Over, Maps}
use Rattle.bk_form.specs.declared.operator.UnOp.TheVariants.{Single}
use Rattle.bk_raw.specs.Errors.Faults.{Fault, without_type}

-- the operators that make one set of two of its type
pub data Joint : Type 0 where
  union_joint : Joint
  inter_joint : Joint
  minus_joint : Joint
  over_joint : Joint

-- the operator of formulas that it is
abbrev pub joint_op : Joint → BinOp
joint_op union_joint = Joining
joint_op inter_joint = Inter
joint_op minus_joint = Without
joint_op over_joint = Over

-- whether the operator is there for values of the type: sets for three of them, relations for <+
abbrev pub joins : Joint → ValueType → Bool
joins over_joint (set_type (pair_type t u)) = true
joins over_joint _ = false
joins _ (set_type t) = true
joins _ _ = false

-- An expression: whole with the type that it gives, or with `{}` in it, so that it takes types part by part.
pub data Partial : Type 0 where
  whole : Formula → ValueType → Partial
  hollow : Partial
  single_of : Partial → Partial
  pair_of : Partial → Partial → Partial
  joint_of : Joint → Partial → Partial → Partial

-- {E}, where E is there
abbrev pub single_made : Option Formula → Option Formula
single_made (Some f) = Some (unary Single f)
single_made None = None

-- the operator on both formulas, where both are there
abbrev pub both_made : BinOp → Option Formula → Option Formula → Option Formula
both_made o (Some f) (Some g) = Some (binary o f g)
both_made o _ _ = None

-- the formula, where the test holds
abbrev pub where_holds : Bool → Option Formula → Option Formula
where_holds true f = f
where_holds false f = None

-- the formula of the expression where its place asks this type, if it takes it
abbrev pub filled : Partial → ValueType → Option Formula
filled (whole f t) u = where_holds (same_type t u) (Some f)
filled hollow (set_type t) = Some (empty_set (set_type t))
filled hollow _ = None
filled (single_of p) (set_type t) = single_made (filled p t)
filled (single_of p) _ = None
filled (pair_of p q) (pair_type t u) = both_made Maps (filled p t) (filled q u)
filled (pair_of p q) _ = None
filled (joint_of j p q) t = where_holds (joins j t) (both_made (joint_op j) (filled p t) (filled q t))

-- the formula and the type, where it gives one
abbrev pub whole_of : Partial → Option (Formula × ValueType)
whole_of (whole f t) = Some (f, t)
whole_of _ = None

-- what a term turns out to be
pub data Outcome : Type 0 where
  -- an expression
  partial : Partial → Outcome
  -- a domain that is no value, the type that it ranges over, and the byte of what is at fault where a value is asked
  ranging : Formula → ValueType → ℕ → Outcome
  -- a predicate
  holding : Formula → Outcome
  -- there is no formula: a fault lies within, or a name has no type
  silent : Outcome

-- a term's outcome, and the faults in it
pub record Reading : Type 0 where
  pub outcome : Outcome
  pub faults : List Fault

-- nothing is told, and these are the faults
abbrev pub silently : List Fault → Reading
silently fs = record { outcome = silent; faults = fs }

-- this outcome, without a fault
abbrev pub plainly : Outcome → Reading
plainly o = record { outcome = o; faults = [] }

-- an expression that gives this type, without a fault
abbrev pub giving : Formula → ValueType → Reading
giving f t = plainly (partial (whole f t))

-- nothing is told where there is a fault
abbrev pub clean : List Fault → Outcome → Outcome
clean [] o = o
clean (f ∷ fs) o = silent

-- the fault of a formula or name without a type
abbrev pub no_type : ℕ → List Fault
no_type at = without_type at ∷ []

-- ---- what a place asks of a part: the formula, or what is at fault
-- the answer of a part to what its place asks, if it has one, and the faults that this adds to those in the part
pub record Asked (A : Type 0) : Type 0 where
  pub answer : Option A
  pub faults : List Fault

-- what was asked is there
abbrev pub answered : {A : Type 0} → A → Asked A
answered x = record { answer = Some x; faults = [] }

-- it is not there, for these faults; none where the part is silent, since what silenced it is told already
abbrev pub refused : {A : Type 0} → List Fault → Asked A
refused fs = record { answer = None; faults = fs }

-- the formula of an expression at a byte in a place that asks a type, if it takes the type
abbrev pub fitting : ℕ → Option Formula → Asked Formula
fitting at (Some f) = answered f
fitting at None = refused (no_type at)

-- an expression that takes this type
abbrev pub ask : ℕ → Outcome → ValueType → Asked Formula
ask at (partial p) t = fitting at (filled p t)
ask at (ranging f u there) t = refused (no_type there)
ask at _ t = refused []

-- a value of any type
abbrev pub ask_value : ℕ → Outcome → Asked (Formula × ValueType)
ask_value at (partial (whole f t)) = answered (f, t)
ask_value at (partial p) = refused (no_type at)
ask_value at (ranging f u there) = refused (no_type there)
ask_value at _ = refused []

-- a set, with the type of its elements
abbrev pub ask_set : ℕ → Outcome → Asked (Formula × ValueType)
ask_set at (partial (whole f (set_type t))) = answered (f, t)
ask_set at (partial p) = refused (no_type at)
ask_set at (ranging f u there) = refused (no_type there)
ask_set at _ = refused []

-- a relation, with the types of its first and second parts
abbrev pub ask_relation : ℕ → Outcome → Asked (Formula × ValueType × ValueType)
ask_relation at (partial (whole f (set_type (pair_type t u)))) = answered (f, t, u)
ask_relation at (partial p) = refused (no_type at)
ask_relation at (ranging f u there) = refused (no_type there)
ask_relation at _ = refused []

-- a domain, with the type that it ranges over
abbrev pub ask_domain : ℕ → Outcome → Asked (Formula × ValueType)
ask_domain at (partial (whole f (set_type t))) = answered (f, t)
ask_domain at (partial p) = refused (no_type at)
ask_domain at (ranging f t there) = answered (f, t)
ask_domain at _ = refused []

-- a predicate
abbrev pub ask_predicate : Outcome → Asked Formula
ask_predicate (holding p) = answered p
ask_predicate _ = refused []

-- in a place that asks a value, of whatever type, a domain that is no value is at fault
abbrev pub unvalued : Outcome → List Fault
unvalued (ranging f t there) = no_type there
unvalued _ = []

-- what comes of a part's answer; nothing where it has none
abbrev pub of_answer : {A : Type 0} → (A → Outcome) → Option A → Outcome
of_answer k (Some x) = k x
of_answer k None = silent

-- what comes of a part that was asked for something
abbrev pub of_one : {A : Type 0} → (A → Outcome) → Asked A → Reading
of_one k a = record { outcome = of_answer k a.answer; faults = a.faults }

-- what comes of two answers; nothing where one is missing
abbrev pub of_answers : {A B : Type 0} → (A → B → Outcome) → Option A → Option B → Outcome
of_answers k (Some x) (Some y) = k x y
of_answers k _ _ = silent

-- what comes of two parts, each asked for something by itself
abbrev pub of_both : {A B : Type 0} → (A → B → Outcome) → Asked A → Asked B → Reading
of_both k a b = record { outcome = of_answers k a.answer b.answer; faults = a.faults ++ b.faults }
