-- What only printed formulas have: written types, and bound variables by their numbers from the outside. All of it is this project's own.
use Rattle.std.specs.Prelude.{ℕ, suc, cond, nat_eq, List, [], ◌∷◌, ◌++◌, Option, None, Some}
use Rattle.bk_val.specs.ValueType.{ValueType, int_type, bool_type, enum_type, pair_type, set_type}
use Rattle.bk_form.specs.Formula.{Formula, empty_set, named}
use Rattle.bk_form.specs.declared.operator.Domain.TheVariants.{Enum}
use Rattle.bk_raw.specs.Trees.WrittenType.{WrittenType, written_integer, written_bool, written_set, written_power, written_product}
use Rattle.bk_raw.specs.declared.term.RawBound.{RawBound}
use Rattle.bk_raw.specs.Meaning.Names.{Names, Sight, seen, found}
use Rattle.bk_raw.specs.Meaning.Outcome.{Reading, silently, giving, no_type, ask_set}
use Rattle.bk_raw.specs.Meaning.Binders.{Bound, Ranged}
use Rattle.bk_raw.specs.Errors.Faults.{Fault, unknown_name}

-- ---- types
-- the type of the elements of the set that a name stands for, if it stands for one
abbrev pub set_type_of : Sight → Option ValueType
set_type_of (seen (named (Enum s)) t) = Some (enum_type s)
set_type_of _ = None

-- POW(T)
abbrev pub power_of : Option ValueType → Option ValueType
power_of (Some t) = Some (set_type t)
power_of None = None

-- (T * U)
abbrev pub product_of : Option ValueType → Option ValueType → Option ValueType
product_of (Some t) (Some u) = Some (pair_type t u)
product_of _ _ = None

-- the type that is written, where each name in it is that of a set
abbrev pub type_read : Names → WrittenType → Option ValueType
type_read names written_integer = Some int_type
type_read names written_bool = Some bool_type
type_read names (written_set x) = set_type_of (found 0 names x)
type_read names (written_power t) = power_of (type_read names t)
type_read names (written_product t u) = product_of (type_read names t) (type_read names u)

-- {:T} at a byte, where T is a type of sets
abbrev pub typed_empty : ℕ → Option ValueType → Reading
typed_empty at (Some (set_type t)) = giving (empty_set (set_type t)) (set_type t)
typed_empty at _ = silently (no_type at)

-- ---- bound variables
-- a bound variable's number is the next from the outside, k; any other is a name that is not in scope
abbrev pub wrong_number : ℕ → ℕ → ℕ → List Fault
wrong_number at n k = cond (nat_eq n k) [] (unknown_name at ∷ [])

-- the same of bound variables with their types, the first of which is the k-th
abbrev pub wrong_bounds : ℕ → List RawBound → List Fault
wrong_bounds k [] = []
wrong_bounds k (b ∷ bs) = wrong_number b.at b.number k ++ wrong_bounds (suc k) bs

-- bound variables with their types; they have no names by which they are found
abbrev pub printed_bounds : Names → List RawBound → List Bound
printed_bounds names [] = []
printed_bounds names (b ∷ bs) = record { text = []; at = b.at; of_type = type_read names b.ty } ∷ printed_bounds names bs

-- a bound variable with its range: where it stands, its number, where the range stands, and what that reads as
pub record RangeRead : Type 0 where
  pub at : ℕ
  pub number : ℕ
  pub place : ℕ
  pub reading : Reading

-- a range, where there is one; which conjunct it comes from does not matter
abbrev pub with_place : ℕ → Option (Formula × ValueType) → Option (Formula × ValueType × ℕ)
with_place i None = None
with_place i (Some d) = Some (d.0, d.1, i)

-- bound variables with their ranges
abbrev pub printed_ranges : List RangeRead → List Ranged
printed_ranges [] = []
printed_ranges (r ∷ rs) =
    record { text = []; at = r.at; range = with_place r.at (ask_set r.place r.reading.outcome).answer } ∷ printed_ranges rs

-- the faults of bound variables with their ranges, the first of which is the k-th: numbers, the ranges' own faults, and ranges
-- that are no sets
abbrev pub wrong_ranges : ℕ → List RangeRead → List Fault
wrong_ranges k [] = []
wrong_ranges k (r ∷ rs) =
    wrong_number r.at r.number k ++ (r.reading.faults ++ ((ask_set r.place r.reading.outcome).faults ++ wrong_ranges (suc k) rs))
