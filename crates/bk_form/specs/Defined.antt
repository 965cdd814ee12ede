-- Formulas in which each operator that is met is inside its domain, read from left
-- to right; and executed expressions whose numbers stay within MININT .. MAXINT.
-- Source: after the well-definedness of the B Language Reference Manual.
use Rattle.std.specs.Prelude.{◌≡◌, ◌⊎◌, ℤ, pos, ◌-ℤ◌, Bool, true, false, not, ◌&&◌, int_lt, int_le, List, [], ◌∷◌, map, Option, Some, None}
use Rattle.bk_val.specs.Value.{MathValue, int}
use Rattle.bk_val.specs.ValueType.{are_of_types}
use Rattle.bk_val.specs.Sets.{has}
use Rattle.bk_form.specs.Table.{set_size}
use Rattle.bk_form.specs.ArrayTable.{ArrayTable, row_of}
use Rattle.bk_form.specs.Formula.{Formula, variable, unary, binary, for_all, for_some}
use Rattle.bk_form.specs.Formula.{comprehension, lambda, Formulas, no_formulas, formula_and}
use Rattle.bk_form.specs.Search.{Finder}
use Rattle.bk_form.specs.Environment.{Environment, under}
use Rattle.bk_form.specs.Operators.{elements, is_function, first_part, number_in, is_equal, choices}
use Rattle.bk_form.specs.Meaning.{meanings, value, truth, range_types}
use Rattle.bk_form.specs.declared.operator.UnOp.{UnOp}
use Rattle.bk_form.specs.declared.operator.UnOp.TheVariants.{Min, Max}
use Rattle.bk_form.specs.declared.operator.BinOp.{BinOp}
use Rattle.bk_form.specs.declared.operator.BinOp.TheVariants.{And, Or, Imp, Add, Sub, Mul, Div, Mod, Power, Apply}
use Rattle.bk_form.specs.declared.arrays.ArrayRow.{ArrayRow}
use Rattle.bk_form.specs.declared.arrays.ArrayDomain.{ArrayDomain}
use Rattle.bk_form.specs.declared.arrays.ArrayDomain.TheVariants.{Interval}

-- a set has an element
abbrev pub has_element : List MathValue → Bool
has_element [] = false
has_element (v ∷ vs) = true

-- whether the operand is in the operator's domain: min and max ask for a set with an element
abbrev pub unary_inside : UnOp → MathValue → Bool
unary_inside Min v = has_element (elements v)
unary_inside Max v = has_element (elements v)
unary_inside _ v = true

-- whether two operands are in the operator's domain: a / b asks that b is not 0, a mod b
-- that 0 <= a and 0 < b, a ** b that 0 <= b, f(x) that f is a function with x in its domain
abbrev pub binary_inside : BinOp → MathValue → MathValue → Bool
binary_inside Div v w = not (is_equal w (int (pos 0)))
binary_inside Mod v w = int_le (pos 0) (number_in v) && int_lt (pos 0) (number_in w)
binary_inside Power v w = int_le (pos 0) (number_in w)
binary_inside Apply v w = is_function (elements v) && has (map first_part (elements v)) w
binary_inside _ v w = true

-- left to right: the right side of a connective counts only where the left side leaves it open;
-- p is the left side's truth, A and B say that the two sides are defined or fit, and own that the operator is inside its domain
abbrev pub LeftToRight : BinOp → Bool → Type 0 → Type 0 → Bool → Type 0
LeftToRight And p A B own = A × (p ≡ true → B)
LeftToRight Imp p A B own = A × (p ≡ true → B)
LeftToRight Or p A B own = A × (p ≡ false → B)
LeftToRight o p A B own = A × B × (own ≡ true)

-- one of a list
abbrev pub IsChoice : List (List MathValue) → List MathValue → Type 0
IsChoice [] vs = ⊥
IsChoice (ws ∷ wss) vs = (vs ≡ ws) ⊎ IsChoice wss vs

-- one element of each range
abbrev pub InRanges : Finder → Environment → Formulas → List MathValue → Type 0
InRanges find e rs vs = IsChoice (choices (map (λ m. m.value) (meanings find e rs))) vs

abbrev mutual
  -- each operator that is met is inside its domain
  pub Defined : Finder → Environment → Formula → Type 0
  Defined find e (unary o a) = Defined find e a × (unary_inside o (value find e a) ≡ true)
  Defined find e (binary o a b) =
      LeftToRight o (truth find e a) (Defined find e a) (Defined find e b) (binary_inside o (value find e a) (value find e b))
  Defined find e (for_all ts p) = (vs : List MathValue) → are_of_types (set_size e.table) ts vs ≡ true → Defined find (under e ts vs) p
  Defined find e (for_some ts p) = (vs : List MathValue) → are_of_types (set_size e.table) ts vs ≡ true → Defined find (under e ts vs) p
  Defined find e (comprehension rs p) = AreDefined find e rs
      × ((vs : List MathValue) → InRanges find e rs vs → Defined find (under e (range_types (meanings find e rs)) vs) p)
  Defined find e (lambda rs p v) = AreDefined find e rs × ((vs : List MathValue) → InRanges find e rs vs →
      Defined find (under e (range_types (meanings find e rs)) vs) p × (truth find (under e (range_types (meanings find e rs)) vs) p ≡
      true → Defined find (under e (range_types (meanings find e rs)) vs) v))
  Defined find e _ = Unit {0}

  -- and so in each of these formulas
  pub AreDefined : Finder → Environment → Formulas → Type 0
  AreDefined find e no_formulas = Unit {0}
  AreDefined find e (formula_and f fs) = Defined find e f × AreDefined find e fs

-- ---- executed expressions
-- a number in MININT .. MAXINT
abbrev pub is_in_int : ℤ → ℤ → Bool
is_in_int max z = int_le (pos 0 -ℤ max) z && int_le z max

-- whether the index is in the array's domain; the values of BOOL and of an enumerated set always are
abbrev pub is_in_indices : ArrayDomain → MathValue → Bool
is_in_indices (Interval low high) v = int_le low (number_in v) && int_le (number_in v) high
is_in_indices _ v = true

-- no index is asked of a function that is no array
abbrev pub is_index : Option ArrayRow → MathValue → Bool
is_index (Some row) v = is_in_indices row.domain v
is_index None v = true

-- the array that a function is
abbrev pub array_of : ArrayTable → Formula → Option ArrayRow
array_of arrays (variable n) = row_of arrays n
array_of arrays _ = None

-- whether the operation gives a number in MININT .. MAXINT, is inside its domain, or reads an array at one of its indices
abbrev pub binary_fits : ArrayTable → BinOp → Formula → MathValue → MathValue → MathValue → Bool
binary_fits arrays Add a v w result = is_in_int arrays.max (number_in result)
binary_fits arrays Sub a v w result = is_in_int arrays.max (number_in result)
binary_fits arrays Mul a v w result = is_in_int arrays.max (number_in result)
binary_fits arrays Div a v w result = binary_inside Div v w
binary_fits arrays Mod a v w result = binary_inside Mod v w
binary_fits arrays Apply a v w result = is_index (array_of arrays a) w
binary_fits arrays _ a v w result = true

-- each operation that is met fits; comprehensions and lambdas are never executed, and nothing is asked of them
abbrev pub Fits : Finder → Environment → ArrayTable → Formula → Type 0
Fits find e arrays (unary o a) = Fits find e arrays a
Fits find e arrays (binary o a b) = LeftToRight o (truth find e a) (Fits find e arrays a) (Fits find e arrays b)
    (binary_fits arrays o a (value find e a) (value find e b) (value find e (binary o a b)))
Fits find e arrays (for_all ts p) = (vs : List MathValue) →
    are_of_types (set_size e.table) ts vs ≡ true → Fits find (under e ts vs) arrays p
Fits find e arrays (for_some ts p) = (vs : List MathValue) →
    are_of_types (set_size e.table) ts vs ≡ true → Fits find (under e ts vs) arrays p
Fits find e arrays _ = Unit {0}
