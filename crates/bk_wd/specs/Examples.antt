-- Small cases of WD and Chk, to be checked by hand.
use Rattle.std.specs.Prelude.{◌≡◌, ℕ, ℤ, pos, [], ◌∷◌, codes}
use Rattle.bk_limits.specs.declared.TheConstants.{MAXINT}
use Rattle.bk_val.specs.ValueType.{int_type, bool_type, pair_type, set_type}
use Rattle.bk_form.specs.Table.{Table}
use Rattle.bk_form.specs.ArrayTable.{ArrayTable}
use Rattle.bk_form.specs.Formula.{Formula, variable, bound, literal, empty_set, named, btrue, unary, binary}
use Rattle.bk_form.specs.Formula.{for_all, for_some, comprehension, lambda, no_formulas, formula_and}
use Rattle.bk_form.specs.declared.operator.UnOp.TheVariants.{Not, Max, Dom}
use Rattle.bk_form.specs.declared.operator.BinOp.TheVariants.{And, Or, Imp, Eq, Le, In, PartialFunctions}
use Rattle.bk_form.specs.declared.operator.BinOp.TheVariants.{Range, Add, Sub, Div, Mod, Power, Apply}
use Rattle.bk_form.specs.declared.operator.Domain.TheVariants.{Integer, Bool as Booleans}
use Rattle.bk_form.specs.declared.arrays.ArrayDomain.TheVariants.{Interval, Bool as OfBooleans}
use Rattle.bk_wd.specs.Operands.{not_zero, has_remainder}
use Rattle.bk_wd.specs.WellDefined.{defined}
use Rattle.bk_wd.specs.Checked.{in_machine, checked}

-- a number
abbrev pub num : ℕ → Formula
num n = literal (pos n)

-- 6 / f = 2
abbrev pub quotient : Formula → Formula
quotient f = binary Eq (binary Div (num 6) f) (num 2)

-- f .. 9
abbrev pub up_to_nine : Formula → Formula
up_to_nine f = binary Range f (num 9)

-- 6 / f .. 9
abbrev pub from_quotient : Formula → Formula
from_quotient f = up_to_nine (binary Div (num 6) f)

-- the table of f, a relation from numbers to truth values
abbrev pub table_of_f : Table
table_of_f = record { sets = []; variables = record { text = codes "f"; of_type = set_type (pair_type int_type bool_type) } ∷ [] }

-- x, y and z are the variables 0, 1 and 2
pub record WellDefinedExamples : Type 0 where
  -- 6 / x = 2 asks not(x = 0)
  pub divided : (table : Table) → defined table [] (quotient (variable 0)) ≡ not_zero (variable 0)
  -- y mod x asks 0 <= y & 0 < x, and y ** x asks 0 <= x
  pub remainder : (table : Table) → defined table [] (binary Mod (variable 1) (variable 0)) ≡ has_remainder (variable 1) (variable 0)
  pub power : (table : Table) → defined table [] (binary Power (variable 1) (variable 0)) ≡ binary Le (num 0) (variable 0)
  -- max(S) asks not(S = {})
  pub greatest : (table : Table) →
      defined table [] (unary Max (variable 0)) ≡ unary Not (binary Eq (variable 0) (empty_set (set_type int_type)))
  -- f(1) asks f : INTEGER +-> BOOL & 1 : dom(f)
  pub applied : defined table_of_f [] (binary Apply (variable 0) (num 1)) ≡ binary And
      (binary In (variable 0) (binary PartialFunctions (named Integer) (named Booleans))) (binary In (num 1) (unary Dom (variable 0)))
  -- the own condition comes after those of the sides: (6 / x) / (6 / y) asks (not(x = 0) & not(y = 0)) & not(6 / y = 0)
  pub in_order : (table : Table) → defined table [] (binary Div (binary Div (num 6) (variable 0)) (binary Div (num 6) (variable 1))) ≡
      binary And (binary And (not_zero (variable 0)) (not_zero (variable 1))) (not_zero (binary Div (num 6) (variable 1)))
  -- 6 / x = 2 & 6 / y = 2 asks not(x = 0) & (6 / x = 2 => not(y = 0)); with `or` the second is asked where not(6 / x = 2)
  pub conjoined : (table : Table) → defined table [] (binary And (quotient (variable 0)) (quotient (variable 1))) ≡
      binary And (not_zero (variable 0)) (binary Imp (quotient (variable 0)) (not_zero (variable 1)))
  pub implied : (table : Table) → defined table [] (binary Imp (quotient (variable 0)) (quotient (variable 1))) ≡
      binary And (not_zero (variable 0)) (binary Imp (quotient (variable 0)) (not_zero (variable 1)))
  pub disjoined : (table : Table) → defined table [] (binary Or (quotient (variable 0)) (quotient (variable 1))) ≡
      binary And (not_zero (variable 0)) (binary Imp (unary Not (quotient (variable 0))) (not_zero (variable 1)))
  -- x = 0 => y = 0 asks nothing
  pub nothing : (table : Table) → defined table [] (binary Imp (binary Eq (variable 0) (num 0)) (binary Eq (variable 1) (num 0))) ≡ btrue
  -- !x.(6 / x = 2) and #x.(6 / x = 2) ask !x.(not(x = 0)), and !x.#y.(6 / x = y) asks !x.!y.(not(x = 0))
  pub all : (table : Table) → defined table [] (for_all (int_type ∷ []) (quotient (bound 0))) ≡ for_all (int_type ∷ []) (not_zero (bound 0))
  pub some : (table : Table) →
      defined table [] (for_some (int_type ∷ []) (quotient (bound 0))) ≡ for_all (int_type ∷ []) (not_zero (bound 0))
  pub nested : (table : Table) →
      defined table [] (for_all (int_type ∷ []) (for_some (int_type ∷ []) (binary Eq (binary Div (num 6) (bound 1)) (bound 0)))) ≡
      for_all (int_type ∷ []) (for_all (int_type ∷ []) (not_zero (bound 1)))
  -- {x | x : 1..9 & 6 / x = 2} asks !x.(x : 1..9 => not(x = 0))
  pub chosen : (table : Table) → defined table [] (comprehension (formula_and (up_to_nine (num 1)) no_formulas) (quotient (bound 0))) ≡
      for_all (int_type ∷ []) (binary Imp (binary In (bound 0) (up_to_nine (num 1))) (not_zero (bound 0)))
  -- %x.(x : 1..9 | 6 / x) asks the same: its body is btrue
  pub function : (table : Table) →
      defined table [] (lambda (formula_and (up_to_nine (num 1)) no_formulas) btrue (binary Div (num 6) (bound 0))) ≡
      for_all (int_type ∷ []) (binary Imp (binary In (bound 0) (up_to_nine (num 1))) (not_zero (bound 0)))
  -- three ranges are asked in order, joined to the left
  pub ranges : (table : Table) → defined table [] (comprehension (formula_and (from_quotient (variable 0))
      (formula_and (from_quotient (variable 1)) (formula_and (from_quotient (variable 2)) no_formulas))) btrue) ≡
      binary And (binary And (not_zero (variable 0)) (not_zero (variable 1))) (not_zero (variable 2))
  -- !x.({y | y : x..9 & 6 / y = 2} = {}) asks !x.!y.(y : x..9 => not(y = 0)): the range's x stands one binder further out
  pub raised : (table : Table) → defined table [] (for_all (int_type ∷ [])
      (binary Eq (comprehension (formula_and (up_to_nine (bound 0)) no_formulas) (quotient (bound 0))) (empty_set (set_type int_type)))) ≡
      for_all (int_type ∷ []) (for_all (int_type ∷ []) (binary Imp (binary In (bound 0) (up_to_nine (bound 1))) (not_zero (bound 0))))

-- MAXINT where no range is said
abbrev pub int_max : ℤ
int_max = MAXINT

-- the arrays f over 0..9 and g over BOOL, which are the variables 0 and 1
abbrev pub two_arrays : ArrayTable
two_arrays =
    record { max = int_max; rows = record { var = 0; domain = Interval (pos 0) (pos 9) } ∷ record { var = 1; domain = OfBooleans } ∷ [] }

-- x and y are the variables 2 and 3
pub record CheckedExamples : Type 0 where
  -- MAXINT + 1 asks MININT <= MAXINT + 1 & MAXINT + 1 <= MAXINT
  pub added : checked two_arrays (binary Add (literal int_max) (num 1)) ≡ in_machine int_max (binary Add (literal int_max) (num 1))
  -- x - (y + 1) asks the range of y + 1, and then that of the difference
  pub subtracted : checked two_arrays (binary Sub (variable 2) (binary Add (variable 3) (num 1))) ≡ binary And (in_machine
      int_max (binary Add (variable 3) (num 1))) (in_machine int_max (binary Sub (variable 2) (binary Add (variable 3) (num 1))))
  pub divided : checked two_arrays (binary Div (variable 2) (variable 3)) ≡ not_zero (variable 3)
  pub mod_taken : checked two_arrays (binary Mod (variable 2) (variable 3)) ≡ has_remainder (variable 2) (variable 3)
  -- f(x) asks 0 <= x & x <= 9, g(x) nothing, and of a function that is no array nothing is asked
  pub indexed : checked two_arrays (binary Apply (variable 0) (variable 2)) ≡
      binary And (binary Le (num 0) (variable 2)) (binary Le (variable 2) (num 9))
  pub booleans : checked two_arrays (binary Apply (variable 1) (variable 2)) ≡ btrue
  pub no_array : checked two_arrays (binary Apply (variable 2) (variable 3)) ≡ btrue
  -- f(x + 1) asks the range of x + 1, and then that it is an index
  pub indexed_by_sum : checked two_arrays (binary Apply (variable 0) (binary Add (variable 2) (num 1))) ≡
      binary And (in_machine int_max (binary Add (variable 2) (num 1)))
      (binary And (binary Le (num 0) (binary Add (variable 2) (num 1))) (binary Le (binary Add (variable 2) (num 1)) (num 9)))
  -- x = 0 or 6 / x = 2 asks not(x = 0) => not(x = 0)
  pub either : checked two_arrays (binary Or (binary Eq (variable 2) (num 0)) (binary Eq (binary Div (num 6) (variable 2)) (num 2))) ≡
      binary Imp (unary Not (binary Eq (variable 2) (num 0))) (not_zero (variable 2))
