-- WD(F), the formula that says that F is defined: that each operator which is met from left to right is inside its domain.
-- Source: after the B-Book's well-definedness.
use Rattle.std.specs.Prelude.{ℕ, pos, List}
use Rattle.bk_val.specs.ValueType.{ValueType, int_type, bool_type, enum_type, pair_type, set_type}
use Rattle.bk_form.specs.Table.{Table}
use Rattle.bk_form.specs.Formula.{Formula, bound, literal, empty_set, named, btrue, unary, binary, for_all}
use Rattle.bk_form.specs.Formula.{for_some, comprehension, lambda, Formulas, no_formulas, formula_and}
use Rattle.bk_form.specs.Role.{Role, gives, role, roles, bind, element_types}
use Rattle.bk_form.specs.Replacement.{count}
use Rattle.bk_form.specs.declared.operator.UnOp.{UnOp}
use Rattle.bk_form.specs.declared.operator.UnOp.TheVariants.{Not, Min, Max, Dom, Pow}
use Rattle.bk_form.specs.declared.operator.BinOp.{BinOp}
use Rattle.bk_form.specs.declared.operator.BinOp.TheVariants.{And, Eq, Le, In, PartialFunctions, Times, Div, Mod, Power, Apply}
use Rattle.bk_form.specs.declared.operator.Domain.TheVariants.{Integer, Bool as Booleans, Enum}
use Rattle.bk_form.specs.Lifting.{lifted}
use Rattle.bk_wd.specs.Joining.{both, where_true, all_over}
use Rattle.bk_wd.specs.Operands.{right_met, sides_asked, not_zero, has_remainder}

-- ---- types as domains
-- the values of a type: INTEGER, BOOL, an enumerated set, S * T and POW(S)
abbrev pub domain_of : ValueType → Formula
domain_of int_type = named Integer
domain_of bool_type = named Booleans
domain_of (enum_type n) = named (Enum n)
domain_of (pair_type s t) = binary Times (domain_of s) (domain_of t)
domain_of (set_type t) = unary Pow (domain_of t)

-- T +-> U, where a relation's pairs are of T and U; what is no relation has INTEGER in its place
abbrev pub functions_of : Role → Formula
functions_of (gives (set_type (pair_type t u))) = binary PartialFunctions (domain_of t) (domain_of u)
functions_of _ = named Integer

-- ---- an operator's own condition
-- min(S) and max(S) ask not(S = {})
abbrev pub unary_own : UnOp → Formula → Formula
unary_own Min a = unary Not (binary Eq a (empty_set (set_type int_type)))
unary_own Max a = unary Not (binary Eq a (empty_set (set_type int_type)))
unary_own _ a = btrue

-- a / b asks not(b = 0), a mod b 0 <= a & 0 < b, a ** b 0 <= b, and f(x) f : T +-> U & x : dom(f); r is what the left side stands for
abbrev pub binary_own : BinOp → Role → Formula → Formula → Formula
binary_own Div r a b = not_zero b
binary_own Mod r a b = has_remainder a b
binary_own Power r a b = binary Le (literal (pos 0)) b
binary_own Apply r a b = binary And (binary In a (functions_of r)) (binary In b (unary Dom a))
binary_own _ r a b = btrue

-- ---- the elements of ranges
-- f, and that the values that are bound are in these ranges, the first of them outermost; joined to the left, under n bound variables
abbrev pub ranges_onto : ℕ → Formula → Formulas → Formula
ranges_onto n f no_formulas = f
ranges_onto n f (formula_and r rs) = ranges_onto n (binary And f (binary In (bound (count rs)) (lifted n 0 r))) rs

-- x : D, for the n variables that are bound over these ranges
abbrev pub in_ranges : ℕ → Formulas → Formula
in_ranges n no_formulas = btrue
in_ranges n (formula_and r rs) = ranges_onto n (binary In (bound (count rs)) (lifted n 0 r)) rs

-- !x.(x : D => P), for the n variables that are bound over these ranges, whose elements are of these types
abbrev pub all_in_ranges : ℕ → List ValueType → Formulas → Formula → Formula
all_in_ranges n ts rs p = all_over ts (where_true (in_ranges n rs) p)

-- ---- WD(F)
abbrev mutual
  -- WD(F), under bound numbers of these types, the innermost first
  pub defined : Table → List ValueType → Formula → Formula
  defined table around (unary o a) = both (defined table around a) (unary_own o a)
  defined table around (binary o a b) =
      both (sides_asked (right_met o) a (defined table around a) (defined table around b)) (binary_own o (role table around a) a b)
  defined table around (for_all ts p) = all_over ts (defined table (bind ts around) p)
  defined table around (for_some ts p) = all_over ts (defined table (bind ts around) p)
  -- the ranges, and for their elements the body
  defined table around (comprehension rs p) =
      both (all_defined table around btrue rs) (all_in_ranges (count rs) (element_types (roles table around rs))
      rs (defined table (bind (element_types (roles table around rs)) around) p))
  -- the ranges, and for their elements the body and, where it is true, the value
  defined table around (lambda rs p v) =
      both (all_defined table around btrue rs) (all_in_ranges (count rs) (element_types (roles table around rs)) rs
      (both (defined table (bind (element_types (roles table around rs)) around) p)
      (where_true p (defined table (bind (element_types (roles table around rs)) around) v))))
  defined table around _ = btrue

  -- f, and WD of each of these formulas, joined to the left
  pub all_defined : Table → List ValueType → Formula → Formulas → Formula
  all_defined table around f no_formulas = f
  all_defined table around f (formula_and r rs) = all_defined table around (both f (defined table around r)) rs
