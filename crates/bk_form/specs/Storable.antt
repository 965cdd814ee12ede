-- Formulas and types that the program can hold: their numbers fit its numbers.
use Rattle.std.specs.Prelude.{◌^◌, Bool, true, ◌&&◌, nat_lt, List, [], ◌∷◌}
use Rattle.bk_val.specs.Value.{fits_i128}
use Rattle.bk_val.specs.ValueType.{ValueType, enum_type, pair_type, set_type}
use Rattle.bk_form.specs.declared.operator.Domain.{Domain}
use Rattle.bk_form.specs.declared.operator.Domain.TheVariants.{Enum}
use Rattle.bk_form.specs.Formula.{Formula, variable, bound, literal, element, empty_set, named, unary, binary}
use Rattle.bk_form.specs.Formula.{for_all, for_some, comprehension, lambda, Formulas, no_formulas, formula_and}

-- whether the sets in the type have numbers of 32 bits
abbrev pub is_storable_type : ValueType → Bool
is_storable_type (enum_type n) = nat_lt n (2 ^ 32)
is_storable_type (pair_type s t) = is_storable_type s && is_storable_type t
is_storable_type (set_type t) = is_storable_type t
is_storable_type _ = true

-- whether those of each type do
abbrev pub are_storable_types : List ValueType → Bool
are_storable_types [] = true
are_storable_types (t ∷ ts) = is_storable_type t && are_storable_types ts

-- whether the named set has a number of 32 bits, if it has a number
abbrev pub is_storable_domain : Domain → Bool
is_storable_domain (Enum n) = nat_lt n (2 ^ 32)
is_storable_domain _ = true

abbrev mutual
  -- whether its variables, bound variables, sets and elements have numbers of 32 bits, and its literals fit 128 bits
  pub is_storable : Formula → Bool
  is_storable (variable n) = nat_lt n (2 ^ 32)
  is_storable (bound n) = nat_lt n (2 ^ 32)
  is_storable (literal z) = fits_i128 z
  is_storable (element s n) = nat_lt s (2 ^ 32) && nat_lt n (2 ^ 32)
  is_storable (empty_set t) = is_storable_type t
  is_storable (named d) = is_storable_domain d
  is_storable (unary o a) = is_storable a
  is_storable (binary o a b) = is_storable a && is_storable b
  is_storable (for_all ts p) = are_storable_types ts && is_storable p
  is_storable (for_some ts p) = are_storable_types ts && is_storable p
  is_storable (comprehension rs p) = are_storable rs && is_storable p
  is_storable (lambda rs p v) = are_storable rs && (is_storable p && is_storable v)
  is_storable _ = true

  -- whether those of each formula do
  pub are_storable : Formulas → Bool
  are_storable no_formulas = true
  are_storable (formula_and a fs) = is_storable a && are_storable fs

-- whether its parts can be held: its own numbers are left out
abbrev pub has_storable_parts : Formula → Bool
has_storable_parts (empty_set t) = is_storable_type t
has_storable_parts (unary o a) = is_storable a
has_storable_parts (binary o a b) = is_storable a && is_storable b
has_storable_parts (for_all ts p) = are_storable_types ts && is_storable p
has_storable_parts (for_some ts p) = are_storable_types ts && is_storable p
has_storable_parts (comprehension rs p) = are_storable rs && is_storable p
has_storable_parts (lambda rs p v) = are_storable rs && (is_storable p && is_storable v)
has_storable_parts _ = true
