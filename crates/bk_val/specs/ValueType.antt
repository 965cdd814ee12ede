-- The types of values, the values of a type and the base value of each type.
-- Source: B-Book, type checking.
use Rattle.std.specs.Prelude.{◌≡◌, ℕ, zero, suc, ◌+◌, Bool, true, false, ◌&&◌, nat_lt, nat_eq, List, [], ◌∷◌, pos, refl}
use Rattle.std.proofs.Common.{ap, sym, ◌∙◌}
use Rattle.std.specs.Coded.{Coded}
use Rattle.bk_val.specs.Value.{MathValue, MathValues, int, bool, elem, pair, set, none, more, is_rising}
use base.Stored.{Gv, gnil, gnum, gcons}

-- The types of values: whole numbers, truth values, the elements of an enumerated set, pairs and finite sets.
pub data ValueType : Type 0 where
  int_type : ValueType
  bool_type : ValueType
  enum_type : ℕ → ValueType
  pair_type : ValueType → ValueType → ValueType
  set_type : ValueType → ValueType

-- the value that stands for what is undefined: 0, FALSE, the first element, the pair of bases, the empty set
abbrev pub base_of : ValueType → MathValue
base_of int_type = int (pos 0)
base_of bool_type = bool false
base_of (enum_type n) = elem n 0
base_of (pair_type s t) = pair (base_of s) (base_of t)
base_of (set_type t) = set none

abbrev mutual
  -- whether it is a value of the type; sizes gives the number of elements of each enumerated set
  pub is_value_of : (ℕ → ℕ) → ValueType → MathValue → Bool
  is_value_of sizes int_type (int z) = true
  is_value_of sizes bool_type (bool b) = true
  is_value_of sizes (enum_type n) (elem e i) = nat_eq e n && nat_lt i (sizes n)
  is_value_of sizes (pair_type s t) (pair v w) = is_value_of sizes s v && is_value_of sizes t w
  is_value_of sizes (set_type t) (set vs) = are_values_of sizes t vs && is_rising vs
  is_value_of sizes _ _ = false

  -- whether each of them is a value of the type
  pub are_values_of : (ℕ → ℕ) → ValueType → MathValues → Bool
  are_values_of sizes t none = true
  are_values_of sizes t (more v vs) = is_value_of sizes t v && are_values_of sizes t vs

-- whether it is a list of values of the list of types, one each
abbrev pub are_of_types : (ℕ → ℕ) → List ValueType → List MathValue → Bool
are_of_types sizes [] [] = true
are_of_types sizes (t ∷ ts) (v ∷ vs) = is_value_of sizes t v && are_of_types sizes ts vs
are_of_types sizes _ _ = false

-- how many nodes the type has, as a tree
abbrev pub type_size : ValueType → ℕ
type_size int_type = 1
type_size bool_type = 1
type_size (enum_type n) = 1
type_size (pair_type s t) = type_size s + type_size t + 1
type_size (set_type t) = type_size t + 1

-- ---- the code of a type, by which a proof tells types apart
-- each kind of type is a tree of another shape, with its parts inside
abbrev pub type_code : ValueType → Gv
type_code int_type = gnil
type_code bool_type = gnum 0
type_code (enum_type n) = gcons gnil (gnum n)
type_code (pair_type s t) = gcons (gnum 0) (gcons (type_code s) (type_code t))
type_code (set_type t) = gcons (gnum 1) (type_code t)

-- the type that has this code; what it gives for other trees does not matter
abbrev pub type_back : Gv → ValueType
type_back gnil = int_type
type_back (gnum n) = bool_type
type_back (gcons gnil (gnum n)) = enum_type n
type_back (gcons (gnum zero) (gcons s t)) = pair_type (type_back s) (type_back t)
type_back (gcons (gnum (suc n)) t) = set_type (type_back t)
type_back _ = int_type

-- the code of a type gives the type back
pub type_back-code : (t : ValueType) → type_back (type_code t) ≡ t
type_back-code int_type = refl
type_back-code bool_type = refl
type_back-code (enum_type n) = refl
type_back-code (pair_type s t) = λ i. pair_type (type_back-code s i) (type_back-code t i)
type_back-code (set_type t) = λ i. set_type (type_back-code t i)

-- a type is told by its code
abbrev pub coded_type : Coded ValueType
coded_type = record { code = type_code; inj = λ s t e. sym (type_back-code s) ∙ ap type_back e ∙ type_back-code t }
