-- Formulas and names without a type, and constants whose type is a pair or a set.
-- Source: B Language Reference Manual; the places are this project's.
use Rattle.std.specs.Prelude.{ℕ, suc, nat_eq, Bool, true, false, cond, List, [], ◌∷◌, ◌++◌, length, map, Option, None, Some}
use Rattle.std.specs.List.{flat_map, filter}
use Rattle.bk_val.specs.ValueType.{ValueType}
use Rattle.bk_dev.specs.Layout.{is_scalar}
use Rattle.bk_raw.specs.Trees.ComponentTree.{RawSet}
use Rattle.bk_statics.specs.Typings.{Typing}
use Rattle.bk_phases.specs.Scope.{is_there}
use Rattle.bk_phases.specs.Symbols.{Role, a_constant, an_inner_value, Symbol}
use Rattle.bk_phases.specs.Types.{Types}
use Rattle.bk_phases.specs.Formulas.{untyped_in}
use Rattle.bk_phases.specs.Resolved.{Resolved}
use Rattle.bk_phases.specs.Parts.{terms}

-- whether it is there and the type of numbers, truth values or elements
abbrev pub is_scalar_type : Option ValueType → Bool
is_scalar_type None = false
is_scalar_type (Some t) = is_scalar t

-- whether a name of this role may have the type, if it has one
abbrev pub may_be : Role → Option ValueType → Bool
may_be a_constant t = is_scalar_type t
may_be an_inner_value t = true
may_be _ t = is_there t

-- the symbols without a right type, the first having the number n
abbrev pub untyped_symbols : Typing → ℕ → List Symbol → List ℕ
untyped_symbols typing n [] = []
untyped_symbols typing n (s ∷ ss) = cond (may_be s.role (typing n)) [] (s.name.at ∷ []) ++ untyped_symbols typing (suc n) ss

-- a set that is a name alone is no type yet: no text has one, only a tree that is made otherwise
abbrev pub without_elements : RawSet → Bool
without_elements s = nat_eq (length s.elements) 0

-- all of a component
abbrev pub without_type : Types → Resolved → List ℕ
without_type types r =
    map (λ (s : RawSet). s.name.at) (filter without_elements r.component.sets)
    ++ (untyped_symbols types.of (length r.above.table.variables) r.symbols ++ flat_map (untyped_in types) (terms r))
