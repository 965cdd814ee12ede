-- Wrong values: a constant without a value, a value for no constant, twice, that reads as no literal, TRUE, FALSE or element, of another
-- type or outside INT, and a set without a size.
-- Source: B Language Reference Manual; the places are this project's.
use Rattle.std.specs.Prelude.{ℕ, suc, nat_eq, ℤ, pos, ◌-ℤ◌, int_le, Bool, true, false, cond}
use Rattle.std.specs.Prelude.{not, ◌&&◌, ◌||◌, List, [], ◌∷◌, ◌++◌, map, Option, None, Some}
use Rattle.std.specs.List.{filter_map, list_any}
use Rattle.bk_val.specs.ValueType.{ValueType}
use Rattle.bk_form.specs.Table.{SetEntry}
use Rattle.bk_form.specs.Formula.{Formula, literal, truth_value, element}
use Rattle.bk_form.specs.Role.{same_type}
use Rattle.bk_gsl.specs.State.{among}
use Rattle.bk_dev.specs.Development.{is_implementing}
use Rattle.bk_raw.specs.Meaning.Names.{Named, Meaning, set_name}
use Rattle.bk_raw.specs.Meaning.Outcome.{Outcome, partial, whole}
use Rattle.bk_statics.specs.Typings.{type_at, variable_in}
use Rattle.bk_phases.specs.Scope.{Written, meaning_of, is_there, unless}
use Rattle.bk_phases.specs.Types.{Types}
use Rattle.bk_phases.specs.Formulas.{reading_of}
use Rattle.bk_phases.specs.Resolved.{Entry, Resolved}
use Rattle.bk_phases.specs.Writes.{is_among, variables_of}

-- whether a number is within INT
abbrev pub is_within : ℤ → ℤ → Bool
is_within max z = int_le (pos 0 -ℤ max) z && int_le z max

-- a literal within INT, TRUE, FALSE or an element
abbrev pub is_literal : ℤ → Formula → Bool
is_literal max (literal z) = is_within max z
is_literal max (truth_value b) = true
is_literal max (element s i) = true
is_literal max _ = false

-- such a formula, where it has the type of its constant
abbrev pub literal_of : ℤ → Option ValueType → Outcome → Option Formula
literal_of max (Some t) (partial (whole f u)) = cond (is_literal max f && same_type t u) (Some f) None
literal_of max _ _ = None

-- the value of an entry, if it is one of its constant
abbrev pub value_of : Types → Entry → Option Formula
value_of types e = literal_of types.max (type_at types.of e.constant.target) (reading_of types e.value).outcome

-- entries for no constant (VALUES sees no other variable), with no value of it, or for a constant that has one
abbrev pub wrong_entries : Types → List Written → List Entry → List ℕ
wrong_entries types before [] = []
wrong_entries types before (e ∷ es) =
    unless (is_there (value_of types e) && not (is_among (variables_of before) e.constant.target)) e.constant.name.at
    ++ wrong_entries types (e.constant ∷ before) es

-- constants without an entry, at the implementation's name
abbrev pub without_entry : Resolved → List ℕ
without_entry r =
    let valued = variables_of (map (λ (e : Entry). e.constant) r.entries) in
    filter_map (λ (n : Named). missing r.component.name.at valued (variable_in n.meaning)) r.globals
  where
    missing : ℕ → List ℕ → Option ℕ → Option ℕ
    missing at valued None = None
    missing at valued (Some n) = cond (among valued n) None (Some at)

-- whether the entry is for the set n
abbrev pub is_for_set : ℕ → Resolved → Entry → Bool
is_for_set n r e = is_set (meaning_of r.globals e.constant.name.text)
  where
    is_set : Meaning → Bool
    is_set (set_name m) = nat_eq m n
    is_set _ = false

-- the sets without a size and without an entry, the first having the number n, at the implementation's name
abbrev pub without_size : Resolved → ℕ → List SetEntry → List ℕ
without_size r n [] = []
without_size r n (s ∷ ss) =
    unless (not (nat_eq s.size 0) || list_any (is_for_set n r) r.entries) r.component.name.at ++ without_size r (suc n) ss

-- all of an implementation; the sets are those of the levels above, since its own have elements
abbrev pub wrong_values : Types → Resolved → List ℕ
wrong_values types r =
    cond (is_implementing r.component.kind)
    (wrong_entries types [] r.entries ++ (without_entry r ++ without_size r 0 r.above.table.sets))
    []
