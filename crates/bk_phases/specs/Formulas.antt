-- What a term in its place reads as: its formula, and the bytes where something in it has no type, or not the type that its place asks.
-- Source: B-Book, type checking; the places are this project's.
use Rattle.std.specs.Prelude.{ℕ, cond, List, ◌++◌, map, Option, None, Some}
use Rattle.bk_val.specs.ValueType.{ValueType, int_type, pair_type, set_type}
use Rattle.bk_form.specs.Formula.{Formula, btrue}
use Rattle.bk_form.specs.Role.{same_type}
use Rattle.bk_raw.specs.Meaning.Outcome.{Outcome, Reading, Asked, answered, refused, no_type}
use Rattle.bk_raw.specs.Meaning.Outcome.{ask, ask_value, ask_domain, ask_predicate, unvalued}
use Rattle.bk_raw.specs.Errors.Faults.{Fault}
use Rattle.bk_raw.specs.Meaning.TermReading.{reading, part}
use Rattle.bk_statics.specs.Typings.{Typing, typed, type_at, or_else}
use Rattle.bk_phases.specs.Scope.{Written}
use Rattle.bk_phases.specs.Term.{Wanted, a_predicate, a_value, a_number, value_for, domain_for}
use Rattle.bk_phases.specs.Term.{index_for, element_for, Term, place, wants_predicate}
use Rattle.bk_phases.specs.Types.{Types}

-- the term read, with the types that names have
abbrev pub reading_of : Types → Term → Reading
reading_of types t = part (wants_predicate t.wanted) t.tree (reading types.max (typed types.of t.names) t.tree)

-- the formula without its type
abbrev pub only_formula : Option (Formula × ValueType) → Option Formula
only_formula None = None
only_formula (Some d) = Some d.0

-- the formula of an expression that gives a type, or of a domain
abbrev pub formula_of : Asked (Formula × ValueType) → Asked Formula
formula_of a = record { answer = only_formula a.answer; faults = a.faults }

-- an expression where no type is asked: {} takes any, and what is no value has none
abbrev pub ask_nothing : Outcome → Asked Formula
ask_nothing o = record { answer = None; faults = unvalued o }

-- an expression of the type, if there is one
abbrev pub ask_like : Option ValueType → ℕ → Outcome → Asked Formula
ask_like None at o = ask_nothing o
ask_like (Some t) at o = ask at o t

-- a domain over this type, where there is a domain, and else its faults
abbrev pub over_type : ValueType → ℕ → Option (Formula × ValueType) → List Fault → Asked Formula
over_type t at None fs = refused fs
over_type t at (Some d) fs = cond (same_type t d.1) (answered d.0) (refused (no_type at))

-- a domain over this type, if there is one
abbrev pub over : Option ValueType → ℕ → Asked (Formula × ValueType) → Asked Formula
over None at a = formula_of a
over (Some t) at a = over_type t at a.answer a.faults

-- f(e) := v: the type of e, or of v; f is at fault where it is no relation
abbrev pub ask_part : (ValueType → ValueType → ValueType) → Written → Option ValueType → ℕ → Outcome → Asked Formula
ask_part side f None at o = ask_nothing o
ask_part side f (Some (set_type (pair_type t u))) at o = ask at o (side t u)
ask_part side f (Some _) at o = record { answer = None; faults = no_type f.name.at ++ unvalued o }

-- what a place asks
abbrev pub asked : Typing → Wanted → ℕ → Outcome → Asked Formula
asked typing a_predicate at o = ask_predicate o
asked typing a_value at o = formula_of (ask_value at o)
asked typing a_number at o = ask at o int_type
asked typing (value_for x) at o = ask_like (type_at typing x) at o
asked typing (domain_for x) at o = over (type_at typing x) at (ask_domain at o)
asked typing (index_for f) at o = ask_part (λ t u. t) f (type_at typing f.target) at o
asked typing (element_for f) at o = ask_part (λ t u. u) f (type_at typing f.target) at o

-- the term in its place
abbrev pub read : Types → Term → Asked Formula
read types t = asked types.of t.wanted (place t) (reading_of types t).outcome

-- its formula; what has none is refused
abbrev pub formula : Types → Term → Formula
formula types t = or_else btrue (read types t).answer

-- where it has no type
abbrev pub untyped_in : Types → Term → List ℕ
untyped_in types t = map (λ (f : Fault). f.1) ((reading_of types t).faults ++ (read types t).faults)
