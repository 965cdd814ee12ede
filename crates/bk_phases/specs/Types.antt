-- How declared names come to their types. Each is typed by its source, over the types that there are: constants first, then variables,
-- then, operation by operation, inputs, outputs and what is bound, in the order of their numbers. Outputs and locals may wait for names
-- after them, so this is done again as long as a name may get its type; a type that a name has stays. Names that only wait for each
-- other have none.
-- Source: B Language Reference Manual, typing.
use Rattle.std.specs.Prelude.{ℕ, zero, suc, ℤ, nat_eq, cond, List, [], ◌∷◌, length, Option, None, Some}
use Rattle.std.specs.Str.{bytes_eq}
use Rattle.bk_val.specs.ValueType.{ValueType}
use Rattle.bk_raw.specs.Meaning.Outcome.{Outcome, ask_value, ask_domain}
use Rattle.bk_raw.specs.Meaning.Binders.{Bound, bound_names, second}
use Rattle.bk_raw.specs.Meaning.TermReading.{reading, clues}
use Rattle.bk_statics.specs.Typings.{Typing, typed, type_at}
use Rattle.bk_phases.specs.Term.{Term}
use Rattle.bk_phases.specs.Symbols.{Source, no_source, from_value, from_domain, from_conjunct, from_name, Symbol}
use Rattle.bk_statics.specs.Above.{known}
use Rattle.bk_phases.specs.Resolved.{Resolved}

-- MAXINT, and the types so far
pub record Types : Type 0 where
  pub max : ℤ
  pub of : Typing

-- what a term turns out to be
abbrev pub outcome_of : Types → Term → Outcome
outcome_of types t = (reading types.max (typed types.of t.names) t.tree).outcome

-- the type that a name has come to among others
abbrev pub type_among : List Bound → List ℕ → Option ValueType
type_among [] x = None
type_among (b ∷ bs) x = cond (bytes_eq b.text x) b.of_type (type_among bs x)

-- the type that a source gives
abbrev pub given : Types → Source → Option ValueType
given types no_source = None
given types (from_value e) = second (ask_value 0 (outcome_of types e)).answer
given types (from_domain d) = second (ask_domain 0 (outcome_of types d)).answer
given types (from_conjunct xs x p) = type_among (clues types.max (typed types.of p.names) (bound_names xs) p.tree) x.text
given types (from_name target) = type_at types.of target

-- the types, and that of the variable n
abbrev pub with_one : ℕ → Option ValueType → Types → Types
with_one n None types = types
with_one n (Some t) types = record { max = types.max; of = λ m. cond (nat_eq m n) (Some t) (types.of m) }

-- the variable n typed by its source, unless it has a type
abbrev pub typed_by : ℕ → Source → Option ValueType → Types → Types
typed_by n s (Some t) types = types
typed_by n s None types = with_one n (given types s) types

-- a round: each symbol that has no type is typed by its source, the first having the number n
abbrev pub round : ℕ → List Symbol → Types → Types
round n [] types = types
round n (s ∷ ss) types = round (suc n) ss (typed_by n s.source (types.of n) types)

-- so many rounds
abbrev pub repeated : ℕ → (Types → Types) → Types → Types
repeated zero f types = types
repeated (suc k) f types = repeated k f (f types)

-- the types of a component's names: as many rounds as there are names, since each round but the last types one name more
abbrev pub types_of : ℤ → Resolved → Types
types_of max r = repeated (length r.symbols) (round (length r.above.table.variables) r.symbols) (record { max = max; of = known r.above })
