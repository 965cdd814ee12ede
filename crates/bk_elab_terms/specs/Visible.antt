-- Names in scope, as the program keeps them: what each stands for, and the types that variables have by their numbers.
use Rattle.std.specs.Prelude.{ℕ, Bool, true, false, List, map, slice_get, Option, None, Some, ◌++◌}
use Rattle.std.specs.Borrow.{Bor}
use Rattle.bk_val.specs.ValueType.{ValueType}
use Rattle.bk_raw.specs.declared.term.RawName.{RawName}
use Rattle.bk_raw.specs.Trees.RawTree.{RawTree}
use Rattle.bk_raw.specs.Meaning.Names.{Names, Meaning, global, set_name, element_name}
use Rattle.bk_form.specs.Formula.{Formula}
use Rattle.bk_raw.specs.Meaning.Outcome.{Reading, Asked, ask, ask_value, ask_domain, ask_predicate}
use Rattle.bk_raw.specs.Meaning.Binders.{bound_names}
use Rattle.bk_raw.specs.Meaning.TermReading.{part, reading, clues, place_of}
use Rattle.bk_elab_terms.specs.declared.sight.Visible.{Visible}
use Rattle.bk_elab_terms.specs.declared.sight.Standing.{Standing}
use Rattle.bk_elab_terms.specs.declared.sight.Standing.TheVariants.{Variable, Set, Element}
use Rattle.bk_elab_terms.specs.declared.visible.Sight.{Sight}

-- the type that is told, where there is a number
abbrev pub told_at : Option (Option ValueType) → Option ValueType
told_at None = None
told_at (Some t) = t

-- the types of numbers
abbrev pub typing_of : List (Option ValueType) → ℕ → Option ValueType
typing_of ts n = told_at (slice_get ts n)

-- what a name stands for, types aside
abbrev pub meaning_of : Standing → Meaning
meaning_of (Variable n) = global n None
meaning_of (Set s) = set_name s
meaning_of (Element s i) = element_name s i

-- the same with the type that a variable has
abbrev pub typed_meaning : List (Option ValueType) → Standing → Meaning
typed_meaning ts (Variable n) = global n (typing_of ts n)
typed_meaning ts (Set s) = set_name s
typed_meaning ts (Element s i) = element_name s i

-- names, types aside; the innermost is the first
abbrev pub visible_names : List Visible → Names
visible_names vs = map (λ v. record { text = v.text.now; meaning = meaning_of v.meaning }) vs

-- names with their types
abbrev pub seen_names : List (Option ValueType) → List Visible → Names
seen_names ts vs = map (λ v. record { text = v.text.now; meaning = typed_meaning ts v.meaning }) vs

-- what a term reads as in a place where a predicate is wanted, or an expression
abbrev pub reading_by : Bool → Sight → RawTree → Reading
reading_by wanted s t = part wanted t (reading s.max (seen_names s.types.now s.names.now) t)

-- what a place asks, after the faults in a term
abbrev pub asked_behind : {A : Type 0} → Reading → Asked A → Asked A
asked_behind r a = record { answer = a.answer; faults = r.faults ++ a.faults }

-- what is asked of a term, after the faults in it: a predicate
abbrev pub predicate_asked : Sight → RawTree → Asked Formula
predicate_asked s t = asked_behind (reading_by true s t) (ask_predicate (reading_by true s t).outcome)

-- an expression of a type
abbrev pub type_asked : Sight → RawTree → ValueType → Asked Formula
type_asked s t u = asked_behind (reading_by false s t) (ask (place_of t) (reading_by false s t).outcome u)

-- a value, of any type
abbrev pub value_asked : Sight → RawTree → Asked (Formula × ValueType)
value_asked s t = asked_behind (reading_by false s t) (ask_value (place_of t) (reading_by false s t).outcome)

-- a domain, with the type that it ranges over
abbrev pub domain_asked : Sight → RawTree → Asked (Formula × ValueType)
domain_asked s t = asked_behind (reading_by false s t) (ask_domain (place_of t) (reading_by false s t).outcome)

-- the types that the conjuncts of a predicate give to names
abbrev pub types_by : Sight → List (Bor RawName) → RawTree → List (Option ValueType)
types_by s xs p = map (λ b. b.of_type) (clues s.max (seen_names s.types.now s.names.now) (bound_names (map (λ x. x.now) xs)) p)
