-- All substitutions and all terms of a component, in the order of the text. Each static rule is said of one of them.
-- Source: this project.
use Rattle.std.specs.Prelude.{List, [], ◌∷◌, ◌++◌, map, Option, None, Some}
use Rattle.std.specs.List.{flat_map}
use Rattle.bk_phases.specs.Term.{Term}
use Rattle.bk_phases.specs.Statement.{Statement, within, own_terms}
use Rattle.bk_phases.specs.Resolved.{Operation, Entry, Resolved}

-- the initialisation and the bodies
abbrev pub bodies : Resolved → List Statement
bodies r = r.init ∷ map (λ (o : Operation). o.body) r.operations

-- these and all that stand in them
abbrev pub statements : Resolved → List Statement
statements r = flat_map within (bodies r)

-- the term of a clause, if there is one
abbrev pub if_stated : Option Term → List Term
if_stated None = []
if_stated (Some t) = t ∷ []

-- the terms of all clauses but VALUES, and of all substitutions but calls
abbrev pub stated_terms : Resolved → List Term
stated_terms r = if_stated r.properties ++ if_stated r.invariant ++ r.assertions ++ flat_map own_terms (statements r)

-- all terms
abbrev pub terms : Resolved → List Term
terms r = map (λ (e : Entry). e.value) r.entries ++ stated_terms r
