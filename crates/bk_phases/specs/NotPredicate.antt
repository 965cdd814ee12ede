-- An expression where a predicate is needed, or the reverse, or a `<<:` within a side of another `<<:`.
-- Source: B Language Reference Manual; the places are this project's.
use Rattle.std.specs.Prelude.{ℕ, List}
use Rattle.std.specs.List.{flat_map}
use Rattle.bk_phases.specs.Term.{Term, wants_predicate}
use Rattle.bk_phases.specs.TermSorts.{missorted}
use Rattle.bk_phases.specs.Resolved.{Resolved}
use Rattle.bk_phases.specs.Parts.{terms}

-- all of a component
abbrev pub wrong_sorts : Resolved → List ℕ
wrong_sorts r = flat_map (λ (t : Term). missorted (wants_predicate t.wanted) t.tree) (terms r)
