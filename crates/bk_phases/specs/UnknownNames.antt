-- Names that are not visible.
-- Source: B Language Reference Manual; the places are this project's.
use Rattle.std.specs.Prelude.{ℕ, List, [], ◌∷◌, ◌++◌, map}
use Rattle.std.specs.List.{flat_map}
use Rattle.bk_raw.specs.Meaning.Names.{Named}
use Rattle.bk_statics.specs.Typings.{Target, unknown}
use Rattle.bk_phases.specs.Scope.{Written}
use Rattle.bk_phases.specs.Term.{Term}
use Rattle.bk_phases.specs.TermNames.{unknown_in}
use Rattle.bk_phases.specs.Statement.{left_names}
use Rattle.bk_phases.specs.Resolved.{Resolved}
use Rattle.bk_phases.specs.Parts.{statements, terms}

-- a written name that is not visible
abbrev pub if_unknown : ℕ → Target → List ℕ
if_unknown at unknown = at ∷ []
if_unknown at _ = []

-- all of a component
abbrev pub unknown_names : Resolved → List ℕ
unknown_names r =
    -- in terms
    flat_map (λ (t : Term). unknown_in (map (λ (n : Named). n.text) t.names) t.tree) (terms r)
    -- and where they are written to
    ++ flat_map (λ (x : Written). if_unknown x.name.at x.target) (flat_map left_names (statements r))
