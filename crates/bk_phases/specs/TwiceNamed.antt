-- Names that stand twice, each at the second place.
-- Source: B Language Reference Manual; the places are this project's.
use Rattle.std.specs.Prelude.{ℕ, suc, cond, List, [], ◌∷◌, ◌++◌, map}
use Rattle.std.specs.List.{flat_map, filter}
use Rattle.bk_dev.specs.Development.{Level, Development}
use Rattle.bk_raw.specs.declared.term.RawName.{RawName}
use Rattle.bk_raw.specs.Trees.ComponentTree.{RawOperation}
use Rattle.bk_raw.specs.Meaning.Names.{Names, Named}
use Rattle.bk_raw.specs.Meaning.Binders.{is_text}
use Rattle.bk_phases.specs.Scope.{Local}
use Rattle.bk_phases.specs.Term.{Term}
use Rattle.bk_phases.specs.TermNames.{binding_lists}
use Rattle.bk_phases.specs.Statement.{Statement, binding_list}
use Rattle.bk_statics.specs.Components.{set_names, abstract_names, operation_names}
use Rattle.bk_statics.specs.Above.{names_at_level, globals_of}
use Rattle.bk_phases.specs.Resolved.{Resolved, carried}
use Rattle.bk_phases.specs.Parts.{statements, terms}

-- each name that is one of these, or stands before in the list
abbrev pub twice_among : List (List ℕ) → List RawName → List ℕ
twice_among before [] = []
twice_among before (x ∷ xs) = cond (is_text before x.text) (x.at ∷ []) [] ++ twice_among (x.text ∷ before) xs

-- each name that is one of these
abbrev pub among_these : List (List ℕ) → List RawName → List ℕ
among_these before xs = map (λ (x : RawName). x.at) (filter (λ (x : RawName). is_text before x.text) xs)

-- the names as they are written
abbrev pub texts_of : Names → List (List ℕ)
texts_of names = map (λ (n : Named). n.text) names

-- the names of the components above
abbrev pub component_names : Development → List (List ℕ)
component_names dev = map (λ (l : Level). l.name) dev.levels

-- the names of the variables of levels, the first of which is level k
abbrev pub variable_texts : Development → ℕ → List Level → List (List ℕ)
variable_texts dev k [] = []
variable_texts dev k (l ∷ ls) = texts_of (names_at_level k dev.table l.vars) ++ variable_texts dev (suc k) ls

-- the names of a binding list of a substitution
abbrev pub names_bound : Statement → List RawName
names_bound s = map (λ (x : Local). x.name) (binding_list s)

-- all of a component
abbrev pub twice_named : Resolved → List ℕ
twice_named r =
    let dev = r.above in
    let c = r.component in
    -- component names are distinct
    among_these (component_names dev) (c.name ∷ [])
    -- sets, elements and constants of the whole chain are distinct, no variable has such a name, and the names of one clause are distinct
    ++ twice_among (texts_of (globals_of dev)) c.declared
    ++ among_these (variable_texts dev 0 dev.levels) (set_names c.sets ++ c.constants)
    -- a concrete variable may be declared again below as concrete, and not as abstract
    ++ among_these (texts_of (carried dev)) (abstract_names c.variables)
    -- operation names are distinct, and so are the inputs and outputs of one operation together
    ++ twice_among [] (operation_names c.operations)
    ++ flat_map (λ (o : RawOperation). twice_among [] (o.outputs ++ o.inputs)) c.operations
    -- the names of one binding list are distinct
    ++ flat_map (λ (s : Statement). twice_among [] (names_bound s)) (statements r)
    ++ flat_map (λ (t : Term). flat_map (twice_among []) (binding_lists t.tree)) (terms r)
