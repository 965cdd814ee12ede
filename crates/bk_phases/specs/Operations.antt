-- Wrong operations: headers that differ from the machine's, a missing initialisation where variables stand, and substitutions where they
-- may not stand.
-- Source: B Language Reference Manual; the places are this project's.
use Rattle.std.specs.Prelude.{ℕ, Bool, true, false, not, ◌&&◌, List, [], ◌∷◌, ◌++◌, map, Option, None}
use Rattle.std.specs.List.{flat_map, filter}
use Rattle.std.specs.Str.{bytes_eq}
use Rattle.bk_dev.specs.declared.kind.Kind.{Kind}
use Rattle.bk_dev.specs.Development.{Head, Development, is_implementing}
use Rattle.bk_raw.specs.Trees.ComponentTree.{RawOperation}
use Rattle.bk_raw.specs.Trees.SubTree.{SubTree}
use Rattle.bk_raw.specs.Meaning.Binders.{is_text}
use Rattle.bk_phases.specs.Scope.{unless}
use Rattle.bk_phases.specs.TermNames.{texts}
use Rattle.bk_phases.specs.Statement.{Statement, call_at, var_at, loop_at, par_at, seq_at, within}
use Rattle.bk_statics.specs.Components.{Component, first_token, operation_names, is_machine}
use Rattle.bk_phases.specs.Resolved.{LevelVariable, Resolved, machine_header, is_headed}
use Rattle.bk_phases.specs.Parts.{statements}
use Rattle.bk_phases.specs.TwiceNamed.{texts_of}

-- ---- where substitutions stand
-- `;`, VAR and WHILE
abbrev pub is_ordered : Statement → List ℕ
is_ordered (seq_at at s t) = at ∷ []
is_ordered (var_at at xs s) = at ∷ []
is_ordered (loop_at at p s i v) = at ∷ []
is_ordered _ = []

-- `;` and VAR do not stand in machines; WHILE stands in implementations alone; `;`, VAR and WHILE do not stand inside ||. A call stands
-- nowhere yet
abbrev pub misplaced : Kind → Statement → List ℕ
misplaced kind (seq_at at s t) = unless (not (is_machine kind)) at
misplaced kind (var_at at xs s) = unless (not (is_machine kind)) at
misplaced kind (loop_at at p s i v) = unless (is_implementing kind) at
misplaced kind (call_at at es) = at ∷ []
misplaced kind (par_at at s t) = flat_map is_ordered (within s ++ within t)
misplaced kind _ = []

-- ---- headers
-- whether two lists of names are the same
abbrev pub same_texts : List (List ℕ) → List (List ℕ) → Bool
same_texts [] [] = true
same_texts (x ∷ xs) (y ∷ ys) = bytes_eq x y && same_texts xs ys
same_texts _ _ = false

-- whether the machine has an operation of this name, with these inputs and outputs in this order
abbrev pub is_header : Development → RawOperation → Bool
is_header dev o =
    let h = machine_header dev 0 dev.heads o.name.text in
    is_headed dev.heads o.name.text
    && (same_texts (texts_of h.inputs) (texts o.inputs) && same_texts (texts_of h.outputs) (texts o.outputs))

-- the machine's operations that the component lacks
abbrev pub missing : Development → Component → List Head
missing dev c = filter (λ (h : Head). not (is_text (texts (operation_names c.operations)) h.name)) dev.heads

-- headers are the same at every level, and every operation stands at every level
abbrev pub other_headers : Bool → Development → Component → List ℕ
other_headers true dev c = []
other_headers false dev c =
    map first_token (filter (λ (o : RawOperation). not (is_header dev o)) c.operations)
    ++ map (λ (h : Head). c.at) (missing dev c)

-- no INITIALISATION where variables stand
abbrev pub uninitialised : ℕ → Option SubTree → List LevelVariable → List ℕ
uninitialised at None (v ∷ vs) = at ∷ []
uninitialised at _ _ = []

-- all of a component
abbrev pub wrong_operations : Resolved → List ℕ
wrong_operations r =
    let c = r.component in
    other_headers (is_machine c.kind) r.above c ++ uninitialised c.at c.init r.variables ++ flat_map (misplaced c.kind) (statements r)
