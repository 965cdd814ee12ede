-- How many names a component declares: sets, elements, constants, variables, operations, inputs, outputs, and every name of a binding
-- list, in terms too; but none of VALUES. The levels above do not matter.
-- Source: this project.
use Rattle.std.specs.Prelude.{ℕ, ◌+◌, Bool, nat_lt, List, [], ◌∷◌, length}
use Rattle.std.specs.List.{flat_map}
use Rattle.bk_limits.specs.declared.TheConstants.{MOST_NAMES}
use Rattle.bk_raw.specs.declared.term.RawName.{RawName}
use Rattle.bk_raw.specs.Trees.ComponentTree.{RawOperation}
use Rattle.bk_phases.specs.Term.{Term}
use Rattle.bk_phases.specs.TermNames.{binding_lists}
use Rattle.bk_phases.specs.Statement.{Statement, binding_list, arguments}
use Rattle.bk_statics.specs.Components.{Component}
use Rattle.bk_statics.specs.Above.{no_development}
use Rattle.bk_phases.specs.Resolved.{resolved_component}
use Rattle.bk_phases.specs.Parts.{statements, stated_terms}

-- the sum of what is counted in each
abbrev pub sum_of : {A : Type 0} → (A → ℕ) → List A → ℕ
sum_of count [] = 0
sum_of count (x ∷ xs) = count x + sum_of count xs

-- an operation's own name, its inputs and outputs
abbrev pub header_count : RawOperation → ℕ
header_count o = 1 + (length o.inputs + length o.outputs)

-- the names that binders in a term bind
abbrev pub term_count : Term → ℕ
term_count t = sum_of (λ (xs : List RawName). length xs) (binding_lists t.tree)

-- the names that a component declares
abbrev pub declared_count : Component → ℕ
declared_count c =
    let r = resolved_component no_development c in
    length c.declared
    + (sum_of header_count c.operations
    + (sum_of (λ (s : Statement). length (binding_list s)) (statements r)
    + (sum_of term_count (stated_terms r) + sum_of term_count (flat_map arguments (statements r)))))

-- whether there are more than a component may declare: limit 5
abbrev pub declares_too_many : Component → Bool
declares_too_many c = nat_lt MOST_NAMES (declared_count c)
