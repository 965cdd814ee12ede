-- Names of a component that stand twice. (Names that a term or a substitution binds are judged where they are read.)
-- Source: B Language Reference Manual; the places are this project's.
use Rattle.std.specs.Prelude.{ℕ, suc, cond, List, [], ◌∷◌, ◌++◌}
use Rattle.bk_dev.specs.Development.{Level, Development}
use Rattle.bk_raw.specs.declared.term.RawName.{RawName}
use Rattle.bk_raw.specs.Trees.ComponentTree.{RawOperation}
use Rattle.bk_raw.specs.Meaning.Names.{Names}
use Rattle.bk_raw.specs.Meaning.Binders.{is_text, twice}
use Rattle.bk_raw.specs.Errors.Faults.{Fault, twice_named}
use Rattle.bk_statics.specs.Components.{Component, set_names, abstract_names, operation_names}
use Rattle.bk_statics.specs.Above.{names_at_level, globals_of, upper_of}
use Rattle.bk_statics.specs.Plan.{declared_texts, carried}

-- the texts of names
abbrev pub named_texts : Names → List (List ℕ)
named_texts [] = []
named_texts (n ∷ ns) = n.text ∷ named_texts ns

-- each name that is one of these
abbrev pub taken : List (List ℕ) → List RawName → List Fault
taken before [] = []
taken before (x ∷ xs) = cond (is_text before x.text) (twice_named x.at ∷ []) [] ++ taken before xs

-- the names of the variables of all levels from k on
abbrev pub variable_texts : ℕ → Development → List Level → List (List ℕ)
variable_texts k dev [] = []
variable_texts k dev (l ∷ ls) = named_texts (names_at_level k dev.table l.vars) ++ variable_texts (suc k) dev ls

-- the names of components
abbrev pub level_texts : List Level → List (List ℕ)
level_texts [] = []
level_texts (l ∷ ls) = l.name ∷ level_texts ls

-- the inputs and outputs of an operation together
abbrev pub header_twice : List RawOperation → List Fault
header_twice [] = []
header_twice (o ∷ os) = twice [] (o.outputs ++ o.inputs) ++ header_twice os

-- component names are distinct; sets, elements and constants of the whole chain are distinct, and no variable of any level has such a
-- name; names of one component's variables and operations are distinct; a variable that comes from above as concrete is not declared
-- as abstract
abbrev pub name_faults : Development → Component → List Fault
name_faults dev c =
    taken (level_texts dev.levels) (c.name ∷ [])
    ++ (twice (named_texts (globals_of dev)) c.declared
    ++ (taken (variable_texts 0 dev dev.levels) (set_names c.sets ++ c.constants)
    ++ (taken (declared_texts (carried dev (upper_of dev))) (abstract_names c.variables)
    ++ (twice [] (operation_names c.operations) ++ header_twice c.operations))))
