-- What is executed, as the program keeps it.
use Rattle.std.specs.Prelude.{ℕ, nat_eq, cond, List, [], ◌∷◌, Option, None, Some}
use Rattle.bk_form.specs.Formula.{Formula}
use Rattle.bk_raw.specs.declared.operator.InfixOp.TheVariants.{Times}
use Rattle.bk_raw.specs.Trees.RawTree.{RawTree, raw, raw_infix, raw_extension, no_trees, tree_and}
use Rattle.bk_raw.specs.Trees.SubTree.{SubTree, Branches}
use Rattle.bk_raw.specs.Meaning.Names.{Names}
use Rattle.bk_raw.specs.Errors.Faults.{Fault, not_b0}
use Rattle.bk_elab_terms.specs.Visible.{typing_of, visible_names}
use Rattle.bk_statics.specs.Executable.{Executing as Meant, expression_faults, condition_faults, statement_faults, branches_executable}
use Rattle.bk_check_b0.specs.declared.executable.Executing.{Executing}
use Rattle.bk_scope.specs.declared.way.Typing.{Typing}

-- the domain of the first array with the number
abbrev pub array_by : List (ℕ × Formula) → ℕ → Option Formula
array_by [] x = None
array_by (p ∷ ps) x = cond (nat_eq p.0 x) (Some p.1) (array_by ps x)

-- types, and arrays with their domains
abbrev pub executing : Typing → List (ℕ × Formula) → Meant
executing t arrays = record { int_max = t.max; typing = typing_of t.types.now; array = array_by arrays }

-- the same of what the program keeps
abbrev pub meant_by : Executing → Meant
meant_by x = executing x.typing x.arrays.now

-- the names in scope
abbrev pub names_of : Executing → Names
names_of x = visible_names x.names.now

-- the faults of a statement
abbrev pub statement_by : Executing → SubTree → List Fault
statement_by x s = statement_faults (meant_by x) (names_of x) x.first s

-- those of further branches
abbrev pub branches_by : Executing → Branches → List Fault
branches_by x bs = branches_executable (meant_by x) (names_of x) x.first bs

-- those of an expression
abbrev pub expression_by : Executing → RawTree → List Fault
expression_by x e = expression_faults (meant_by x) (names_of x) e

-- those of a condition
abbrev pub condition_by : Executing → RawTree → List Fault
condition_by x p = condition_faults (meant_by x) (names_of x) p

-- what stands in a list of one
abbrev pub only : {A : Type 0} → List A → Option A
only (x ∷ []) = Some x
only _ = None

-- D and E of D * {E}
abbrev pub fill_sides : RawTree → Option (RawTree × RawTree)
fill_sides (raw at (raw_infix Times d (raw there (raw_extension (tree_and e no_trees))))) = Some (d, e)
fill_sides _ = None

-- what is told of a formula that is no B0: what is told of its inside, or the formula
abbrev pub whole_told : ℕ → Option Fault → Option Fault
whole_told at None = Some (not_b0 at)
whole_told at (Some f) = Some f
