-- Wrong operations: where substitutions may stand, headers that differ from the machine's, and a missing initialisation.
-- Source: B Language Reference Manual; the places are this project's.
use Rattle.std.specs.Prelude.{ℕ, suc, Bool, true, false, cond, not, ◌&&◌, List, [], ◌∷◌, ◌++◌, Option, None, Some}
use Rattle.std.specs.Str.{bytes_eq}
use Rattle.bk_dev.specs.declared.kind.Kind.{Kind}
use Rattle.bk_dev.specs.declared.kind.Kind.TheVariants.{Machine}
use Rattle.bk_dev.specs.Development.{Head, Development, is_implementing}
use Rattle.bk_raw.specs.declared.term.RawName.{RawName}
use Rattle.bk_raw.specs.Trees.ComponentTree.{RawOperation}
use Rattle.bk_raw.specs.Trees.SubTree.{SubTree, sub, SubNode, sub_skip, sub_assign, sub_assign_at, sub_member, sub_such, sub_begin, sub_pre}
use Rattle.bk_raw.specs.Trees.SubTree.{sub_assert, sub_if, sub_choice, sub_select, sub_any, sub_let, sub_var, sub_while, sub_parallel}
use Rattle.bk_raw.specs.Trees.SubTree.{sub_sequence, sub_call, Branches, no_branches, else_branch, branch_and}
use Rattle.bk_raw.specs.Trees.SubTree.{Choices, no_choices, choice_and}
use Rattle.bk_raw.specs.Meaning.Binders.{is_text}
use Rattle.bk_raw.specs.Errors.Faults.{Fault, wrong_operation}
use Rattle.bk_statics.specs.Components.{Component, first_token, operation_names, is_machine, initialisation}
use Rattle.bk_statics.specs.Binders.{texts}
use Rattle.bk_statics.specs.Above.{inputs_named, outputs_named}
use Rattle.bk_statics.specs.Plan.{Declared, is_headed, Plan}
use Rattle.bk_statics.specs.NameFaults.{named_texts}

-- a fault, unless the test holds
abbrev pub unless : Bool → ℕ → List Fault
unless true at = []
unless false at = wrong_operation at ∷ []

-- ---- what may stand where
-- whether a component of this kind may have ; and VAR: any but the machine
abbrev pub may_sequence : Kind → Bool
may_sequence Machine = false
may_sequence _ = true

abbrev mutual
  -- ; and VAR do not stand in machines, WHILE stands in implementations alone, and none of the three stands inside ||. A call stands
  -- nowhere yet
  pub shape_faults : Kind → Bool → SubTree → List Fault
  shape_faults kind inside (sub at node) = shape_in kind inside at node

  pub shape_in : Kind → Bool → ℕ → SubNode → List Fault
  shape_in kind inside at sub_skip = []
  shape_in kind inside at (sub_call xs o ts) = unless false at
  shape_in kind inside at (sub_assign xs es) = []
  shape_in kind inside at (sub_assign_at f e v) = []
  shape_in kind inside at (sub_member x e) = []
  shape_in kind inside at (sub_such xs p) = []
  shape_in kind inside at (sub_begin s) = shape_faults kind inside s
  shape_in kind inside at (sub_pre p s) = shape_faults kind inside s
  shape_in kind inside at (sub_assert p s) = shape_faults kind inside s
  shape_in kind inside at (sub_if p s bs) = shape_faults kind inside s ++ branches_shape kind inside bs
  shape_in kind inside at (sub_choice s cs) = shape_faults kind inside s ++ choices_shape kind inside cs
  shape_in kind inside at (sub_select p s bs) = shape_faults kind inside s ++ branches_shape kind inside bs
  shape_in kind inside at (sub_any xs p s) = shape_faults kind inside s
  shape_in kind inside at (sub_let xs p s) = shape_faults kind inside s
  shape_in kind inside at (sub_var xs s) = unless (may_sequence kind && not inside) at ++ shape_faults kind inside s
  shape_in kind inside at (sub_while p s i v) = unless (is_implementing kind && not inside) at ++ shape_faults kind inside s
  shape_in kind inside at (sub_parallel s t) = shape_faults kind true s ++ shape_faults kind true t
  shape_in kind inside at (sub_sequence s t) =
      unless (may_sequence kind && not inside) at ++ (shape_faults kind inside s ++ shape_faults kind inside t)

  pub branches_shape : Kind → Bool → Branches → List Fault
  branches_shape kind inside no_branches = []
  branches_shape kind inside (else_branch s) = shape_faults kind inside s
  branches_shape kind inside (branch_and p s bs) = shape_faults kind inside s ++ branches_shape kind inside bs

  pub choices_shape : Kind → Bool → Choices → List Fault
  choices_shape kind inside no_choices = []
  choices_shape kind inside (choice_and s cs) = shape_faults kind inside s ++ choices_shape kind inside cs

-- those of the bodies
abbrev pub bodies_shape : Kind → List RawOperation → List Fault
bodies_shape kind [] = []
bodies_shape kind (o ∷ os) = shape_faults kind false o.body ++ bodies_shape kind os

-- ---- headers
-- whether two lists of names are the same
abbrev pub same_texts : List (List ℕ) → List (List ℕ) → Bool
same_texts [] [] = true
same_texts (x ∷ xs) (y ∷ ys) = bytes_eq x y && same_texts xs ys
same_texts _ _ = false

-- whether the machine's operation o, which has this header, has the inputs and outputs of the operation, in the same order
abbrev pub is_same_header : Development → ℕ → Head → RawOperation → Bool
is_same_header dev o h r = same_texts (named_texts (inputs_named dev.table h.inputs)) (texts r.inputs)
    && same_texts (named_texts (outputs_named dev o)) (texts r.outputs)

-- whether each of these headers that has the operation's name has its inputs and outputs, the machine's operations being those from o on
abbrev pub heads_as : Development → ℕ → List Head → RawOperation → Bool
heads_as dev o [] r = true
heads_as dev o (h ∷ hs) r = cond (bytes_eq h.name r.name.text) (is_same_header dev o h r) true && heads_as dev (suc o) hs r

-- the operations that the machine lacks, or heads otherwise, each at its first token
abbrev pub header_faults : Development → List RawOperation → List Fault
header_faults dev [] = []
header_faults dev (o ∷ os) = unless (is_headed dev.heads o.name.text && heads_as dev 0 dev.heads o) (first_token o) ++ header_faults dev os

-- the machine's operations that are missing, at the component
abbrev pub missing_faults : ℕ → List (List ℕ) → List Head → List Fault
missing_faults at names [] = []
missing_faults at names (h ∷ hs) = unless (is_text names h.name) at ++ missing_faults at names hs

-- headers are the same at every level, and every operation stands at every level
abbrev pub lower_faults : Bool → Development → Component → List Fault
lower_faults true dev c = []
lower_faults false dev c = header_faults dev c.operations ++ missing_faults c.at (texts (operation_names c.operations)) dev.heads

-- ---- all
-- no initialisation where variables stand
abbrev pub missing_init : ℕ → Option SubTree → List Declared → List Fault
missing_init at None (d ∷ ds) = wrong_operation at ∷ []
missing_init at _ _ = []

-- those of a component
abbrev pub operation_faults : Development → Component → Plan → List Fault
operation_faults dev c p =
    missing_init c.at c.init p.variables
    ++ (shape_faults c.kind false (initialisation c)
    ++ (bodies_shape c.kind c.operations ++ lower_faults (is_machine c.kind) dev c))
