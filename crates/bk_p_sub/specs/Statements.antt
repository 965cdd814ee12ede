-- Substitutions on the way to being built, with their heights.
use Rattle.std.specs.Prelude.{◌≡◌, ℕ, ◌<◌, ◌≤◌, None, Some}
use Rattle.bk_limits.specs.declared.TheConstants.{GREATEST_TREE_HEIGHT}
use Rattle.bk_ops.specs.declared.word.TheConstants.{ELSIF, WHEN}
use Rattle.bk_raw.specs.Trees.FreeNames.{conjuncts}
use Rattle.bk_raw.specs.Trees.RawTree.{RawTree, tree_height}
use Rattle.bk_raw.specs.Trees.SubTree.{SubTree, SubNode, sub_begin, sub_pre, sub_assert, sub_any, sub_let, sub_var, sub_if}
use Rattle.bk_raw.specs.Trees.SubTree.{sub_select, sub_parallel, sub_sequence, sub_height, branches_height, choices_height}
use Rattle.bk_raw.specs.Trees.SubTree.{Branches, no_branches, else_branch, branch_and, Choices, no_choices, choice_and}
use Rattle.bk_raw.specs.Codes.SubView.{branches_of, choices_of}
use Rattle.bk_p_expr.specs.Conjuncts.{AreConjuncts}
use Rattle.bk_p_sub.specs.declared.statement.Statement.{Statement}
use Rattle.bk_p_sub.specs.declared.statement.Statement.TheVariants.{Built, High}
use Rattle.bk_p_sub.specs.declared.statement.Around.{Around}
use Rattle.bk_p_sub.specs.declared.statement.Around.TheVariants.{Begin, Var, Under}
use Rattle.bk_p_sub.specs.declared.statement.Head.{Head}
use Rattle.bk_p_sub.specs.declared.statement.Head.TheVariants.{Pre, Assert, Any, Let}
use Rattle.bk_p_sub.specs.declared.statement.Joint.{Joint}
use Rattle.bk_p_sub.specs.declared.statement.Joint.TheVariants.{Parallel, Sequence}
use Rattle.bk_p_sub.specs.declared.statement.Test.{Test}
use Rattle.bk_p_sub.specs.declared.statement.Test.TheVariants.{If, Select}
use Rattle.bk_p_sub.specs.declared.term.Term.{Term}
use Rattle.bk_p_sub.specs.declared.term.Term.TheVariants.{Built as BuiltTerm, High as HighTerm}
use Rattle.bk_p_sub.specs.declared.branches.Branches.{Branches as BuiltOnes}
use Rattle.bk_p_sub.specs.declared.branches.Branches.TheVariants.{Built as BuiltBranches, High as HighBranches}
use Rattle.bk_p_sub.specs.declared.branches.Choices.{Choices as BuiltOthers}
use Rattle.bk_p_sub.specs.declared.branches.Choices.TheVariants.{Built as BuiltChoices, High as HighChoices}

-- it is the statement of this tree: the substitution itself with its height, or that the tree is more than GREATEST_TREE_HEIGHT high
abbrev pub IsStatement : SubTree → Statement → Type 0
IsStatement s (Built body height) = (body.value ≡ s) × (height ≡ sub_height s) × (height ≤ GREATEST_TREE_HEIGHT)
IsStatement s High = GREATEST_TREE_HEIGHT < sub_height s

-- it is the term of this tree: the term itself with its height, or, where the tree is more than GREATEST_TREE_HEIGHT high, its conjuncts
abbrev pub IsTerm : RawTree → Term → Type 0
IsTerm t (BuiltTerm term height) = (term.value ≡ t) × (height ≡ tree_height t) × (height ≤ GREATEST_TREE_HEIGHT)
IsTerm t (HighTerm known) = (GREATEST_TREE_HEIGHT < tree_height t) × AreConjuncts (conjuncts t) known.items

-- the same of further branches
abbrev pub IsBranches : Branches → BuiltOnes → Type 0
IsBranches bs (BuiltBranches all None height) = (branches_of all.items no_branches ≡ bs)
    × (height ≡ branches_height bs) × (height ≤ GREATEST_TREE_HEIGHT)
IsBranches bs (BuiltBranches all (Some last) height) =
    (branches_of all.items (else_branch last.value) ≡ bs) × (height ≡ branches_height bs) × (height ≤ GREATEST_TREE_HEIGHT)
IsBranches bs HighBranches = GREATEST_TREE_HEIGHT < branches_height bs

-- no ELSE stands among them
abbrev pub IsOpen : BuiltOnes → Type 0
IsOpen (BuiltBranches all last height) = last ≡ None
IsOpen HighBranches = Unit {0}

-- and of further choices
abbrev pub IsChoices : Choices → BuiltOthers → Type 0
IsChoices cs (BuiltChoices all height) = (choices_of all.items ≡ cs) × (height ≡ choices_height cs) × (height ≤ GREATEST_TREE_HEIGHT)
IsChoices cs HighChoices = GREATEST_TREE_HEIGHT < choices_height cs

-- the one branches and then the others
abbrev pub followed_by : Branches → Branches → Branches
followed_by no_branches cs = cs
followed_by (else_branch s) cs = else_branch s
followed_by (branch_and p s bs) cs = branch_and p s (followed_by bs cs)

-- one more branch at the end
abbrev pub and_branch : Branches → RawTree → SubTree → Branches
and_branch bs p s = followed_by bs (branch_and p s no_branches)

-- ELSE at the end
abbrev pub and_else : Branches → SubTree → Branches
and_else bs s = followed_by bs (else_branch s)

-- the one choices and then the others
abbrev pub chosen_then : Choices → Choices → Choices
chosen_then no_choices ds = ds
chosen_then (choice_and s cs) ds = choice_and s (chosen_then cs ds)

-- one more choice at the end
abbrev pub and_choice : Choices → SubTree → Choices
and_choice cs s = chosen_then cs (choice_and s no_choices)

-- what a block makes of its predicate and its substitution
abbrev pub head_node : Head → RawTree → SubTree → SubNode
head_node Pre = sub_pre
head_node Assert = sub_assert
head_node (Any xs) = sub_any xs.items
head_node (Let xs) = sub_let xs.items

-- what is built around a substitution
abbrev pub IsAround : (SubTree → SubNode) → Around → Type 0
IsAround form Begin = form ≡ sub_begin
IsAround form (Var xs) = form ≡ sub_var xs.items
IsAround form (Under head test) = (p : RawTree) × (form ≡ head_node head p) × IsTerm p test

-- what a sign makes of the substitutions beside it
abbrev pub joint_node : Joint → SubTree → SubTree → SubNode
joint_node Parallel = sub_parallel
joint_node Sequence = sub_sequence

-- what a test makes of its parts
abbrev pub tested_node : Test → RawTree → SubTree → Branches → SubNode
tested_node If = sub_if
tested_node Select = sub_select

-- the word before a further test
abbrev pub word_of : Test → ℕ
word_of If = ELSIF
word_of Select = WHEN
