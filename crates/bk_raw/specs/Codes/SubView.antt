-- The mathematical substitution that a raw substitution stands for.
use Rattle.std.specs.Prelude.{ℕ, List, [], ◌∷◌, Some, None}
use Rattle.bk_raw.specs.Trees.RawTree.{trees_of}
use Rattle.bk_raw.specs.Trees.SubTree.{SubTree, sub, SubNode, sub_skip, sub_assign, sub_assign_at, sub_member, sub_such, sub_call}
use Rattle.bk_raw.specs.Trees.SubTree.{sub_begin, sub_pre, sub_assert, sub_if, sub_choice, sub_select, sub_any, sub_let, sub_var, sub_while}
use Rattle.bk_raw.specs.Trees.SubTree.{sub_parallel, sub_sequence, Branches, no_branches, else_branch, branch_and}
use Rattle.bk_raw.specs.Trees.SubTree.{Choices, no_choices, choice_and}
use Rattle.bk_raw.specs.declared.substitution.RawBranch.{RawBranch}
use Rattle.bk_raw.specs.declared.substitution.RawSubNode.{RawSubNode}
use Rattle.bk_raw.specs.declared.substitution.RawSubNode.TheVariants.{Skip, Assign, AssignAt, BecomesMember, BecomesSuch, Call}
use Rattle.bk_raw.specs.declared.substitution.RawSubNode.TheVariants.{Begin, Pre, Assert, If, Choice, Select, Any, Let, Var, While, Parallel, Sequence}

-- these branches, and then the last ones
abbrev pub branches_of : List RawBranch → Branches → Branches
branches_of [] last = last
branches_of (b ∷ bs) last = branch_and b.condition b.body (branches_of bs last)

-- these choices, one after another
abbrev pub choices_of : List SubTree → Choices
choices_of [] = no_choices
choices_of (s ∷ ss) = choice_and s (choices_of ss)

-- the mathematical node that a node stands for
abbrev pub sub_node_of : RawSubNode → SubNode
sub_node_of Skip = sub_skip
sub_node_of (Assign xs ts) = sub_assign xs.items (trees_of ts.items)
sub_node_of (AssignAt f x e) = sub_assign_at f x e
sub_node_of (BecomesMember x e) = sub_member x e
sub_node_of (BecomesSuch xs p) = sub_such xs.items p
sub_node_of (Call xs o ts) = sub_call xs.items o (trees_of ts.items)
sub_node_of (Begin s) = sub_begin s.value
sub_node_of (Pre p s) = sub_pre p s.value
sub_node_of (Assert p s) = sub_assert p s.value
sub_node_of (If p s bs None) = sub_if p s.value (branches_of bs.items no_branches)
sub_node_of (If p s bs (Some e)) = sub_if p s.value (branches_of bs.items (else_branch e.value))
sub_node_of (Choice s ss) = sub_choice s.value (choices_of ss.items)
sub_node_of (Select p s bs None) = sub_select p s.value (branches_of bs.items no_branches)
sub_node_of (Select p s bs (Some e)) = sub_select p s.value (branches_of bs.items (else_branch e.value))
sub_node_of (Any xs p s) = sub_any xs.items p s.value
sub_node_of (Let xs p s) = sub_let xs.items p s.value
sub_node_of (Var xs s) = sub_var xs.items s.value
sub_node_of (While p s i v) = sub_while p s.value i v
sub_node_of (Parallel s t) = sub_parallel s.value t.value
sub_node_of (Sequence s t) = sub_sequence s.value t.value

-- and with the byte where it starts, the substitution
abbrev pub sub_of : ℕ → RawSubNode → SubTree
sub_of at node = sub at (sub_node_of node)
