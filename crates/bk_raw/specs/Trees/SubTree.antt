-- Substitutions of the B notation as they are written, as mathematical trees.
-- Source: B Language Reference Manual.
use Rattle.std.specs.Prelude.{ℕ, ◌+◌, max, List}
use Rattle.bk_raw.specs.Trees.RawTree.{RawTree, RawTrees, tree_height, trees_height}
use Rattle.bk_raw.specs.declared.term.RawName.{RawName}

mutual
  -- a substitution, and the byte of the text where its first token starts
  pub data SubTree : Type 0 where
    sub : ℕ → SubNode → SubTree

  -- what a substitution is
  pub data SubNode : Type 0 where
    sub_skip : SubNode
    -- x, y := e, f
    sub_assign : List RawName → RawTrees → SubNode
    -- f(x) := e
    sub_assign_at : RawName → RawTree → RawTree → SubNode
    -- x :: e
    sub_member : RawName → RawTree → SubNode
    -- x, y :( p )
    sub_such : List RawName → RawTree → SubNode
    -- x, y <-- op(e, f): the outputs, the operation that is called, and its arguments; a list may be empty
    sub_call : List RawName → RawName → RawTrees → SubNode
    -- BEGIN s END
    sub_begin : SubTree → SubNode
    -- PRE p THEN s END
    sub_pre : RawTree → SubTree → SubNode
    -- ASSERT p THEN s END
    sub_assert : RawTree → SubTree → SubNode
    -- IF p THEN s, and what stands before END
    sub_if : RawTree → SubTree → Branches → SubNode
    -- CHOICE s, and more of them, and END
    sub_choice : SubTree → Choices → SubNode
    -- SELECT p THEN s, and what stands before END
    sub_select : RawTree → SubTree → Branches → SubNode
    -- ANY x, y WHERE p THEN s END
    sub_any : List RawName → RawTree → SubTree → SubNode
    -- LET x, y BE p IN s END
    sub_let : List RawName → RawTree → SubTree → SubNode
    -- VAR x, y IN s END
    sub_var : List RawName → SubTree → SubNode
    -- WHILE p DO s INVARIANT i VARIANT v END
    sub_while : RawTree → SubTree → RawTree → RawTree → SubNode
    -- s || t
    sub_parallel : SubTree → SubTree → SubNode
    -- s ; t
    sub_sequence : SubTree → SubTree → SubNode

  -- more branches of IF or SELECT, the last perhaps an ELSE
  pub data Branches : Type 0 where
    no_branches : Branches
    -- ELSE s
    else_branch : SubTree → Branches
    -- ELSIF p THEN s, or WHEN p THEN s, and what follows
    branch_and : RawTree → SubTree → Branches → Branches

  -- more branches of CHOICE
  pub data Choices : Type 0 where
    no_choices : Choices
    -- OR s, and what follows
    choice_and : SubTree → Choices → Choices

-- how many nodes lie on a substitution's longest way down, its terms included; skip has 1. Further branches are parts of
-- their IF, SELECT or CHOICE
abbrev mutual
  pub sub_height : SubTree → ℕ
  sub_height (sub at node) = sub_node_height node

  pub sub_node_height : SubNode → ℕ
  sub_node_height sub_skip = 1
  sub_node_height (sub_assign xs ts) = trees_height ts + 1
  sub_node_height (sub_assign_at f x e) = max (tree_height x) (tree_height e) + 1
  sub_node_height (sub_member x e) = tree_height e + 1
  sub_node_height (sub_such xs p) = tree_height p + 1
  sub_node_height (sub_call xs o ts) = trees_height ts + 1
  sub_node_height (sub_begin s) = sub_height s + 1
  sub_node_height (sub_pre p s) = max (tree_height p) (sub_height s) + 1
  sub_node_height (sub_assert p s) = max (tree_height p) (sub_height s) + 1
  sub_node_height (sub_if p s bs) = max (max (tree_height p) (sub_height s)) (branches_height bs) + 1
  sub_node_height (sub_choice s cs) = max (sub_height s) (choices_height cs) + 1
  sub_node_height (sub_select p s bs) = max (max (tree_height p) (sub_height s)) (branches_height bs) + 1
  sub_node_height (sub_any xs p s) = max (tree_height p) (sub_height s) + 1
  sub_node_height (sub_let xs p s) = max (tree_height p) (sub_height s) + 1
  sub_node_height (sub_var xs s) = sub_height s + 1
  sub_node_height (sub_while p s i v) = max (max (tree_height p) (sub_height s)) (max (tree_height i) (tree_height v)) + 1
  sub_node_height (sub_parallel s t) = max (sub_height s) (sub_height t) + 1
  sub_node_height (sub_sequence s t) = max (sub_height s) (sub_height t) + 1

  pub branches_height : Branches → ℕ
  branches_height no_branches = 0
  branches_height (else_branch s) = sub_height s
  branches_height (branch_and p s bs) = max (max (tree_height p) (sub_height s)) (branches_height bs)

  pub choices_height : Choices → ℕ
  choices_height no_choices = 0
  choices_height (choice_and s cs) = max (sub_height s) (choices_height cs)

-- how many substitutions stand in it, itself included
abbrev mutual
  pub sub_size : SubTree → ℕ
  sub_size (sub at node) = sub_node_size node

  pub sub_node_size : SubNode → ℕ
  sub_node_size (sub_begin s) = sub_size s + 1
  sub_node_size (sub_pre p s) = sub_size s + 1
  sub_node_size (sub_assert p s) = sub_size s + 1
  sub_node_size (sub_if p s bs) = sub_size s + branches_size bs + 1
  sub_node_size (sub_choice s cs) = sub_size s + choices_size cs + 1
  sub_node_size (sub_select p s bs) = sub_size s + branches_size bs + 1
  sub_node_size (sub_any xs p s) = sub_size s + 1
  sub_node_size (sub_let xs p s) = sub_size s + 1
  sub_node_size (sub_var xs s) = sub_size s + 1
  sub_node_size (sub_while p s i v) = sub_size s + 1
  sub_node_size (sub_parallel s t) = sub_size s + sub_size t + 1
  sub_node_size (sub_sequence s t) = sub_size s + sub_size t + 1
  sub_node_size _ = 1

  pub branches_size : Branches → ℕ
  branches_size no_branches = 0
  branches_size (else_branch s) = sub_size s
  branches_size (branch_and p s bs) = sub_size s + branches_size bs

  pub choices_size : Choices → ℕ
  choices_size no_choices = 0
  choices_size (choice_and s cs) = sub_size s + choices_size cs
