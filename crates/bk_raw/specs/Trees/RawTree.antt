-- Terms of the B notation as they are written, as mathematical trees.
-- Source: B Language Reference Manual.
use Rattle.std.specs.Prelude.{ℕ, ℤ, ◌+◌, max, List, [], ◌∷◌}
use Rattle.bk_raw.specs.Trees.WrittenType.{WrittenType}
use Rattle.bk_raw.specs.declared.operator.InfixOp.{InfixOp}
use Rattle.bk_raw.specs.declared.operator.WordOp.{WordOp}
use Rattle.bk_raw.specs.declared.operator.Constant.{Constant}
use Rattle.bk_raw.specs.declared.term.RawName.{RawName}
use Rattle.bk_raw.specs.declared.term.RawBound.{RawBound}

mutual
  -- a term, and the byte of the text where its first token starts
  pub data RawTree : Type 0 where
    raw : ℕ → RawTreeNode → RawTree

  -- what a term is
  pub data RawTreeNode : Type 0 where
    raw_name : List ℕ → RawTreeNode
    -- x$n
    raw_level_name : List ℕ → ℕ → RawTreeNode
    -- $n
    raw_bound_name : ℕ → RawTreeNode
    raw_number : ℤ → RawTreeNode
    raw_constant : Constant → RawTreeNode
    -- a word before one term in parentheses
    raw_word : WordOp → RawTree → RawTreeNode
    -- -a
    raw_negative : RawTree → RawTreeNode
    raw_infix : InfixOp → RawTree → RawTree → RawTreeNode
    -- r~
    raw_inverse : RawTree → RawTreeNode
    -- r[s]
    raw_image : RawTree → RawTree → RawTreeNode
    -- f(x)
    raw_apply : RawTree → RawTree → RawTreeNode
    -- (r ; s)
    raw_composition : RawTree → RawTree → RawTreeNode
    -- (a, b)
    raw_pair : RawTree → RawTree → RawTreeNode
    -- {}
    raw_empty_set : RawTreeNode
    -- {a, b, c}
    raw_extension : RawTrees → RawTreeNode
    -- {x, y | p}
    raw_comprehension : List RawName → RawTree → RawTreeNode
    -- %(x, y).(p | e)
    raw_lambda : List RawName → RawTree → RawTree → RawTreeNode
    -- !(x, y).(p)
    raw_for_all : List RawName → RawTree → RawTreeNode
    -- #(x, y).(p)
    raw_exists : List RawName → RawTree → RawTreeNode
    -- {:T}
    raw_typed_empty : WrittenType → RawTreeNode
    -- !($1:T,$2:U).(p)
    raw_typed_for_all : List RawBound → RawTree → RawTreeNode
    -- #($1:T,$2:U).(p)
    raw_typed_exists : List RawBound → RawTree → RawTreeNode
    -- {$1:d,$2:e | p}
    raw_ranged_comprehension : RawRanges → RawTree → RawTreeNode
    -- %($1:d,$2:e).(p | e)
    raw_ranged_lambda : RawRanges → RawTree → RawTree → RawTreeNode

  -- a list of terms
  pub data RawTrees : Type 0 where
    no_trees : RawTrees
    tree_and : RawTree → RawTrees → RawTrees

  -- bound variables: where each stands, its number and the set that it ranges over
  pub data RawRanges : Type 0 where
    no_ranges : RawRanges
    range_and : ℕ → ℕ → RawTree → RawRanges → RawRanges

-- how many nodes lie on a term's longest way down; a leaf has 1
abbrev mutual
  pub tree_height : RawTree → ℕ
  tree_height (raw at node) = node_height node

  pub node_height : RawTreeNode → ℕ
  node_height (raw_name text) = 1
  node_height (raw_level_name text n) = 1
  node_height (raw_bound_name n) = 1
  node_height (raw_number z) = 1
  node_height (raw_constant c) = 1
  node_height (raw_word o a) = tree_height a + 1
  node_height (raw_negative a) = tree_height a + 1
  node_height (raw_infix o a b) = max (tree_height a) (tree_height b) + 1
  node_height (raw_inverse r) = tree_height r + 1
  node_height (raw_image r s) = max (tree_height r) (tree_height s) + 1
  node_height (raw_apply f x) = max (tree_height f) (tree_height x) + 1
  node_height (raw_composition r s) = max (tree_height r) (tree_height s) + 1
  node_height (raw_pair a b) = max (tree_height a) (tree_height b) + 1
  node_height raw_empty_set = 1
  node_height (raw_extension ts) = trees_height ts + 1
  node_height (raw_comprehension xs p) = tree_height p + 1
  node_height (raw_lambda xs p e) = max (tree_height p) (tree_height e) + 1
  node_height (raw_for_all xs p) = tree_height p + 1
  node_height (raw_exists xs p) = tree_height p + 1
  node_height (raw_typed_empty t) = 1
  node_height (raw_typed_for_all bs p) = tree_height p + 1
  node_height (raw_typed_exists bs p) = tree_height p + 1
  node_height (raw_ranged_comprehension rs p) = max (ranges_height rs) (tree_height p) + 1
  node_height (raw_ranged_lambda rs p e) = max (ranges_height rs) (max (tree_height p) (tree_height e)) + 1

  pub trees_height : RawTrees → ℕ
  trees_height no_trees = 0
  trees_height (tree_and t ts) = max (tree_height t) (trees_height ts)

  pub ranges_height : RawRanges → ℕ
  ranges_height no_ranges = 0
  ranges_height (range_and at n d rs) = max (tree_height d) (ranges_height rs)

-- how many nodes it has
abbrev mutual
  pub tree_size : RawTree → ℕ
  tree_size (raw at node) = node_size node

  pub node_size : RawTreeNode → ℕ
  node_size (raw_name text) = 1
  node_size (raw_level_name text n) = 1
  node_size (raw_bound_name n) = 1
  node_size (raw_number z) = 1
  node_size (raw_constant c) = 1
  node_size (raw_word o a) = tree_size a + 1
  node_size (raw_negative a) = tree_size a + 1
  node_size (raw_infix o a b) = tree_size a + tree_size b + 1
  node_size (raw_inverse r) = tree_size r + 1
  node_size (raw_image r s) = tree_size r + tree_size s + 1
  node_size (raw_apply f x) = tree_size f + tree_size x + 1
  node_size (raw_composition r s) = tree_size r + tree_size s + 1
  node_size (raw_pair a b) = tree_size a + tree_size b + 1
  node_size raw_empty_set = 1
  node_size (raw_extension ts) = trees_size ts + 1
  node_size (raw_comprehension xs p) = tree_size p + 1
  node_size (raw_lambda xs p e) = tree_size p + tree_size e + 1
  node_size (raw_for_all xs p) = tree_size p + 1
  node_size (raw_exists xs p) = tree_size p + 1
  node_size (raw_typed_empty t) = 1
  node_size (raw_typed_for_all bs p) = tree_size p + 1
  node_size (raw_typed_exists bs p) = tree_size p + 1
  node_size (raw_ranged_comprehension rs p) = ranges_size rs + tree_size p + 1
  node_size (raw_ranged_lambda rs p e) = ranges_size rs + tree_size p + tree_size e + 1

  pub trees_size : RawTrees → ℕ
  trees_size no_trees = 0
  trees_size (tree_and t ts) = tree_size t + trees_size ts

  pub ranges_size : RawRanges → ℕ
  ranges_size no_ranges = 0
  ranges_size (range_and at n d rs) = tree_size d + ranges_size rs

-- these terms, one after another
abbrev pub trees_of : List RawTree → RawTrees
trees_of [] = no_trees
trees_of (t ∷ ts) = tree_and t (trees_of ts)
