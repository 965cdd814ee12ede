-- The parts of a raw term are smaller than the term.
use Rattle.std.specs.Prelude.{ℕ, ◌+◌, ◌≤◌, max, List, [], ◌∷◌}
use Rattle.std.proofs.Common.{arith}
use denote.Param.Weighed.{most}
use Rattle.bk_raw.specs.Trees.RawTree.{RawTree, tree_size, trees_size, ranges_size, trees_of}
use Rattle.bk_raw.specs.Codes.RawView.{tree_of, ranges_of}
use Rattle.bk_raw.specs.declared.term.RawRange.{RawRange}
use Rattle.bk_raw.specs.declared.term.RawNode.{RawNode}
use Rattle.bk_raw.specs.declared.term.RawNode.TheVariants.{Extension, RangedComprehension, RangedLambda}
use Rattle.bk_raw.specs.declared.term.RawTerm.TheDeep.{deep-RawNode, deep-RawRange}

-- the largest of these terms is no larger than all of them
most_le-trees_size : (ts : List RawTree) → most (λ t. tree_size t + 1) ts ≤ trees_size (trees_of ts) + 1
most_le-trees_size [] = omega arith
most_le-trees_size (t ∷ ts) = omega (arith, most_le-trees_size ts)

-- the largest of these ranges is no larger than all of them
most_le-ranges_size : (rs : List RawRange) → most deep-RawRange rs ≤ ranges_size (ranges_of rs) + 1
most_le-ranges_size [] = omega arith
most_le-ranges_size (r ∷ rs) = omega (arith, most_le-ranges_size rs)

-- what a node is made of is smaller than the term
pub node_falls : (at : ℕ) (n : RawNode) → max (deep-RawNode n) 0 ≤ tree_size (tree_of at n)
node_falls at (Extension ts) = omega (arith, most_le-trees_size ts.items)
node_falls at (RangedComprehension rs p) = omega (arith, most_le-ranges_size rs.items)
node_falls at (RangedLambda rs p e) = omega (arith, most_le-ranges_size rs.items)
node_falls at _ = omega arith
