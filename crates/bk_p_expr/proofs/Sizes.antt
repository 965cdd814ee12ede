-- The parts of a written term are smaller than the term.
use Rattle.std.proofs.Common.{◌<◌, ◌≤◌, ℕ, zero, suc, List, [], ◌∷◌, length, get_or, arith}
use Rattle.bk_raw.specs.Trees.RawTree.{RawTree, raw, RawTreeNode, raw_name, tree_size, node_size, trees_size, ranges_size, trees_of}
use Rattle.bk_raw.specs.Codes.RawView.{ranges_of}
use Rattle.bk_raw.specs.declared.term.RawRange.{RawRange}

node_pos : (n : RawTreeNode) → 0 < node_size n
node_pos (raw_name x) = omega arith
node_pos _ = omega arith

-- each term has a node
pub tree_pos : (t : RawTree) → 0 < tree_size t
tree_pos (raw at n) = node_pos n

-- a term of a list has no more nodes than the list
pub tree_at : (ts : List RawTree) (i : ℕ) (d : RawTree) → i < length ts → tree_size (get_or ts i d) ≤ trees_size (trees_of ts)
tree_at [] i d h = absurd (omega arith)
tree_at (t ∷ ts) zero d h = omega arith
tree_at (t ∷ ts) (suc i) d h = let rest : tree_size (get_or ts i d) ≤ trees_size (trees_of ts) = tree_at ts i d (omega arith) in omega arith

-- a range of a list has no more nodes than the list
pub range_at : (rs : List RawRange) (i : ℕ) (d : RawRange) → i < length rs → tree_size (get_or rs i d).range ≤ ranges_size (ranges_of rs)
range_at [] i d h = absurd (omega arith)
range_at (r ∷ rs) zero d h = omega arith
range_at (r ∷ rs) (suc i) d h = let rest : tree_size (get_or rs i d).range ≤ ranges_size (ranges_of rs) = range_at rs i d (omega arith) in omega arith

pub ruleset parts_are_smaller = (tree_pos, tree_at, range_at)
