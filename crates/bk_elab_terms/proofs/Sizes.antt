-- The parts of a written term are smaller than the term.
use Rattle.std.proofs.Common.{◌≡◌, ◌+◌, ◌<◌, ◌≤◌, ◌-◌, ℕ, zero, suc, List, [], ◌∷◌, length, get_or, take, drop, arith}
use Rattle.std.proofs.lemmas.List.{take_rest}
use Rattle.std.specs.Borrow.{Bor}
use Rattle.std.specs.Prelude.{Option, None, Some}
use Rattle.bk_raw.specs.Trees.RawTree.{RawTree, raw, RawTreeNode, raw_name, tree_size, node_size, trees_size, ranges_size, trees_of}
use Rattle.bk_raw.specs.Codes.RawView.{ranges_of}
use Rattle.bk_raw.specs.declared.term.RawRange.{RawRange}

node_pos : (n : RawTreeNode) → 0 < node_size n
node_pos (raw_name x) = omega arith
node_pos _ = omega arith

-- each term has a node
pub tree_pos : (t : RawTree) → 0 < tree_size t
tree_pos (raw at n) = node_pos n

-- a term of a list has no more nodes than the list
pub tree_at : (ts : List RawTree) (i : ℕ) (d : RawTree) → i < length ts → tree_size (get_or ts i d) ≤ trees_size (trees_of ts)
tree_at [] i d h = absurd (omega arith)
tree_at (t ∷ ts) zero d h = omega arith
tree_at (t ∷ ts) (suc i) d h = let rest : tree_size (get_or ts i d) ≤ trees_size (trees_of ts) = tree_at ts i d (omega arith) in omega arith

-- without its first term a list has fewer nodes
pub rest_size : (ts : List RawTree) → 1 ≤ length ts → trees_size (trees_of (take (length ts - 1) (drop 1 ts))) < trees_size (trees_of ts)
rest_size [] h = absurd (omega arith)
rest_size (t ∷ ts) h = rw take_rest (omega (arith, tree_pos t))

-- a range of a list has no more nodes than the list
pub range_at : (rs : List RawRange) (i : ℕ) (d : RawRange) → i < length rs → tree_size (get_or rs i d).range ≤ ranges_size (ranges_of rs)
range_at [] i d h = absurd (omega arith)
range_at (r ∷ rs) zero d h = omega arith
range_at (r ∷ rs) (suc i) d h = let rest : tree_size (get_or rs i d).range ≤ ranges_size (ranges_of rs) = range_at rs i d (omega arith) in omega arith

-- how many nodes a term has, where there is one
abbrev pub option_size : Option (Bor RawTree) → ℕ
option_size None = 0
option_size (Some t) = tree_size t.now

pub ruleset parts_are_smaller = (tree_pos, tree_at, rest_size, range_at)
