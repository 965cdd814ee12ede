-- The mathematical tree that a raw term stands for.
use Rattle.std.specs.Prelude.{ℕ, List, [], ◌∷◌}
use Rattle.bk_raw.specs.Trees.RawTree.{RawTree, raw, RawTreeNode, raw_name, raw_level_name, raw_bound_name, raw_number}
use Rattle.bk_raw.specs.Trees.RawTree.{raw_constant, raw_word, raw_negative, raw_infix, raw_inverse, raw_image, raw_apply}
use Rattle.bk_raw.specs.Trees.RawTree.{raw_composition, raw_pair, raw_empty_set, raw_extension, raw_comprehension, raw_lambda}
use Rattle.bk_raw.specs.Trees.RawTree.{raw_for_all, raw_exists, raw_typed_empty, raw_typed_for_all, raw_typed_exists}
use Rattle.bk_raw.specs.Trees.RawTree.{raw_ranged_comprehension, raw_ranged_lambda, RawRanges, no_ranges, range_and, trees_of}
use Rattle.bk_raw.specs.declared.term.RawRange.{RawRange}
use Rattle.bk_raw.specs.declared.term.RawNode.{RawNode}
use Rattle.bk_raw.specs.declared.term.RawNode.TheVariants.{Name, LevelName, BoundName, Number, Constant, Word, Negative}
use Rattle.bk_raw.specs.declared.term.RawNode.TheVariants.{Infix, Inverse, Image, Apply, Composition, Pair, EmptySet}
use Rattle.bk_raw.specs.declared.term.RawNode.TheVariants.{Extension, Comprehension, Lambda, ForAll, Exists, TypedEmpty}
use Rattle.bk_raw.specs.declared.term.RawNode.TheVariants.{TypedForAll, TypedExists, RangedComprehension, RangedLambda}

-- these bound variables, one after another
abbrev pub ranges_of : List RawRange → RawRanges
ranges_of [] = no_ranges
ranges_of (r ∷ rs) = range_and r.at r.number r.range (ranges_of rs)

-- the mathematical node that a node stands for
abbrev pub node_of : RawNode → RawTreeNode
node_of (Name text) = raw_name text
node_of (LevelName text n) = raw_level_name text n
node_of (BoundName n) = raw_bound_name n
node_of (Number z) = raw_number z
node_of (Constant c) = raw_constant c
node_of (Word o a) = raw_word o a.value
node_of (Negative a) = raw_negative a.value
node_of (Infix o a b) = raw_infix o a.value b.value
node_of (Inverse r) = raw_inverse r.value
node_of (Image r s) = raw_image r.value s.value
node_of (Apply f x) = raw_apply f.value x.value
node_of (Composition r s) = raw_composition r.value s.value
node_of (Pair a b) = raw_pair a.value b.value
node_of EmptySet = raw_empty_set
node_of (Extension ts) = raw_extension (trees_of ts.items)
node_of (Comprehension xs p) = raw_comprehension xs.items p.value
node_of (Lambda xs p e) = raw_lambda xs.items p.value e.value
node_of (ForAll xs p) = raw_for_all xs.items p.value
node_of (Exists xs p) = raw_exists xs.items p.value
node_of (TypedEmpty t) = raw_typed_empty t
node_of (TypedForAll bs p) = raw_typed_for_all bs.items p.value
node_of (TypedExists bs p) = raw_typed_exists bs.items p.value
node_of (RangedComprehension rs p) = raw_ranged_comprehension (ranges_of rs.items) p.value
node_of (RangedLambda rs p e) = raw_ranged_lambda (ranges_of rs.items) p.value e.value

-- and with the byte where it starts, the term
abbrev pub tree_of : ℕ → RawNode → RawTree
tree_of at node = raw at (node_of node)
