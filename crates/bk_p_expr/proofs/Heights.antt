-- Heights of terms on the way to being built.
use Rattle.std.specs.Prelude.{◌≡◌, ℕ, ◌+◌, ◌<◌, max, Bool, true, false, List, [], ◌∷◌, ◌++◌, refl}
use Rattle.std.proofs.Common.{arith}
use Rattle.bk_limits.specs.declared.TheConstants.{GREATEST_TREE_HEIGHT}
use Rattle.bk_raw.specs.Trees.RawTree.{RawTree, RawTrees, no_trees, tree_and, RawRanges, no_ranges, range_and, node_height, tree_height, trees_height, ranges_height, trees_of}
use Rattle.bk_raw.specs.Codes.RawView.{ranges_of}
use Rattle.bk_raw.specs.declared.term.RawRange.{RawRange}
use Rattle.bk_p_expr.specs.Pieces.{IsPiece, IsTerms, IsRanges, and_tree, and_range, around_node, between_node}
use Rattle.bk_p_expr.specs.declared.piece.Piece.{Piece}
use Rattle.bk_p_expr.specs.declared.piece.Piece.TheVariants.{Built, High}
use Rattle.bk_p_expr.specs.declared.piece.Terms.{Terms}
use Rattle.bk_p_expr.specs.declared.piece.Terms.TheVariants.{Built as BuiltTerms, High as HighTerms}
use Rattle.bk_p_expr.specs.declared.piece.Ranges.{Ranges}
use Rattle.bk_p_expr.specs.declared.piece.Ranges.TheVariants.{Built as BuiltRanges, High as HighRanges}
use Rattle.bk_p_expr.specs.declared.piece.Around.{Around}
use Rattle.bk_p_expr.specs.declared.piece.Around.TheVariants.{Word, Negative, Inverse, Comprehension, ForAll, Exists, TypedForAll, TypedExists}
use Rattle.bk_p_expr.specs.declared.piece.Between.{Between}
use Rattle.bk_p_expr.specs.declared.piece.Between.TheVariants.{Infix, Image, Apply, Composition, Pair, Lambda}

pub between_height : (form : Between) (a b : RawTree) → node_height (between_node form a b) ≡ max (tree_height a) (tree_height b) + 1
between_height (Infix o) a b = refl
between_height Image a b = refl
between_height Apply a b = refl
between_height Composition a b = refl
between_height Pair a b = refl
between_height (Lambda xs) a b = refl

pub and_tree_height : (ts : RawTrees) (t : RawTree) → trees_height (and_tree ts t) ≡ max (trees_height ts) (tree_height t)
and_tree_height no_trees t = omega arith
and_tree_height (tree_and s ts) t = let h : trees_height (and_tree ts t) ≡ max (trees_height ts) (tree_height t) = and_tree_height ts t in omega (arith, h)

pub and_range_height : (rs : RawRanges) (at n : ℕ) (d : RawTree) → ranges_height (and_range rs at n d) ≡ max (ranges_height rs) (tree_height d)
and_range_height no_ranges at n d = omega arith
and_range_height (range_and bt m e rs) at n d = let h : ranges_height (and_range rs at n d) ≡ max (ranges_height rs) (tree_height d) = and_range_height rs at n d in omega (arith, h)

pub trees_of_last : (ts : List RawTree) (t : RawTree) → trees_of (ts ++ t ∷ []) ≡ and_tree (trees_of ts) t
trees_of_last [] t = refl
trees_of_last (s ∷ ts) t = λ i. tree_and s (trees_of_last ts t i)

pub ranges_of_last : (rs : List RawRange) (r : RawRange) → ranges_of (rs ++ r ∷ []) ≡ and_range (ranges_of rs) r.at r.number r.range
ranges_of_last [] r = refl
ranges_of_last (s ∷ rs) r = λ i. range_and s.at s.number s.range (ranges_of_last rs r i)

-- a list with one more, where one of both is too high
pub and_tree_high : (ts : RawTrees) (t : RawTree) → GREATEST_TREE_HEIGHT < trees_height ts → GREATEST_TREE_HEIGHT < trees_height (and_tree ts t)
and_tree_high ts t l = omega (arith, and_tree_height ts t, l)

pub and_high_tree : (ts : RawTrees) (t : RawTree) → GREATEST_TREE_HEIGHT < tree_height t → GREATEST_TREE_HEIGHT < trees_height (and_tree ts t)
and_high_tree ts t l = omega (arith, and_tree_height ts t, l)

pub and_range_high : (rs : RawRanges) (at n : ℕ) (d : RawTree) → GREATEST_TREE_HEIGHT < ranges_height rs → GREATEST_TREE_HEIGHT < ranges_height (and_range rs at n d)
and_range_high rs at n d l = omega (arith, and_range_height rs at n d, l)

pub and_high_range : (rs : RawRanges) (at n : ℕ) (d : RawTree) → GREATEST_TREE_HEIGHT < tree_height d → GREATEST_TREE_HEIGHT < ranges_height (and_range rs at n d)
and_high_range rs at n d l = omega (arith, and_range_height rs at n d, l)

-- ---- what is built, and what is too high
abbrev pub is_built : Piece → Bool
is_built (Built term height) = true
is_built (High known) = false

abbrev pub are_built : Terms → Bool
are_built (BuiltTerms terms height) = true
are_built (HighTerms free) = false

abbrev pub are_built_ranges : Ranges → Bool
are_built_ranges (BuiltRanges ranges height) = true
are_built_ranges (HighRanges free) = false

true_false : true ≡ false → ⊥
true_false e = cc

pub high_piece : (piece : Piece) (tree : RawTree) → is_built piece ≡ false → IsPiece tree piece → GREATEST_TREE_HEIGHT < tree_height tree
high_piece (Built term height) tree e h = absurd (true_false e)
high_piece (High known) tree e h = h.0

pub high_terms : (all : Terms) (trees : RawTrees) → are_built all ≡ false → IsTerms trees all → GREATEST_TREE_HEIGHT < trees_height trees
high_terms (BuiltTerms terms height) trees e h = absurd (true_false e)
high_terms (HighTerms free) trees e h = h.0

pub high_ranges : (all : Ranges) (ranges : RawRanges) → are_built_ranges all ≡ false → IsRanges ranges all → GREATEST_TREE_HEIGHT < ranges_height ranges
high_ranges (BuiltRanges all height) rs e h = absurd (true_false e)
high_ranges (HighRanges free) rs e h = h.0

-- a term around one is higher
pub around_height : (form : Around) (a : RawTree) → node_height (around_node form a) ≡ tree_height a + 1
around_height (Word o) a = refl
around_height Negative a = refl
around_height Inverse a = refl
around_height (Comprehension xs) a = refl
around_height (ForAll xs) a = refl
around_height (Exists xs) a = refl
around_height (TypedForAll bs) a = refl
around_height (TypedExists bs) a = refl
