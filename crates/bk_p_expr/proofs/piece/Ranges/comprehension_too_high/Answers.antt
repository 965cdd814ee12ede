use Rattle.std.proofs.Common.{◌++◌, ◌∙◌, refl, ℕ, ◌<◌}
use Rattle.bk_limits.specs.declared.TheConstants.{GREATEST_TREE_HEIGHT}
use Rattle.bk_raw.specs.Trees.RawTree.{raw, raw_ranged_comprehension, RawRanges, RawTree, tree_height}
use Rattle.bk_p_expr.proofs.Choices.{ok_so}
use Rattle.bk_p_expr.specs.Pieces.{IsPiece, IsRanges}
use Rattle.bk_p_expr.proofs.piece.Ranges.comprehension_too_high.Goals as goal

pub returns : goal.returns
returns c = ok_so _ _ c.too_high.ensures (λ r. (at : ℕ) (ranges : RawRanges) (p : RawTree) → GREATEST_TREE_HEIGHT < tree_height (raw at (raw_ranged_comprehension ranges p)) → IsRanges ranges c.args.self → IsPiece p c.args.body → IsPiece (raw at (raw_ranged_comprehension ranges p)) r) (λ r f. λ at ranges p l a h. f (raw at (raw_ranged_comprehension ranges p)) l refl refl (c.in_ok-free.ensures ∙ (λ i. c.in_ok-one.ensures ranges a i ++ c.in_ok-other.ensures p h i)))
