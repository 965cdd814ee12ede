use Rattle.std.proofs.Common.{◌++◌, ◌∙◌, refl, ℕ, ◌<◌}
use Rattle.bk_limits.specs.declared.TheConstants.{GREATEST_TREE_HEIGHT}
use Rattle.bk_raw.specs.Trees.RawTree.{raw, raw_ranged_lambda, RawRanges, RawTree, tree_height}
use Rattle.bk_p_expr.proofs.Choices.{ok_so}
use Rattle.bk_p_expr.specs.Pieces.{IsPiece, IsRanges}
use Rattle.bk_p_expr.proofs.piece.Ranges.lambda_too_high.Goals as goal

pub returns : goal.returns
returns c = ok_so _ _ c.too_high.ensures (λ r. (at : ℕ) (ranges : RawRanges) (p e : RawTree) → GREATEST_TREE_HEIGHT < tree_height (raw at (raw_ranged_lambda ranges p e)) → IsRanges ranges c.args.self → IsPiece p c.args.body → IsPiece e c.args.value → IsPiece (raw at (raw_ranged_lambda ranges p e)) r) (λ r f. λ at ranges p e l a h k. f (raw at (raw_ranged_lambda ranges p e)) l refl refl (c.in_ok-free.ensures ∙ (λ i. (c.in_ok-bound.ensures ∙ (λ j. c.in_ok-one.ensures ranges a j ++ c.in_ok-other.ensures p h j)) i ++ c.in_ok-third.ensures e k i)))
