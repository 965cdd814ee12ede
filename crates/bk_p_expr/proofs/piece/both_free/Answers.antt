use Rattle.std.proofs.Common.{◌++◌, ◌∙◌, ◌≡◌}
use Rattle.bk_p_expr.proofs.Choices.{ok_so}
use Rattle.bk_raw.specs.Trees.RawTree.{RawTree}
use Rattle.bk_p_expr.specs.Conjuncts.{free_names}
use Rattle.bk_p_expr.specs.Pieces.{IsPiece}
use Rattle.bk_p_expr.proofs.piece.both_free.Goals as goal

pub returns : goal.returns
returns c = ok_so _ _ c.joined.ensures (λ r. (a b : RawTree) → IsPiece a c.args.left → IsPiece b c.args.right → r.items ≡ free_names a ++ free_names b) (λ r e. λ a b h k. e ∙ (λ i. c.in_ok-one.ensures a h i ++ c.in_ok-other.ensures b k i))
