use Rattle.std.proofs.Common.{◌≡◌, ◌≤◌, ◌<◌, arith, ap, subst, ℕ}
use Rattle.bk_limits.specs.declared.TheConstants.{GREATEST_TREE_HEIGHT}
use Rattle.bk_raw.specs.Trees.RawTree.{tree_height, RawTree, raw}
use Rattle.bk_p_expr.specs.Pieces.{IsPiece, around_node}
use Rattle.bk_p_expr.proofs.Choices.{ok_so}
use Rattle.bk_p_expr.proofs.Heights.{is_built, high_piece, around_height}
use Rattle.bk_p_expr.specs.declared.piece.Piece.{Piece}
use Rattle.bk_p_expr.specs.declared.piece.Around.{Around}
use Rattle.bk_p_expr.proofs.piece.Piece.around.Goals as goal

abbrev Wanted : ℕ → Around → Piece → Piece → Type 0
Wanted at form self r = (tree : RawTree) → IsPiece tree self → IsPiece (raw at (around_node form tree)) r

pub returns-in_default : goal.returns-in_default
returns-in_default c = ok_so _ _ c.too_high.ensures (Wanted c.args.at c.args.form c.args.self) (λ r f. λ tree h.
    let l : GREATEST_TREE_HEIGHT < tree_height tree = high_piece c.args.self tree (ap is_built c.in_default.is) h in
    f c.args.at tree (omega (arith, l, around_height c.args.form tree)) h)

pub returns-then-height-ge-HIGHEST : goal.returns-then-height-ge-HIGHEST
returns-then-height-ge-HIGHEST c = ok_so _ _ c.too_high-then-height-ge-HIGHEST.ensures (Wanted c.args.at c.args.form c.args.self) (λ r f. λ tree h.
    let k : (c.in-Built.term.value ≡ tree) × (c.in-Built.height ≡ tree_height tree) × (c.in-Built.height ≤ GREATEST_TREE_HEIGHT) = subst (λ p. IsPiece tree p) c.in-Built.is h in
    f c.args.at tree (omega (arith, c.if-height-ge-HIGHEST.true, k.1, around_height c.args.form tree)) k)
