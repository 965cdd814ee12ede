use Rattle.std.proofs.Common.{◌<◌, ◌∙◌, sym, subst, ℕ}
use Rattle.bk_limits.specs.declared.TheConstants.{GREATEST_TREE_HEIGHT}
use Rattle.bk_raw.specs.Trees.RawTree.{raw, raw_infix, tree_height, RawTree}
use Rattle.bk_p_expr.specs.Conjuncts.{names_beside}
use Rattle.bk_p_expr.specs.Pieces.{IsPiece}
use Rattle.bk_p_expr.proofs.Choices.{ok_so}
use Rattle.bk_p_expr.proofs.Known.{IsPlain, plain_infix}
use Rattle.bk_p_expr.specs.declared.piece.Piece.{Piece}
use Rattle.bk_raw.specs.declared.operator.InfixOp.{InfixOp}
use Rattle.bk_p_expr.proofs.piece.infix_too_high.Goals as goal

abbrev Wanted : InfixOp → Piece → Piece → Piece → Type 0
Wanted op left right r = (at : ℕ) (a b : RawTree) → GREATEST_TREE_HEIGHT < tree_height (raw at (raw_infix op a b)) → IsPiece a left → IsPiece b right → IsPiece (raw at (raw_infix op a b)) r

pub returns-in-And : goal.returns-in-And
returns-in-And c = ok_so _ _ c.conjunction.ensures (Wanted c.args.op c.args.left c.args.right) (λ r f. λ at a b l h k.
    subst (λ o. IsPiece (raw at (raw_infix o a b)) r) (sym c.in-And.is) (f at a b (subst (λ o. GREATEST_TREE_HEIGHT < tree_height (raw at (raw_infix o a b))) c.in-And.is l) h k))

pub returns-in-Equal : goal.returns-in-Equal
returns-in-Equal c = ok_so _ _ c.equation.ensures (Wanted c.args.op c.args.left c.args.right) (λ r f. λ at a b l h k.
    subst (λ o. IsPiece (raw at (raw_infix o a b)) r) (sym c.in-Equal.is) (f at a b (subst (λ o. GREATEST_TREE_HEIGHT < tree_height (raw at (raw_infix o a b))) c.in-Equal.is l) h k))

pub returns-in_ok-beside-in_default : goal.returns-in_ok-beside-in_default
returns-in_ok-beside-in_default c = ok_so _ _ c.too_high.ensures (Wanted c.args.op c.args.left c.args.right) (λ r f. λ at a b l h k.
    let p : IsPlain (raw at (raw_infix c.args.op a b)) = plain_infix c.args.op at a b c.in_default.not-And c.in_default.not-Equal in
    f (raw at (raw_infix c.args.op a b)) l p.alone p.defines_none (c.in_ok-beside-in_default.ensures ∙ (λ i. names_beside c.args.op (c.in_ok-one-in_default.ensures a h i) (c.in_ok-other-in_default.ensures b k i))))
