use Rattle.std.proofs.Common.{sym, subst}
use Rattle.bk_p_expr.specs.Openings.{placed}
use Rattle.bk_p_expr.specs.Pieces.{IsPiece}
use Rattle.bk_p_expr.proofs.divider.Inside.placed.Goals as goal

pub returns-in-Parentheses : goal.returns-in-Parentheses
returns-in-Parentheses c = λ tree h. subst (λ s. IsPiece (placed s tree) c.moved.result) (sym c.in-Parentheses.is) (c.moved.ensures tree h)
