use Rattle.std.proofs.Common.{subst}
use Rattle.bk_p_expr.specs.Pieces.{IsPiece}
use Rattle.bk_p_sub.proofs.term.Term.of.Goals as goal

pub returns-in-Built : goal.returns-in-Built
returns-in-Built c = λ t h. subst (λ p. IsPiece t p) c.in-Built.is h

pub returns-in-High : goal.returns-in-High
returns-in-High c = λ t h. subst (λ p. IsPiece t p) c.in-High.is h
