use Rattle.std.proofs.Common.{sym, subst}
use Rattle.bk_p_expr.specs.Pieces.{IsPiece}
use Rattle.bk_p_expr.proofs.Suffixes.{signed_minus}
use Rattle.bk_p_expr.proofs.terms.signed.Goals as goal

pub returns-clause-made : goal.returns-clause-made
returns-clause-made c = λ tree h. subst (λ x. IsPiece x.0 c.in_ok-negated.field-0) (sym (signed_minus c.args.tokens.now tree c.in-Some.minus.now c.in-Some.behind.now c.in-Some.ensures.begins c.in-Some.ensures.found)) (c.in_ok-negated.ensures tree h)
