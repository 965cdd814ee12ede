use Rattle.std.proofs.Common.{◌++◌, ◌∙◌, sym}
use Rattle.bk_p_expr.proofs.Known.{names_of_last_range}
use Rattle.bk_p_expr.proofs.piece.Ranges.and_too_high.Goals as goal

pub returns : goal.returns
returns c = λ ranges at number tree l a b. (l, c.in_ok-joined.ensures ∙ (λ i. c.in_ok-free.ensures ranges a i ++ c.in_ok-other.ensures tree b i) ∙ sym (names_of_last_range ranges at number tree))
