use Rattle.std.proofs.Common.{◌++◌, ◌∙◌, sym}
use Rattle.bk_p_expr.proofs.Known.{names_of_last}
use Rattle.bk_p_expr.proofs.piece.Terms.and_too_high.Goals as goal

pub returns : goal.returns
returns c = λ trees tree l a b. (l, c.in_ok-joined.ensures ∙ (λ i. c.in_ok-free.ensures trees a i ++ c.in_ok-other.ensures tree b i) ∙ sym (names_of_last trees tree))
