use Rattle.std.proofs.Common.{◌++◌, subst, sym}
use Rattle.bk_raw.specs.Trees.FreeNames.{conjuncts}
use Rattle.bk_p_expr.specs.Conjuncts.{AreConjuncts}
use Rattle.bk_p_expr.proofs.Known.{conjuncts_append}
use Rattle.bk_p_expr.proofs.piece.conjunction.Goals as goal

pub returns : goal.returns
returns c = λ at a b l h k. (l, subst (λ cs. AreConjuncts (conjuncts a ++ conjuncts b) cs) (sym c.in_ok-append.ensures.items) (conjuncts_append (conjuncts a) (conjuncts b) c.in_ok-known.known.items c.in_ok-behind.behind.items (c.in_ok-known.ensures a h) (c.in_ok-behind.ensures b k)))
