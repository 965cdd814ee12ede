use Rattle.std.proofs.Common.{◌≡◌, ◌≤◌, ◌∙◌, ap, subst}
use Rattle.bk_limits.specs.declared.TheConstants.{GREATEST_TREE_HEIGHT}
use Rattle.bk_raw.specs.Trees.FreeNames.{conjuncts}
use Rattle.bk_raw.specs.Trees.RawTree.{tree_height, RawTree}
use Rattle.bk_p_expr.specs.Conjuncts.{AreConjuncts}
use Rattle.bk_p_expr.specs.Pieces.{IsPiece}
use Rattle.bk_p_expr.proofs.Choices.{ok_so}
use Rattle.bk_p_expr.proofs.Heights.{is_built}
use Rattle.bk_p_expr.proofs.Known.{high_known, known_of}
use Rattle.bk_p_expr.proofs.piece.Piece.known.Goals as goal

pub returns-in-Built : goal.returns-in-Built
returns-in-Built c = ok_so _ _ c.conjuncts.ensures (λ r. (tree : RawTree) → IsPiece tree c.args.self → AreConjuncts (conjuncts tree) r.items) (λ r a. λ tree h.
    let k : (c.in-Built.term.value ≡ tree) × (c.in-Built.field-1 ≡ tree_height tree) × (c.in-Built.field-1 ≤ GREATEST_TREE_HEIGHT) = subst (λ p. IsPiece tree p) c.in-Built.is h in
    subst (λ t. AreConjuncts (conjuncts t) r.items) (c.deref.ensures ∙ k.0) a)

pub returns-in-High : goal.returns-in-High
returns-in-High c = λ tree h. subst (λ p. AreConjuncts (conjuncts tree) (known_of p)) c.in-High.is (high_known tree c.args.self (ap is_built c.in-High.is) h)
