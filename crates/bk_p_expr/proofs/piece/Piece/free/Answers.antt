use Rattle.std.proofs.Common.{◌≡◌, ◌≤◌, ◌∙◌, ap, subst}
use Rattle.bk_limits.specs.declared.TheConstants.{GREATEST_TREE_HEIGHT}
use Rattle.bk_raw.specs.Trees.FreeNames.{conjuncts}
use Rattle.bk_raw.specs.Trees.RawTree.{tree_height, RawTree}
use Rattle.bk_p_expr.specs.Conjuncts.{AreConjuncts, free_names, names_of_conjuncts}
use Rattle.bk_p_expr.specs.Pieces.{IsPiece}
use Rattle.bk_p_expr.proofs.Choices.{ok_so}
use Rattle.bk_p_expr.proofs.Heights.{is_built}
use Rattle.bk_p_expr.proofs.Known.{high_known, known_names, known_of}
use Rattle.bk_p_expr.proofs.piece.Piece.free.Goals as goal

pub returns-in-Built : goal.returns-in-Built
returns-in-Built c = ok_so _ _ c.free_names.ensures (λ r. (tree : RawTree) → IsPiece tree c.args.self → r.items ≡ free_names tree) (λ r e. λ tree h.
    let k : (c.in-Built.term.value ≡ tree) × (c.in-Built.field-1 ≡ tree_height tree) × (c.in-Built.field-1 ≤ GREATEST_TREE_HEIGHT) = subst (λ p. IsPiece tree p) c.in-Built.is h in
    e ∙ ap free_names (c.deref.ensures ∙ k.0))

pub returns-in-High : goal.returns-in-High
returns-in-High c = ok_so _ _ c.names_of_conjuncts.ensures (λ r. (tree : RawTree) → IsPiece tree c.args.self → r.items ≡ free_names tree) (λ r e. λ tree h.
    let k : AreConjuncts (conjuncts tree) c.in-High.known.items = subst (λ p. AreConjuncts (conjuncts tree) (known_of p)) c.in-High.is (high_known tree c.args.self (ap is_built c.in-High.is) h) in
    e ∙ known_names tree c.in-High.known.items k)
