use Rattle.std.proofs.Common.{◌≡◌, ◌≤◌, ◌∙◌, Some, ap, sym, subst}
use Rattle.bk_limits.specs.declared.TheConstants.{GREATEST_TREE_HEIGHT}
use Rattle.bk_raw.specs.Trees.RawTree.{tree_height}
use Rattle.bk_p_expr.specs.Conjuncts.{name_alone}
use Rattle.bk_p_expr.specs.Pieces.{IsPiece}
use Rattle.bk_p_expr.proofs.Heights.{is_built, high_piece}
use Rattle.bk_p_expr.proofs.Known.{high_is_no_name}
use Rattle.bk_p_expr.proofs.piece.name_of.Goals as goal

pub returns-in_default : goal.returns-in_default
returns-in_default c = λ tree h. sym (high_is_no_name tree (high_piece c.args.piece.now tree (ap is_built c.in_default.is) h))

pub returns-in_default-name_alone : goal.returns-in_default-name_alone
returns-in_default-name_alone c = λ tree h.
    let k : (c.in-Built.term.value ≡ tree) × (c.in-Built.field-1 ≡ tree_height tree) × (c.in-Built.field-1 ≤ GREATEST_TREE_HEIGHT) = subst (λ p. IsPiece tree p) c.in-Built.is h in
    sym c.in_default-name_alone.ensures ∙ ap name_alone (c.deref.ensures ∙ k.0)

pub returns : goal.returns
returns c = λ tree h.
    let k : (c.in-Built.term.value ≡ tree) × (c.in-Built.field-1 ≡ tree_height tree) × (c.in-Built.field-1 ≤ GREATEST_TREE_HEIGHT) = subst (λ p. IsPiece tree p) c.in-Built.is h in
    (λ i. Some (c.in_ok-name.ensures i)) ∙ sym c.in-Some.ensures ∙ ap name_alone (c.deref.ensures ∙ k.0)
