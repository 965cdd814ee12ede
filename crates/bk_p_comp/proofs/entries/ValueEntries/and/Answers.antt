use Rattle.std.proofs.Common.{◌≡◌, ◌≤◌, ◌++◌, [], ◌∷◌, ◌∙◌, ap, arith, subst}
use Rattle.bk_limits.specs.declared.TheConstants.{GREATEST_TREE_HEIGHT}
use Rattle.bk_raw.specs.Trees.ComponentTree.{clause_values, parts_height}
use Rattle.bk_raw.specs.Trees.RawTree.{tree_height}
use Rattle.bk_raw.specs.declared.component.RawValue.{RawValue}
use Rattle.bk_p_expr.specs.Pieces.{IsPiece}
use Rattle.bk_p_expr.proofs.Heights.{high_piece, is_built}
use Rattle.bk_p_comp.specs.Parts.{AreValues}
use Rattle.bk_p_comp.proofs.Standings.{high_last, high_more, low_more}
use Rattle.bk_p_comp.proofs.entries.ValueEntries.and.Goals as goal

pub returns-in_default : goal.returns-in_default
returns-in_default c = λ vs e a b. high_more (λ (v : RawValue). tree_height v.value) vs (record { name = c.args.name; value = e }) (subst (λ p. AreValues vs p) c.in_default.is a)

pub returns-in_default-value : goal.returns-in_default-value
returns-in_default-value c = λ vs e a b. high_last (λ (v : RawValue). tree_height v.value) vs (record { name = c.args.name; value = e }) (high_piece c.args.value e (ap is_built c.in_default-value.is) b)

pub returns : goal.returns
returns c = λ vs e a b.
    let s : (c.in-Built.all.items ≡ vs) × (parts_height (clause_values vs) ≤ GREATEST_TREE_HEIGHT) = subst (λ p. AreValues vs p) c.in-Built.is a in
    let p = subst (λ q. IsPiece e q) c.in-Built-value.is b in
    (c.in_ok-push.ensures.items ∙ (λ i. s.0 i ++ record { name = c.args.name; value = (c.into_inner-value.ensures ∙ p.0) i } ∷ []), low_more (λ (v : RawValue). tree_height v.value) vs (record { name = c.args.name; value = e }) s.1 (omega (arith, p.1, p.2)))
