use Rattle.std.proofs.Common.{◌≡◌, ◌≤◌, ◌∙◌, ap, subst}
use Rattle.bk_limits.specs.declared.TheConstants.{GREATEST_TREE_HEIGHT}
use Rattle.bk_raw.specs.Trees.RawTree.{trees_of, trees_height, RawTrees}
use Rattle.bk_p_expr.specs.Conjuncts.{free_names_of}
use Rattle.bk_p_expr.specs.Pieces.{IsTerms}
use Rattle.bk_p_expr.proofs.Choices.{ok_so}
use Rattle.bk_p_expr.proofs.piece.Terms.free.Goals as goal

pub returns-in-Built : goal.returns-in-Built
returns-in-Built c = ok_so _ _ c.free_names_of.ensures (λ r. (trees : RawTrees) → IsTerms trees c.args.self → r.items ≡ free_names_of trees) (λ r e. λ trees h.
    let k : (trees_of c.in-Built.terms.items ≡ trees) × (c.in-Built.field-1 ≡ trees_height trees) × (c.in-Built.field-1 ≤ GREATEST_TREE_HEIGHT) = subst (λ t. IsTerms trees t) c.in-Built.is h in
    e ∙ ap (λ ts. free_names_of (trees_of ts)) c.deref.ensures.value ∙ ap free_names_of k.0)

pub returns-in-High : goal.returns-in-High
returns-in-High c = λ trees h. (subst (λ t. IsTerms trees t) c.in-High.is h).1
