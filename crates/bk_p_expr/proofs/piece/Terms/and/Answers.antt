use Rattle.std.proofs.Common.{◌≡◌, ◌≤◌, ◌∙◌, ap, subst, arith}
use Rattle.bk_limits.specs.declared.TheConstants.{GREATEST_TREE_HEIGHT}
use Rattle.bk_raw.specs.Trees.RawTree.{trees_of, tree_height, trees_height, RawTree, RawTrees}
use Rattle.bk_p_expr.specs.Pieces.{IsPiece, IsTerms, and_tree}
use Rattle.bk_p_expr.proofs.Choices.{ok_so}
use Rattle.bk_p_expr.proofs.Heights.{is_built, are_built, high_piece, high_terms, and_tree_high, and_high_tree, trees_of_last, and_tree_height}
use Rattle.bk_p_expr.specs.declared.piece.Piece.{Piece}
use Rattle.bk_p_expr.specs.declared.piece.Terms.{Terms}
use Rattle.bk_p_expr.proofs.piece.Terms.and.Goals as goal

abbrev Wanted : Terms → Piece → Terms → Type 0
Wanted self piece r = (trees : RawTrees) (tree : RawTree) → IsTerms trees self → IsPiece tree piece → IsTerms (and_tree trees tree) r

pub returns-in_default : goal.returns-in_default
returns-in_default c = ok_so _ _ c.and_too_high.ensures (Wanted c.args.self c.args.piece) (λ r f. λ trees tree a b. f trees tree (and_tree_high trees tree (high_terms c.args.self trees (ap are_built c.in_default.is) a)) a b)

pub returns-in_default-piece : goal.returns-in_default-piece
returns-in_default-piece c = ok_so _ _ c.and_too_high-in_default-piece.ensures (Wanted c.args.self c.args.piece) (λ r f. λ trees tree a b. f trees tree (and_high_tree trees tree (high_piece c.args.piece tree (ap is_built c.in_default-piece.is) b)) (subst (λ t. IsTerms trees t) c.in-Built.is a) b)

pub returns : goal.returns
returns c = λ trees tree a b.
    let s : (trees_of c.in-Built.terms.items ≡ trees) × (c.in-Built.height ≡ trees_height trees) × (c.in-Built.height ≤ GREATEST_TREE_HEIGHT) = subst (λ t. IsTerms trees t) c.in-Built.is a in
    let p : (c.in-Built-piece.term.value ≡ tree) × (c.in-Built-piece.other ≡ tree_height tree) × (c.in-Built-piece.other ≤ GREATEST_TREE_HEIGHT) = subst (λ t. IsPiece tree t) c.in-Built-piece.is b in (
      (λ i. trees_of (c.in_ok-push.ensures.items i)) ∙ trees_of_last c.in-Built.terms.items c.into_inner.result ∙ (λ i. and_tree (s.0 i) ((c.into_inner.ensures ∙ p.0) i)),
      omega (arith, and_tree_height trees tree, s.1, p.1, c.max.ensures),
      omega (arith, s.2, p.2, c.max.ensures),
    )
