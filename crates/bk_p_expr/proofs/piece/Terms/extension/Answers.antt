use Rattle.std.proofs.Common.{◌≡◌, ◌≤◌, ◌<◌, ap, refl, subst, arith, ℕ}
use Rattle.bk_limits.specs.declared.TheConstants.{GREATEST_TREE_HEIGHT}
use Rattle.bk_raw.specs.Trees.RawTree.{raw, raw_extension, trees_of, trees_height, RawTrees}
use Rattle.bk_p_expr.specs.Pieces.{IsTerms, IsPiece}
use Rattle.bk_p_expr.proofs.Choices.{ok_so}
use Rattle.bk_p_expr.proofs.Heights.{are_built, high_terms}
use Rattle.bk_p_expr.specs.declared.piece.Piece.{Piece}
use Rattle.bk_p_expr.specs.declared.piece.Terms.{Terms}
use Rattle.bk_p_expr.proofs.piece.Terms.extension.Goals as goal

abbrev Wanted : ℕ → Terms → Piece → Type 0
Wanted at self r = (trees : RawTrees) → IsTerms trees self → IsPiece (raw at (raw_extension trees)) r

pub returns-in_default : goal.returns-in_default
returns-in_default c = ok_so _ _ c.too_high.ensures (Wanted c.args.at c.args.self) (λ r f. λ trees a.
    let l : GREATEST_TREE_HEIGHT < trees_height trees = high_terms c.args.self trees (ap are_built c.in_default.is) a in
    f (raw c.args.at (raw_extension trees)) (omega (arith, l)) refl refl (c.in_ok-free.ensures trees a))

pub returns-then-height-ge-HIGHEST : goal.returns-then-height-ge-HIGHEST
returns-then-height-ge-HIGHEST c = ok_so _ _ c.too_high-then-height-ge-HIGHEST.ensures (Wanted c.args.at c.args.self) (λ r f. λ trees a.
    let s : (trees_of c.in-Built.terms.items ≡ trees) × (c.in-Built.height ≡ trees_height trees) × (c.in-Built.height ≤ GREATEST_TREE_HEIGHT) = subst (λ t. IsTerms trees t) c.in-Built.is a in
    f (raw c.args.at (raw_extension trees)) (omega (arith, c.if-height-ge-HIGHEST.true, s.1)) refl refl (c.in_ok-free-2.ensures trees s))
