use Rattle.std.proofs.Common.{◌≡◌, ◌≤◌, ◌<◌, ap, subst, arith, ℕ}
use Rattle.bk_limits.specs.declared.TheConstants.{GREATEST_TREE_HEIGHT}
use Rattle.bk_raw.specs.Trees.RawTree.{ranges_height, tree_height, RawRanges, RawTree, raw, raw_ranged_comprehension}
use Rattle.bk_raw.specs.Codes.RawView.{ranges_of}
use Rattle.bk_p_expr.specs.Pieces.{IsPiece, IsRanges}
use Rattle.bk_p_expr.proofs.Choices.{ok_so}
use Rattle.bk_p_expr.proofs.Heights.{is_built, are_built_ranges, high_piece, high_ranges}
use Rattle.bk_p_expr.specs.declared.piece.Piece.{Piece}
use Rattle.bk_p_expr.specs.declared.piece.Ranges.{Ranges}
use Rattle.bk_p_expr.proofs.piece.Ranges.comprehension.Goals as goal

abbrev Wanted : ℕ → Ranges → Piece → Piece → Type 0
Wanted at self body r = (ranges : RawRanges) (p : RawTree) → IsRanges ranges self → IsPiece p body → IsPiece (raw at (raw_ranged_comprehension ranges p)) r

pub returns-in_default : goal.returns-in_default
returns-in_default c = ok_so _ _ c.comprehension_too_high.ensures (Wanted c.args.at c.args.self c.args.body) (λ r f. λ rs p a h.
    let l : GREATEST_TREE_HEIGHT < ranges_height rs = high_ranges c.args.self rs (ap are_built_ranges c.in_default.is) a in
    f c.args.at rs p (omega (arith, l)) a h)

pub returns-in_default-body : goal.returns-in_default-body
returns-in_default-body c = ok_so _ _ c.comprehension_too_high-in_default-body.ensures (Wanted c.args.at c.args.self c.args.body) (λ r f. λ rs p a h.
    let l : GREATEST_TREE_HEIGHT < tree_height p = high_piece c.args.body p (ap is_built c.in_default-body.is) h in
    f c.args.at rs p (omega (arith, l)) (subst (λ t. IsRanges rs t) c.in-Built.is a) h)

pub returns-then-height-ge-HIGHEST : goal.returns-then-height-ge-HIGHEST
returns-then-height-ge-HIGHEST c = ok_so _ _ c.comprehension_too_high-then-height-ge-HIGHEST.ensures (Wanted c.args.at c.args.self c.args.body) (λ r f. λ rs p a h.
    let s : (ranges_of c.in-Built.ranges.items ≡ rs) × (c.in-Built.one ≡ ranges_height rs) × (c.in-Built.one ≤ GREATEST_TREE_HEIGHT) = subst (λ t. IsRanges rs t) c.in-Built.is a in
    let q : (c.in-Built-body.body.value ≡ p) × (c.in-Built-body.two ≡ tree_height p) × (c.in-Built-body.two ≤ GREATEST_TREE_HEIGHT) = subst (λ t. IsPiece p t) c.in-Built-body.is h in
    f c.args.at rs p (omega (arith, c.if-height-ge-HIGHEST.true, s.1, q.1, c.max-height.ensures)) s q)
