use Rattle.std.proofs.Common.{◌≡◌, ◌≤◌, ◌<◌, ap, subst, arith, ℕ}
use Rattle.bk_limits.specs.declared.TheConstants.{GREATEST_TREE_HEIGHT}
use Rattle.bk_raw.specs.Trees.RawTree.{ranges_height, tree_height, RawRanges, RawTree, raw, raw_ranged_lambda}
use Rattle.bk_raw.specs.Codes.RawView.{ranges_of}
use Rattle.bk_p_expr.specs.Pieces.{IsPiece, IsRanges}
use Rattle.bk_p_expr.proofs.Choices.{ok_so}
use Rattle.bk_p_expr.proofs.Heights.{is_built, are_built_ranges, high_piece, high_ranges}
use Rattle.bk_p_expr.specs.declared.piece.Piece.{Piece}
use Rattle.bk_p_expr.specs.declared.piece.Ranges.{Ranges}
use Rattle.bk_p_expr.proofs.piece.Ranges.lambda.Goals as goal

abbrev Wanted : ℕ → Ranges → Piece → Piece → Piece → Type 0
Wanted at self body value r = (ranges : RawRanges) (p e : RawTree) → IsRanges ranges self → IsPiece p body → IsPiece e value → IsPiece (raw at (raw_ranged_lambda ranges p e)) r

pub returns-in_default : goal.returns-in_default
returns-in_default c = ok_so _ _ c.lambda_too_high.ensures (Wanted c.args.at c.args.self c.args.body c.args.value) (λ r f. λ rs p e a h k.
    let l : GREATEST_TREE_HEIGHT < ranges_height rs = high_ranges c.args.self rs (ap are_built_ranges c.in_default.is) a in
    f c.args.at rs p e (omega (arith, l)) a h k)

pub returns-in_default-body : goal.returns-in_default-body
returns-in_default-body c = ok_so _ _ c.lambda_too_high-in_default-body.ensures (Wanted c.args.at c.args.self c.args.body c.args.value) (λ r f. λ rs p e a h k.
    let l : GREATEST_TREE_HEIGHT < tree_height p = high_piece c.args.body p (ap is_built c.in_default-body.is) h in
    f c.args.at rs p e (omega (arith, l)) (subst (λ t. IsRanges rs t) c.in-Built.is a) h k)

pub returns-in_default-value : goal.returns-in_default-value
returns-in_default-value c = ok_so _ _ c.lambda_too_high-in_default-value.ensures (Wanted c.args.at c.args.self c.args.body c.args.value) (λ r f. λ rs p e a h k.
    let l : GREATEST_TREE_HEIGHT < tree_height e = high_piece c.args.value e (ap is_built c.in_default-value.is) k in
    f c.args.at rs p e (omega (arith, l)) (subst (λ t. IsRanges rs t) c.in-Built.is a) (subst (λ t. IsPiece p t) c.in-Built-body.is h) k)

pub returns-then-height-ge-HIGHEST : goal.returns-then-height-ge-HIGHEST
returns-then-height-ge-HIGHEST c = ok_so _ _ c.lambda_too_high-then-height-ge-HIGHEST.ensures (Wanted c.args.at c.args.self c.args.body c.args.value) (λ r f. λ rs p e a h k.
    let s : (ranges_of c.in-Built.ranges.items ≡ rs) × (c.in-Built.one ≡ ranges_height rs) × (c.in-Built.one ≤ GREATEST_TREE_HEIGHT) = subst (λ t. IsRanges rs t) c.in-Built.is a in
    let q : (c.in-Built-body.body.value ≡ p) × (c.in-Built-body.two ≡ tree_height p) × (c.in-Built-body.two ≤ GREATEST_TREE_HEIGHT) = subst (λ t. IsPiece p t) c.in-Built-body.is h in
    let v : (c.in-Built-value.value.value ≡ e) × (c.in-Built-value.three ≡ tree_height e) × (c.in-Built-value.three ≤ GREATEST_TREE_HEIGHT) = subst (λ t. IsPiece e t) c.in-Built-value.is k in
    f c.args.at rs p e (omega (arith, c.if-height-ge-HIGHEST.true, s.1, q.1, v.1, c.max.ensures, c.max-height.ensures)) s q v)
