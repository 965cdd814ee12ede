use Rattle.std.proofs.Common.{◌≡◌, ◌≤◌, ◌∙◌, ap, subst, arith, ℕ}
use Rattle.bk_limits.specs.declared.TheConstants.{GREATEST_TREE_HEIGHT}
use Rattle.bk_raw.specs.Trees.RawTree.{tree_height, ranges_height, RawRanges, RawTree}
use Rattle.bk_raw.specs.Codes.RawView.{ranges_of}
use Rattle.bk_p_expr.specs.Pieces.{IsPiece, IsRanges, and_range}
use Rattle.bk_p_expr.proofs.Choices.{ok_so}
use Rattle.bk_p_expr.proofs.Heights.{is_built, are_built_ranges, high_piece, high_ranges, and_range_high, and_high_range, ranges_of_last, and_range_height}
use Rattle.bk_p_expr.specs.declared.piece.Piece.{Piece}
use Rattle.bk_p_expr.specs.declared.piece.Ranges.{Ranges}
use Rattle.bk_p_expr.proofs.piece.Ranges.and.Goals as goal

abbrev Wanted : ℕ → ℕ → Ranges → Piece → Ranges → Type 0
Wanted at number self piece r = (ranges : RawRanges) (tree : RawTree) → IsRanges ranges self → IsPiece tree piece → IsRanges (and_range ranges at number tree) r

pub returns-in_default : goal.returns-in_default
returns-in_default c = ok_so _ _ c.and_too_high.ensures (Wanted c.args.at c.args.number c.args.self c.args.piece) (λ r f. λ rs d a b. f rs c.args.at c.args.number d (and_range_high rs c.args.at c.args.number d (high_ranges c.args.self rs (ap are_built_ranges c.in_default.is) a)) a b)

pub returns-in_default-piece : goal.returns-in_default-piece
returns-in_default-piece c = ok_so _ _ c.and_too_high-in_default-piece.ensures (Wanted c.args.at c.args.number c.args.self c.args.piece) (λ r f. λ rs d a b. f rs c.args.at c.args.number d (and_high_range rs c.args.at c.args.number d (high_piece c.args.piece d (ap is_built c.in_default-piece.is) b)) (subst (λ t. IsRanges rs t) c.in-Built.is a) b)

pub returns : goal.returns
returns c = λ rs tree a b.
    let s : (ranges_of c.in-Built.ranges.items ≡ rs) × (c.in-Built.height ≡ ranges_height rs) × (c.in-Built.height ≤ GREATEST_TREE_HEIGHT) = subst (λ t. IsRanges rs t) c.in-Built.is a in
    let p : (c.in-Built-piece.term.value ≡ tree) × (c.in-Built-piece.other ≡ tree_height tree) × (c.in-Built-piece.other ≤ GREATEST_TREE_HEIGHT) = subst (λ t. IsPiece tree t) c.in-Built-piece.is b in (
      (λ i. ranges_of (c.in_ok-push.ensures.items i)) ∙ ranges_of_last c.in-Built.ranges.items (record { at = c.args.at; number = c.args.number; range = c.into_inner-range.result }) ∙ (λ i. and_range (s.0 i) c.args.at c.args.number ((c.into_inner-range.ensures ∙ p.0) i)),
      omega (arith, and_range_height rs c.args.at c.args.number tree, s.1, p.1, c.max.ensures),
      omega (arith, s.2, p.2, c.max.ensures),
    )
