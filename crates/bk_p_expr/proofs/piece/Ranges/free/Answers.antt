use Rattle.std.proofs.Common.{◌≡◌, ◌≤◌, ◌∙◌, ap, subst}
use Rattle.bk_limits.specs.declared.TheConstants.{GREATEST_TREE_HEIGHT}
use Rattle.bk_raw.specs.Trees.RawTree.{ranges_height, RawRanges}
use Rattle.bk_raw.specs.Codes.RawView.{ranges_of}
use Rattle.bk_p_expr.specs.Conjuncts.{free_names_of_ranges}
use Rattle.bk_p_expr.specs.Pieces.{IsRanges}
use Rattle.bk_p_expr.proofs.Choices.{ok_so}
use Rattle.bk_p_expr.proofs.piece.Ranges.free.Goals as goal

pub returns-in-Built : goal.returns-in-Built
returns-in-Built c = ok_so _ _ c.free_names_of_ranges.ensures (λ r. (ranges : RawRanges) → IsRanges ranges c.args.self → r.items ≡ free_names_of_ranges ranges) (λ r e. λ ranges h.
    let k : (ranges_of c.in-Built.ranges.items ≡ ranges) × (c.in-Built.field-1 ≡ ranges_height ranges) × (c.in-Built.field-1 ≤ GREATEST_TREE_HEIGHT) = subst (λ t. IsRanges ranges t) c.in-Built.is h in
    e ∙ ap (λ rs. free_names_of_ranges (ranges_of rs)) c.deref.ensures.value ∙ ap free_names_of_ranges k.0)

pub returns-in-High : goal.returns-in-High
returns-in-High c = λ ranges h. (subst (λ t. IsRanges ranges t) c.in-High.is h).1
