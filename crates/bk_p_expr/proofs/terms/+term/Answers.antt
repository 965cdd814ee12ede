use Rattle.std.proofs.Common.{◌≡◌, ◌-◌, ◌<◌, ◌∙◌, [], Some, true, false, length, sym, subst, refl, arith, rules}
use Rattle.bk_ops.specs.declared.sign.TheConstants.{CLOSE_PAREN}
use Rattle.bk_raw.specs.Trees.RawTree.{RawTree, raw, raw_lambda, raw_ranged_lambda}
use Rattle.bk_raw.specs.Grammar.Reading.{begins_with, read, sign, start}
use Rattle.bk_p_expr.specs.Found.{FindsRanges, Reads}
use Rattle.bk_p_expr.specs.Openings.{enclosed, listed, primary, unsigned, valued}
use Rattle.bk_p_expr.specs.Pieces.{IsPiece, around_node}
use Rattle.bk_p_expr.specs.declared.divider.Inside.TheVariants.{Parentheses}
use Rattle.bk_p_expr.specs.declared.opening.Opening.TheVariants.{Closed, Around, Listed, Extension, Described, Lambda, RangedLambda}
use Rattle.bk_p_expr.proofs.Behind.{around_none, around_some, described_none, described_none_body, described_some, listed_ends, listed_none, opened, passed, ranged_none, ranged_none_last, ranged_some, suffix_apply, suffix_image, suffix_inverse, suffix_none, suffix_none_apply, suffix_none_image, valued_none, valued_none_body, valued_none_value, valued_over_none, valued_over_read, valued_some}
use Rattle.bk_p_expr.proofs.Choices.{if_none, if_some}
use Rattle.bk_p_expr.proofs.Enclosed.{enclosed_alone, enclosed_begins, enclosed_ends, enclosed_fails, enclosed_goes_on, enclosed_none}
use Rattle.bk_p_expr.proofs.Lists.{ranges_begins, ranges_ends, ranges_fails, ranges_fails_behind, ranges_goes_on, terms_begins, terms_ends, terms_fails, terms_goes_on}
use Rattle.bk_p_expr.proofs.Operators.{longest_begins, longest_fails, longest_steps, longest_stops, longest_stops_before}
use Rattle.bk_p_expr.proofs.Powers.{PowersSoFar, exponent_none, exponent_none_operand, exponent_some, powers_begins, powers_ends, powers_goes_on}
use Rattle.bk_p_expr.proofs.Suffixes.{operand_begins, operand_ends, operand_fails, operand_shorter, tight_goes_on}
use Rattle.bk_p_expr.proofs.terms.+term.Goals as goal

pub longest-returns-in_default-clause-found : goal.longest-returns-in_default-clause-found
longest-returns-in_default-clause-found t c = longest_fails c.args.tokens.now c.args.asked (if_none _ _ _ c.in_ok-first.ensures.found c.in_default.is)

pub longest-loop-op-init : goal.longest-loop-op-init
longest-loop-op-init t c = record { starts = c.start_of-at.ensures; so_far = longest_begins c.args.tokens.now c.args.asked c.in-Some.first c.in-Some.first_strength c.in-Some.after.now (if_some _ _ _ _ c.in_ok-first.ensures.found c.in-Some.is) (if_some _ _ _ _ c.in_ok-first.ensures.shorter c.in-Some.is) }

pub longest-loop-op-preserved : goal.longest-loop-op-preserved
longest-loop-op-preserved t c = record { starts = c.loop-op.invariant.starts; so_far = longest_steps c.args.tokens.now c.args.asked c.loop-op.left c.loop-op.strength c.loop-op.rest.now c.in-Some-operator.op c.in-Some-operator.behind.now c.in-Some-2.right c.in-Some-2.after.now c.start_of-at.result c.strengths-strength.result.own c.strengths.result.right c.in_ok-left.left c.loop-op.invariant.starts c.strengths-strength.ensures.own c.strengths.ensures.right c.loop-op.invariant.so_far c.in-Some-operator.ensures.found (if_some _ _ _ _ c.in_ok-right.ensures.found c.in-Some-2.is) (if_some _ _ _ _ c.in_ok-right.ensures.shorter c.in-Some-2.is) c.in_ok-left.ensures }

pub longest-returns-in_default-2-clause-found : goal.longest-returns-in_default-2-clause-found
longest-returns-in_default-2-clause-found t c = longest_stops_before c.args.tokens.now c.args.asked c.loop-op.left c.loop-op.strength c.loop-op.rest.now c.in-Some-operator.op c.in-Some-operator.behind.now c.strengths.result.right c.strengths.ensures.right c.loop-op.invariant.so_far c.in-Some-operator.ensures.found (if_none _ _ _ c.in_ok-right.ensures.found c.in_default-2.is)

pub longest-returns-clause-found : goal.longest-returns-clause-found
longest-returns-clause-found t c = longest_stops c.args.tokens.now c.args.asked c.loop-op.left c.loop-op.strength c.loop-op.rest.now c.loop-op.invariant.so_far c.in_default-operator.ensures.found

pub longest-returns-then-asked-eq-POWER-clause-found : goal.longest-returns-then-asked-eq-POWER-clause-found
longest-returns-then-asked-eq-POWER-clause-found t c = subst (λ a. Reads (λ n. read n a c.args.tokens.now) (length c.args.tokens.now) c.powers.result) (sym c.if-asked-eq-POWER.true) c.powers.ensures.found

pub powers-returns-in_default-clause-found : goal.powers-returns-in_default-clause-found
powers-returns-in_default-clause-found t c = longest_fails c.args.tokens.now 9 (if_none _ _ _ c.in_ok-first.ensures.found c.in_default.is)

pub powers-loop-behind-init : goal.powers-loop-behind-init
powers-loop-behind-init t c = subst (λ bs. PowersSoFar c.args.tokens.now bs c.start_of-at.result c.in-Some.first c.in-Some.after.now) (sym c.new-bases.ensures.items) (subst (λ k. PowersSoFar c.args.tokens.now [] k c.in-Some.first c.in-Some.after.now) (sym c.start_of-at.ensures) (powers_begins c.args.tokens.now c.in-Some.first _ c.in-Some.after.now (if_some _ _ _ _ c.in_ok-first.ensures.found c.in-Some.is) (if_some _ _ _ _ c.in_ok-first.ensures.strength c.in-Some.is) (if_some _ _ _ _ c.in_ok-first.ensures.shorter c.in-Some.is)))

pub powers-loop-behind-preserved : goal.powers-loop-behind-preserved
powers-loop-behind-preserved t c =
    let l : length c.in-Some-2.after.now < length c.in-Some-after_sign.behind.now = if_some _ _ _ _ c.in_ok-exponent.ensures.shorter c.in-Some-2.is in
    subst (λ bs. PowersSoFar c.args.tokens.now bs c.start_of-at-in-Some-after_sign.result c.in-Some-2.exponent c.in-Some-2.after.now) (sym c.in_ok-push.ensures.items) (powers_goes_on c.args.tokens.now c.loop-behind.bases.items c.loop-behind.at c.loop-behind.last c.loop-behind.rest.now c.start_of-at-in-Some-after_sign.result c.in-Some-2.exponent c.in-Some-2.after.now c.loop-behind.invariant (exponent_some c.loop-behind.rest.now c.in-Some-after_sign.field-0-0.now c.in-Some-after_sign.behind.now _ c.in-Some-2.exponent c.in-Some-2.after.now c.start_of-at-in-Some-after_sign.result c.in-Some-after_sign.ensures.found c.in-Some-after_sign.ensures.shorter (if_some _ _ _ _ c.in_ok-exponent.ensures.found c.in-Some-2.is) c.start_of-at-in-Some-after_sign.ensures) (omega (arith, l, c.in-Some-after_sign.ensures.shorter)))

pub powers-returns-in_default-2-clause-found : goal.powers-returns-in_default-2-clause-found
powers-returns-in_default-2-clause-found t c = powers_ends c.args.tokens.now c.loop-behind.bases.items c.loop-behind.at c.loop-behind.last c.loop-behind.rest.now c.in_ok-joined.field-0 c.loop-behind.invariant (exponent_none_operand c.loop-behind.rest.now c.in-Some-after_sign.field-0-0.now c.in-Some-after_sign.behind.now c.in-Some-after_sign.ensures.found c.in-Some-after_sign.ensures.shorter (if_none _ _ _ c.in_ok-exponent.ensures.found c.in_default-2.is)) c.in_ok-joined.ensures

pub powers-returns-clause-found : goal.powers-returns-clause-found
powers-returns-clause-found t c = powers_ends c.args.tokens.now c.loop-behind.bases.items c.loop-behind.at c.loop-behind.last c.loop-behind.rest.now c.in_ok-joined-2.field-0 c.loop-behind.invariant (exponent_none c.loop-behind.rest.now c.in_default-after_sign.ensures.found) c.in_ok-joined-2.ensures

pub operand-returns-in_default-clause-found : goal.operand-returns-in_default-clause-found
operand-returns-in_default-clause-found t c = operand_fails c.args.tokens.now c.behind_minus-behind.result.now c.behind_minus-behind.ensures.found (if_none _ _ _ c.in_ok-first.ensures.found c.in_default.is)

pub operand-loop-piece-init : goal.operand-loop-piece-init
operand-loop-piece-init t c = operand_begins c.args.tokens.now c.behind_minus-behind.result.now c.start_of-at.result c.in-Some.first c.in-Some.after.now c.behind_minus-behind.ensures.found c.start_of-at.ensures (if_some _ _ _ _ c.in_ok-first.ensures.found c.in-Some.is) (if_some _ _ _ _ c.in_ok-first.ensures.shorter c.in-Some.is)

pub operand-loop-piece-preserved : goal.operand-loop-piece-preserved
operand-loop-piece-preserved t c = tight_goes_on (unsigned c.args.tokens.now) _ c.loop-piece.piece c.loop-piece.rest.now c.in-Some-2.suffix c.in-Some-2.after.now c.in_ok-piece.piece c.loop-piece.invariant (if_some _ _ _ _ c.in_ok-suffix.ensures.found c.in-Some-2.is) (if_some _ _ _ _ c.in_ok-suffix.ensures.shorter c.in-Some-2.is) c.in_ok-piece.ensures

pub operand-returns-clause-found : goal.operand-returns-clause-found
operand-returns-clause-found t c = operand_ends c.args.tokens.now _ c.loop-piece.piece c.loop-piece.rest.now c.in_ok-piece-2.piece c.in_ok-piece-2.strength c.loop-piece.invariant (if_none _ _ _ c.in_ok-suffix.ensures.found c.in_default-2.is) c.in_ok-piece-2.ensures.made c.in_ok-piece-2.ensures.strength

pub operand-returns-clause-shorter : goal.operand-returns-clause-shorter
operand-returns-clause-shorter t c = operand_shorter c.args.tokens.now _ c.loop-piece.piece c.loop-piece.rest.now c.loop-piece.invariant

pub next_suffix-returns-in-Some-clause-found : goal.next_suffix-returns-in-Some-clause-found
next_suffix-returns-in-Some-clause-found t c = suffix_inverse c.args.tokens.now c.in-Some.field-0-0.now c.in-Some.rest.now c.in-Some.ensures.begins c.in-Some.ensures.found

pub next_suffix-returns-in_default-2-clause-found : goal.next_suffix-returns-in_default-2-clause-found
next_suffix-returns-in_default-2-clause-found t c = suffix_none_image c.args.tokens.now c.in-Some-after_sign.field-0-0.now c.in-Some-after_sign.inside.now c.in_default.ensures.begins c.in-Some-after_sign.ensures.begins c.in-Some-after_sign.ensures.found c.in-Some-after_sign.ensures.shorter (if_none _ _ _ c.in_ok-set.ensures.found c.in_default-2.is)

pub next_suffix-returns-in-Some-after_sign-clause-found : goal.next_suffix-returns-in-Some-after_sign-clause-found
next_suffix-returns-in-Some-after_sign-clause-found t c = suffix_image c.args.tokens.now c.in-Some-after_sign.field-0-0.now c.in-Some-after_sign.inside.now c.in-Some-2.set c.in-Some-2.rest.now c.in_default.ensures.begins c.in-Some-after_sign.ensures.begins c.in-Some-after_sign.ensures.found c.in-Some-after_sign.ensures.shorter (if_some _ _ _ _ c.in_ok-set.ensures.found c.in-Some-2.is)

pub next_suffix-returns-in_default-after_sign-2-clause-found : goal.next_suffix-returns-in_default-after_sign-2-clause-found
next_suffix-returns-in_default-after_sign-2-clause-found t c = suffix_none c.args.tokens.now c.in_default.ensures.begins c.in_default-after_sign.ensures.begins c.in_default-after_sign-2.ensures.begins

pub next_suffix-returns-in_default-3-clause-found : goal.next_suffix-returns-in_default-3-clause-found
next_suffix-returns-in_default-3-clause-found t c = suffix_none_apply c.args.tokens.now c.in-Some-after_sign-2.field-0-0.now c.in-Some-after_sign-2.inside.now c.in_default.ensures.begins c.in_default-after_sign.ensures.begins c.in-Some-after_sign-2.ensures.begins c.in-Some-after_sign-2.ensures.found c.in-Some-after_sign-2.ensures.shorter (if_none _ _ _ c.in_ok-argument.ensures.found c.in_default-3.is)

pub next_suffix-returns-clause-found : goal.next_suffix-returns-clause-found
next_suffix-returns-clause-found t c = suffix_apply c.args.tokens.now c.in-Some-after_sign-2.field-0-0.now c.in-Some-after_sign-2.inside.now c.in-Some-3.argument c.in-Some-3.rest.now c.in_default.ensures.begins c.in_default-after_sign.ensures.begins c.in-Some-after_sign-2.ensures.begins c.in-Some-after_sign-2.ensures.found c.in-Some-after_sign-2.ensures.shorter (if_some _ _ _ _ c.in_ok-argument.ensures.found c.in-Some-3.is)

pub primary-returns-in_default-clause-found : goal.primary-returns-in_default-clause-found
primary-returns-in_default-clause-found t c = if_none _ _ _ c.in_ok-opening.ensures.found c.in_default.is

pub primary-returns-in-Closed-clause-found : goal.primary-returns-in-Closed-clause-found
primary-returns-in-Closed-clause-found t c = opened (λ n. primary n c.args.tokens.now) (length c.args.tokens.now - 1) c.start_of-at.result (start c.args.tokens.now) c.in-Some.opening (Closed c.in-Closed.piece) c.in-Some.rest.now c.start_of-at.ensures c.in-Closed.is (if_some _ _ _ _ c.in_ok-opening.ensures.found c.in-Some.is)

pub primary-returns-in_default-2-clause-found : goal.primary-returns-in_default-2-clause-found
primary-returns-in_default-2-clause-found t c =
    let l : length c.in-Some.rest.now < length c.args.tokens.now = if_some _ _ _ _ c.in_ok-opening.ensures.shorter c.in-Some.is in
    around_none (λ n. primary n c.args.tokens.now) (length c.args.tokens.now - 1) c.start_of-at.result (around_node c.in-Around.form) c.in-Around.end c.in-Some.rest.now (omega (arith, l)) (opened (λ n. primary n c.args.tokens.now) (length c.args.tokens.now - 1) c.start_of-at.result (start c.args.tokens.now) c.in-Some.opening (Around c.in-Around.form c.in-Around.end) c.in-Some.rest.now c.start_of-at.ensures c.in-Around.is (if_some _ _ _ _ c.in_ok-opening.ensures.found c.in-Some.is)) (if_none _ _ _ c.in_ok-piece-in-Around.ensures.found c.in_default-2.is)

pub primary-returns-in_ok-around-in-Around-clause-found : goal.primary-returns-in_ok-around-in-Around-clause-found
primary-returns-in_ok-around-in-Around-clause-found t c =
    let l : length c.in-Some.rest.now < length c.args.tokens.now = if_some _ _ _ _ c.in_ok-opening.ensures.shorter c.in-Some.is in
    around_some (λ n. primary n c.args.tokens.now) (length c.args.tokens.now - 1) c.start_of-at.result (around_node c.in-Around.form) c.in-Around.end c.in-Some.rest.now c.in-Some-2.piece c.in-Some-2.rest.now c.in_ok-around-in-Around.field-0 (omega (arith, l)) (opened (λ n. primary n c.args.tokens.now) (length c.args.tokens.now - 1) c.start_of-at.result (start c.args.tokens.now) c.in-Some.opening (Around c.in-Around.form c.in-Around.end) c.in-Some.rest.now c.start_of-at.ensures c.in-Around.is (if_some _ _ _ _ c.in_ok-opening.ensures.found c.in-Some.is)) (if_some _ _ _ _ c.in_ok-piece-in-Around.ensures.found c.in-Some-2.is) c.in_ok-around-in-Around.ensures

pub primary-returns-in-Listed-clause-found : goal.primary-returns-in-Listed-clause-found
primary-returns-in-Listed-clause-found t c =
    let l : length c.in-Some.rest.now < length c.args.tokens.now = if_some _ _ _ _ c.in_ok-opening.ensures.shorter c.in-Some.is in
    passed (λ n. primary n c.args.tokens.now) (λ n. enclosed n (Parentheses c.start_of-at.result) CLOSE_PAREN c.in-Some.rest.now) (length c.args.tokens.now - 1) (length c.in-Some.rest.now) c.enclosed-in-Listed.result (omega (arith, l)) (opened (λ n. primary n c.args.tokens.now) (length c.args.tokens.now - 1) c.start_of-at.result (start c.args.tokens.now) c.in-Some.opening Listed c.in-Some.rest.now c.start_of-at.ensures c.in-Listed.is (if_some _ _ _ _ c.in_ok-opening.ensures.found c.in-Some.is)) c.enclosed-in-Listed.ensures.found

pub primary-returns-in-Extension-clause-found : goal.primary-returns-in-Extension-clause-found
primary-returns-in-Extension-clause-found t c =
    let l : length c.in-Some.rest.now < length c.args.tokens.now = if_some _ _ _ _ c.in_ok-opening.ensures.shorter c.in-Some.is in
    passed (λ n. primary n c.args.tokens.now) (λ n. listed n c.start_of-at.result c.in-Some.rest.now) (length c.args.tokens.now - 1) (length c.in-Some.rest.now) c.extension.result (omega (arith, l)) (opened (λ n. primary n c.args.tokens.now) (length c.args.tokens.now - 1) c.start_of-at.result (start c.args.tokens.now) c.in-Some.opening Extension c.in-Some.rest.now c.start_of-at.ensures c.in-Extension.is (if_some _ _ _ _ c.in_ok-opening.ensures.found c.in-Some.is)) c.extension.ensures.found

pub primary-returns-in_default-3-clause-found : goal.primary-returns-in_default-3-clause-found
primary-returns-in_default-3-clause-found t c =
    let l : length c.in-Some.rest.now < length c.args.tokens.now = if_some _ _ _ _ c.in_ok-opening.ensures.shorter c.in-Some.is in
    described_none (λ n. primary n c.args.tokens.now) (length c.args.tokens.now - 1) c.start_of-at.result c.in-Some.rest.now (omega (arith, l)) (opened (λ n. primary n c.args.tokens.now) (length c.args.tokens.now - 1) c.start_of-at.result (start c.args.tokens.now) c.in-Some.opening Described c.in-Some.rest.now c.start_of-at.ensures c.in-Described.is (if_some _ _ _ _ c.in_ok-opening.ensures.found c.in-Some.is)) (if_none _ _ _ c.in_ok-ranges-in-Described.ensures.found c.in_default-3.is)

pub primary-returns-in_default-4-clause-found : goal.primary-returns-in_default-4-clause-found
primary-returns-in_default-4-clause-found t c =
    let l : length c.in-Some.rest.now < length c.args.tokens.now = if_some _ _ _ _ c.in_ok-opening.ensures.shorter c.in-Some.is in
    let m : length c.in-Some-3.rest.now < length c.in-Some.rest.now = if_some _ _ _ _ c.in_ok-ranges-in-Described.ensures.shorter c.in-Some-3.is in
    described_none_body (λ n. primary n c.args.tokens.now) (length c.args.tokens.now - 1) c.start_of-at.result c.in-Some.rest.now c.in-Some-3.ranges c.in-Some-3.rest.now (omega (arith, l)) (omega (arith, l, m)) (opened (λ n. primary n c.args.tokens.now) (length c.args.tokens.now - 1) c.start_of-at.result (start c.args.tokens.now) c.in-Some.opening Described c.in-Some.rest.now c.start_of-at.ensures c.in-Described.is (if_some _ _ _ _ c.in_ok-opening.ensures.found c.in-Some.is)) (if_some _ _ _ _ c.in_ok-ranges-in-Described.ensures.found c.in-Some-3.is) (if_none _ _ _ c.in_ok-body-in-Described.ensures.found c.in_default-4.is)

pub primary-returns-in_ok-comprehension-in-Described-clause-found : goal.primary-returns-in_ok-comprehension-in-Described-clause-found
primary-returns-in_ok-comprehension-in-Described-clause-found t c =
    let l : length c.in-Some.rest.now < length c.args.tokens.now = if_some _ _ _ _ c.in_ok-opening.ensures.shorter c.in-Some.is in
    let m : length c.in-Some-3.rest.now < length c.in-Some.rest.now = if_some _ _ _ _ c.in_ok-ranges-in-Described.ensures.shorter c.in-Some-3.is in
    described_some (λ n. primary n c.args.tokens.now) (length c.args.tokens.now - 1) c.start_of-at.result c.in-Some.rest.now c.in-Some-3.ranges c.in-Some-3.rest.now c.in-Some-4.body c.in-Some-4.rest.now c.in_ok-comprehension-in-Described.field-0 (omega (arith, l)) (omega (arith, l, m)) (opened (λ n. primary n c.args.tokens.now) (length c.args.tokens.now - 1) c.start_of-at.result (start c.args.tokens.now) c.in-Some.opening Described c.in-Some.rest.now c.start_of-at.ensures c.in-Described.is (if_some _ _ _ _ c.in_ok-opening.ensures.found c.in-Some.is)) (if_some _ _ _ _ c.in_ok-ranges-in-Described.ensures.found c.in-Some-3.is) (if_some _ _ _ _ c.in_ok-body-in-Described.ensures.found c.in-Some-4.is) c.in_ok-comprehension-in-Described.ensures

pub primary-returns-in-Lambda-clause-found : goal.primary-returns-in-Lambda-clause-found
primary-returns-in-Lambda-clause-found t c =
    let l : length c.in-Some.rest.now < length c.args.tokens.now = if_some _ _ _ _ c.in_ok-opening.ensures.shorter c.in-Some.is in
    passed (λ n. primary n c.args.tokens.now) (λ n. valued n c.start_of-at.result (raw_lambda c.in-Lambda.names.items) c.in-Some.rest.now) (length c.args.tokens.now - 1) (length c.in-Some.rest.now) c.lambda.result (omega (arith, l)) (opened (λ n. primary n c.args.tokens.now) (length c.args.tokens.now - 1) c.start_of-at.result (start c.args.tokens.now) c.in-Some.opening (Lambda c.in-Lambda.names) c.in-Some.rest.now c.start_of-at.ensures c.in-Lambda.is (if_some _ _ _ _ c.in_ok-opening.ensures.found c.in-Some.is)) (c.lambda.ensures.found (raw_lambda c.in-Lambda.names.items) refl)

pub primary-returns-in_default-5-clause-found : goal.primary-returns-in_default-5-clause-found
primary-returns-in_default-5-clause-found t c =
    let l : length c.in-Some.rest.now < length c.args.tokens.now = if_some _ _ _ _ c.in_ok-opening.ensures.shorter c.in-Some.is in
    valued_over_none (λ n. primary n c.args.tokens.now) (length c.args.tokens.now - 1) c.start_of-at.result c.in-Some.rest.now (omega (arith, l)) (opened (λ n. primary n c.args.tokens.now) (length c.args.tokens.now - 1) c.start_of-at.result (start c.args.tokens.now) c.in-Some.opening RangedLambda c.in-Some.rest.now c.start_of-at.ensures c.in-RangedLambda.is (if_some _ _ _ _ c.in_ok-opening.ensures.found c.in-Some.is)) (if_none _ _ _ c.in_ok-ranges-in-RangedLambda.ensures.found c.in_default-5.is)

pub primary-returns-in-Some-5-clause-found : goal.primary-returns-in-Some-5-clause-found
primary-returns-in-Some-5-clause-found t c =
    let l : length c.in-Some.rest.now < length c.args.tokens.now = if_some _ _ _ _ c.in_ok-opening.ensures.shorter c.in-Some.is in
    let m : length c.in-Some-5.rest.now < length c.in-Some.rest.now = if_some _ _ _ _ c.in_ok-ranges-in-RangedLambda.ensures.shorter c.in-Some-5.is in
    let f : FindsRanges c.in-Some.rest.now CLOSE_PAREN c.in-Some-5.ranges c.in-Some-5.rest.now = if_some _ _ _ _ c.in_ok-ranges-in-RangedLambda.ensures.found c.in-Some-5.is in
    passed (λ n. primary n c.args.tokens.now) (λ n. valued n c.start_of-at.result (raw_ranged_lambda f.trees) c.in-Some-5.rest.now) (length c.args.tokens.now - 1) (length c.in-Some-5.rest.now) c.lambda-in-RangedLambda.result (omega (arith, l, m)) (valued_over_read (λ n. primary n c.args.tokens.now) (length c.args.tokens.now - 1) c.start_of-at.result c.in-Some.rest.now c.in-Some-5.ranges c.in-Some-5.rest.now (omega (arith, l)) (opened (λ n. primary n c.args.tokens.now) (length c.args.tokens.now - 1) c.start_of-at.result (start c.args.tokens.now) c.in-Some.opening RangedLambda c.in-Some.rest.now c.start_of-at.ensures c.in-RangedLambda.is (if_some _ _ _ _ c.in_ok-opening.ensures.found c.in-Some.is)) f) (c.lambda-in-RangedLambda.ensures.found (raw_ranged_lambda f.trees) (f.trees, refl, f.built))

pub enclosed-returns-in_default-clause-found : goal.enclosed-returns-in_default-clause-found
enclosed-returns-in_default-clause-found t c = enclosed_none c.args.inside c.args.end c.args.tokens.now (if_none _ _ _ c.in_ok-first.ensures.found c.in_default.is)

pub enclosed-returns-in_default-divider-clause-found : goal.enclosed-returns-in_default-divider-clause-found
enclosed-returns-in_default-divider-clause-found t c = enclosed_alone c.args.inside c.args.end c.args.tokens.now c.in-Some.first c.in-Some.after.now c.closed.result (if_some _ _ _ _ c.in_ok-first.ensures.found c.in-Some.is) (sym c.divider.ensures ∙ c.in_default-divider.is) c.closed.ensures.found c.closed.ensures.same

pub enclosed-loop-behind-init : goal.enclosed-loop-behind-init
enclosed-loop-behind-init t c = enclosed_begins c.args.inside c.args.tokens.now c.in-Some-divider.divider c.start_of-at.result c.in-Some.first c.in-Some.after.now (if_some _ _ _ _ c.in_ok-first.ensures.found c.in-Some.is) (if_some _ _ _ _ c.in_ok-first.ensures.shorter c.in-Some.is) (sym c.divider.ensures ∙ c.in-Some-divider.is) c.start_of-at.ensures

pub enclosed-loop-behind-preserved : goal.enclosed-loop-behind-preserved
enclosed-loop-behind-preserved t c = enclosed_goes_on c.args.inside c.args.tokens.now c.in-Some-divider.divider c.start_of-at.result c.loop-behind.left c.loop-behind.rest.now c.in-Some-after_sign.field-0-0.now c.in-Some-after_sign.behind.now c.in-Some-2.right c.in-Some-2.after.now c.in_ok-left.left c.loop-behind.invariant (subst (λ o. begins_with o c.loop-behind.rest.now ≡ true) c.sign.ensures c.in-Some-after_sign.ensures.begins) (subst (λ o. sign o c.loop-behind.rest.now ≡ Some (c.in-Some-after_sign.field-0-0.now, c.in-Some-after_sign.behind.now)) c.sign.ensures c.in-Some-after_sign.ensures.found) c.in-Some-after_sign.ensures.shorter (if_some _ _ _ _ c.in_ok-right.ensures.found c.in-Some-2.is) (if_some _ _ _ _ c.in_ok-right.ensures.shorter c.in-Some-2.is) (subst (λ f. (a : RawTree) (b : RawTree) → IsPiece a c.loop-behind.left → IsPiece b c.in-Some-2.right → IsPiece (raw c.start_of-at.result (f a b)) c.in_ok-left.left) c.form.ensures c.in_ok-left.ensures)

pub enclosed-returns-in_default-2-clause-found : goal.enclosed-returns-in_default-2-clause-found
enclosed-returns-in_default-2-clause-found t c = enclosed_fails c.args.inside c.args.end c.args.tokens.now c.in-Some-divider.divider c.start_of-at.result c.loop-behind.left c.loop-behind.rest.now c.in-Some-after_sign.field-0-0.now c.in-Some-after_sign.behind.now c.loop-behind.invariant (subst (λ o. begins_with o c.loop-behind.rest.now ≡ true) c.sign.ensures c.in-Some-after_sign.ensures.begins) (subst (λ o. sign o c.loop-behind.rest.now ≡ Some (c.in-Some-after_sign.field-0-0.now, c.in-Some-after_sign.behind.now)) c.sign.ensures c.in-Some-after_sign.ensures.found) c.in-Some-after_sign.ensures.shorter (if_none _ _ _ c.in_ok-right.ensures.found c.in_default-2.is)

pub enclosed-returns-clause-found : goal.enclosed-returns-clause-found
enclosed-returns-clause-found t c = enclosed_ends c.args.inside c.args.end c.args.tokens.now c.in-Some-divider.divider c.start_of-at.result c.loop-behind.left c.loop-behind.rest.now c.placed.result c.closed-2.result c.loop-behind.invariant (subst (λ o. begins_with o c.loop-behind.rest.now ≡ false) c.sign.ensures c.in_default-after_sign.ensures.begins) c.placed.ensures c.closed-2.ensures.found c.closed-2.ensures.same

pub extension-loop-terms-init : goal.extension-loop-terms-init
extension-loop-terms-init t c = terms_begins c.args.tokens.now _ (search rules)

pub extension-returns-in_default-clause-found : goal.extension-returns-in_default-clause-found
extension-returns-in_default-clause-found t c = listed_none c.args.at c.args.tokens.now (terms_fails c.args.tokens.now c.loop-terms.terms c.loop-terms.rest.now c.loop-terms.invariant (if_none _ _ _ c.in_ok-piece.ensures.found c.in_default.is))

pub extension-loop-terms-preserved : goal.extension-loop-terms-preserved
extension-loop-terms-preserved t c = terms_goes_on c.args.tokens.now c.loop-terms.terms c.loop-terms.rest.now c.in-Some.piece c.in-Some.after.now c.in_ok-terms.terms c.in-Some-after_sign.field-0-0.now c.in-Some-after_sign.more.now c.loop-terms.invariant (if_some _ _ _ _ c.in_ok-piece.ensures.found c.in-Some.is) (if_some _ _ _ _ c.in_ok-piece.ensures.shorter c.in-Some.is) c.in_ok-terms.ensures c.in-Some-after_sign.ensures.begins c.in-Some-after_sign.ensures.found c.in-Some-after_sign.ensures.shorter

pub extension-returns-in_default-after_sign-clause-found : goal.extension-returns-in_default-after_sign-clause-found
extension-returns-in_default-after_sign-clause-found t c = listed_ends c.args.at c.args.tokens.now c.in_ok-terms.terms c.in-Some.after.now c.in_ok-set.set c.closed.result (terms_ends c.args.tokens.now c.loop-terms.terms c.loop-terms.rest.now c.in-Some.piece c.in-Some.after.now c.in_ok-terms.terms c.loop-terms.invariant (if_some _ _ _ _ c.in_ok-piece.ensures.found c.in-Some.is) (if_some _ _ _ _ c.in_ok-piece.ensures.shorter c.in-Some.is) c.in_ok-terms.ensures c.in_default-after_sign.ensures.begins) c.in_ok-set.ensures c.closed.ensures.found c.closed.ensures.same

pub ranges-loop-at-init : goal.ranges-loop-at-init
ranges-loop-at-init t c = ranges_begins c.args.tokens.now _ (search rules)

pub ranges-returns-in_default-clause-found : goal.ranges-returns-in_default-clause-found
ranges-returns-in_default-clause-found t c = ranged_none c.args.end c.args.tokens.now (ranges_fails c.args.tokens.now c.loop-at.ranges c.loop-at.rest.now c.loop-at.invariant c.in_default.ensures.found)

pub ranges-returns-in_default-2-clause-found : goal.ranges-returns-in_default-2-clause-found
ranges-returns-in_default-2-clause-found t c = ranged_none c.args.end c.args.tokens.now (ranges_fails_behind c.args.tokens.now c.loop-at.ranges c.loop-at.rest.now c.in-Some.at c.in-Some.number c.in-Some.behind.now c.loop-at.invariant c.in-Some.ensures.found c.in-Some.ensures.shorter (if_none _ _ _ c.in_ok-piece.ensures.found c.in_default-2.is))

pub ranges-loop-at-preserved : goal.ranges-loop-at-preserved
ranges-loop-at-preserved t c = ranges_goes_on c.args.tokens.now c.loop-at.ranges c.loop-at.rest.now c.in-Some.at c.in-Some.number c.in-Some.behind.now c.in-Some-2.piece c.in-Some-2.after.now c.in_ok-ranges.ranges c.in-Some-after_sign.field-0-0.now c.in-Some-after_sign.more.now c.loop-at.invariant c.in-Some.ensures.found c.in-Some.ensures.shorter (if_some _ _ _ _ c.in_ok-piece.ensures.found c.in-Some-2.is) (if_some _ _ _ _ c.in_ok-piece.ensures.shorter c.in-Some-2.is) c.in_ok-ranges.ensures c.in-Some-after_sign.ensures.begins c.in-Some-after_sign.ensures.found c.in-Some-after_sign.ensures.shorter

pub ranges-returns-in_default-after_sign-2-clause-found : goal.ranges-returns-in_default-after_sign-2-clause-found
ranges-returns-in_default-after_sign-2-clause-found t c = ranged_none_last c.args.end c.args.tokens.now c.in_ok-ranges.ranges c.in-Some-2.after.now (ranges_ends c.args.tokens.now c.loop-at.ranges c.loop-at.rest.now c.in-Some.at c.in-Some.number c.in-Some.behind.now c.in-Some-2.piece c.in-Some-2.after.now c.in_ok-ranges.ranges c.loop-at.invariant c.in-Some.ensures.found c.in-Some.ensures.shorter (if_some _ _ _ _ c.in_ok-piece.ensures.found c.in-Some-2.is) (if_some _ _ _ _ c.in_ok-piece.ensures.shorter c.in-Some-2.is) c.in_ok-ranges.ensures c.in_default-after_sign.ensures.begins) c.in_default-after_sign-2.ensures.found

pub ranges-returns-in_default-after_sign-clause-found : goal.ranges-returns-in_default-after_sign-clause-found
ranges-returns-in_default-after_sign-clause-found t c = ranged_some c.args.end c.args.tokens.now c.in_ok-ranges.ranges c.in-Some-2.after.now c.in-Some-after_sign-2.field-0-0.now c.in-Some-after_sign-2.rest.now (ranges_ends c.args.tokens.now c.loop-at.ranges c.loop-at.rest.now c.in-Some.at c.in-Some.number c.in-Some.behind.now c.in-Some-2.piece c.in-Some-2.after.now c.in_ok-ranges.ranges c.loop-at.invariant c.in-Some.ensures.found c.in-Some.ensures.shorter (if_some _ _ _ _ c.in_ok-piece.ensures.found c.in-Some-2.is) (if_some _ _ _ _ c.in_ok-piece.ensures.shorter c.in-Some-2.is) c.in_ok-ranges.ensures c.in_default-after_sign.ensures.begins) c.in-Some-after_sign-2.ensures.found

pub lambda-returns-in_default-clause-found : goal.lambda-returns-in_default-clause-found
lambda-returns-in_default-clause-found t c = λ form b. valued_none c.args.at form c.args.tokens.now c.in_default.ensures.found

pub lambda-returns-in_default-2-clause-found : goal.lambda-returns-in_default-2-clause-found
lambda-returns-in_default-2-clause-found t c = λ form b. valued_none_body c.args.at form c.args.tokens.now c.in-Some.ensures.found.0 c.in-Some.inside.now c.in-Some.ensures.found.1 c.in-Some.ensures.shorter (if_none _ _ _ c.in_ok-body.ensures.found c.in_default-2.is)

pub lambda-returns-in_default-3-clause-found : goal.lambda-returns-in_default-3-clause-found
lambda-returns-in_default-3-clause-found t c = λ form b. valued_none_value c.args.at form c.args.tokens.now c.in-Some.ensures.found.0 c.in-Some.inside.now c.in-Some-2.body c.in-Some-2.rest.now c.in-Some.ensures.found.1 c.in-Some.ensures.shorter (if_some _ _ _ _ c.in_ok-body.ensures.found c.in-Some-2.is) (if_some _ _ _ _ c.in_ok-body.ensures.shorter c.in-Some-2.is) (if_none _ _ _ c.in_ok-value.ensures.found c.in_default-3.is)

pub lambda-returns-clause-found : goal.lambda-returns-clause-found
lambda-returns-clause-found t c = λ form b. valued_some c.args.at form c.args.tokens.now c.in-Some.ensures.found.0 c.in-Some.inside.now c.in-Some-2.body c.in-Some-2.rest.now c.in-Some-3.value c.in-Some-3.rest.now c.in_ok-lambda.field-0 c.in-Some.ensures.found.1 c.in-Some.ensures.shorter (if_some _ _ _ _ c.in_ok-body.ensures.found c.in-Some-2.is) (if_some _ _ _ _ c.in_ok-body.ensures.shorter c.in-Some-2.is) (if_some _ _ _ _ c.in_ok-value.ensures.found c.in-Some-3.is) (λ p e. c.in_ok-lambda.ensures form p e b)
