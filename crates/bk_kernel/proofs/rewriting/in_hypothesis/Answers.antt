use Rattle.std.proofs.Common.{Err, ap, subst}
use Rattle.bk_kernel.specs.Rewriting.{part_rewritten}
use Rattle.bk_kernel.specs.Code.{meant_by}
use Rattle.bk_kernel.specs.Held.{HasLargePart}
use Rattle.bk_kernel.proofs.LargeParts.{hypothesis-change-large}
use Rattle.bk_kernel.proofs.rewriting.in_hypothesis.Goals as goal

pub returns-in-Err-TooLarge-clause-too_large : goal.returns-in-Err-TooLarge-clause-too_large
returns-in-Err-TooLarge-clause-too_large c h =
    let s = c.args.sequent.now in
    let change = meant_by c.args.change.now in
    let old = c.args.hypothesis.now in
    hypothesis-change-large s.goal (part_rewritten c.args.types.now s.hyps.items change old c.args.path.now) (subst (λ hyps. HasLargePart (part_rewritten c.args.types.now hyps change old c.args.path.now)) c.deref.ensures.value (c.in-Err-TooLarge.ensures.too_large (ap (λ e. Err e) c.in-Err-TooLarge.field-0-is)))
