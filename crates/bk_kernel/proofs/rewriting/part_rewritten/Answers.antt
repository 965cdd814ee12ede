use Rattle.std.proofs.Common.{Err, sym, ap}
use Rattle.bk_kernel.specs.Code.{meant_by}
use Rattle.bk_kernel.proofs.LargeParts.{replaced-large}
use Rattle.bk_kernel.proofs.rewriting.part_rewritten.Goals as goal

pub returns-in-Err-TooLarge-clause-too_large : goal.returns-in-Err-TooLarge-clause-too_large
returns-in-Err-TooLarge-clause-too_large c h =
    replaced-large c.args.types.now c.args.hyps.now (meant_by c.args.change.now) c.args.form.now c.args.path.now c.in-Some.old.now c.requires (sym c.in-Some.ensures) (c.in-Err-TooLarge.ensures.too_large (ap (λ e. Err e) c.in-Err-TooLarge.field-0-is))
