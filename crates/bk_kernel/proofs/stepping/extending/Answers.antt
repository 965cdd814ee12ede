use Rattle.std.proofs.Common.{Err, ap}
use Rattle.bk_seq.specs.Sequents.{sequent_of}
use Rattle.bk_kernel.specs.Rules.{branches}
use Rattle.bk_kernel.proofs.Steps.{large-not-fine}
use Rattle.bk_kernel.proofs.stepping.extending.Goals as goal

pub returns-in-Err-TooLarge-clause-no_instance : goal.returns-in-Err-TooLarge-clause-no_instance
returns-in-Err-TooLarge-clause-no_instance c h =
    large-not-fine c.args.types.now (branches c.args.types.now (sequent_of c.args.sequent) c.args.rule.now) (c.in-Err-TooLarge.ensures.too_large (ap (λ e. Err e) c.in-Err-TooLarge.field-0-is))
