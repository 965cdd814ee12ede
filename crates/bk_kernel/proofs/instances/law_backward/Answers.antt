use Rattle.std.proofs.Common.{Err, ap}
use Rattle.bk_bind.specs.declared.error.BindFault.TheVariants.{TooLarge}
use Rattle.bk_kernel.specs.Rewriting.{law_instance}
use Rattle.bk_kernel.proofs.LargeInstances.{turned-large, handed-on}
use Rattle.bk_kernel.proofs.instances.law_backward.Goals as goal

pub returns-in_err-found-clause-too_large : goal.returns-in_err-found-clause-too_large
returns-in_err-found-clause-too_large c h =
    let fault = handed-on c.from_residual.result c.in_err-found.field-0.0 TooLarge c.from_residual.ensures.1 h in
    turned-large (law_instance c.args.law c.args.picks.now) (c.in_err-found.ensures.too_large (ap (λ e. Err e) fault))
