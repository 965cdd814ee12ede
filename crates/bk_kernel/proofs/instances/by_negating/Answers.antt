use Rattle.std.proofs.Common.{Err, ap}
use Rattle.std.specs.Option.{option_map}
use Rattle.bk_form.specs.declared.operator.UnOp.TheVariants.{Not}
use Rattle.bk_bind.specs.declared.error.BindFault.TheVariants.{TooLarge}
use Rattle.bk_kernel.specs.Branches.{operand}
use Rattle.bk_kernel.specs.Rewriting.{becomes, negated}
use Rattle.bk_kernel.proofs.LargeInstances.{becoming-large, chain-large, handed-on}
use Rattle.bk_kernel.proofs.instances.by_negating.Goals as goal

pub returns-in_err-other-clause-too_large : goal.returns-in_err-other-clause-too_large
returns-in_err-other-clause-too_large c h =
    let old = c.args.old.now in
    let denied = c.in-Some.denied.now in
    let fault = handed-on c.from_residual.result c.in_err-other.field-0.0 TooLarge c.from_residual.ensures.1 h in
    chain-large (λ p. option_map (becomes old) (negated p)) (operand Not old) denied c.in-Some.ensures (becoming-large old (negated denied) (c.in_err-other.ensures.too_large (ap (λ e. Err e) fault)))
