use Rattle.std.proofs.Common.{Err, ap}
use Rattle.std.specs.Option.{option_map}
use Rattle.bk_form.specs.declared.operator.BinOp.TheVariants.{In}
use Rattle.bk_bind.specs.declared.error.BindFault.TheVariants.{TooLarge}
use Rattle.bk_kernel.specs.Branches.{sides}
use Rattle.bk_kernel.specs.Rewriting.{becomes, witness}
use Rattle.bk_kernel.proofs.LargeInstances.{becoming-large, chain-large, handed-on}
use Rattle.bk_kernel.proofs.instances.by_witnessing.Goals as goal

pub returns-in_err-there-clause-too_large : goal.returns-in_err-there-clause-too_large
returns-in_err-there-clause-too_large c h =
    let table = c.args.types.now in
    let old = c.args.old.now in
    let element = c.in-Some.element.now in
    let set = c.in-Some.set.now in
    let fault = handed-on c.from_residual.result c.in_err-there.field-0.0 TooLarge c.from_residual.ensures.1 h in
    chain-large (λ x. option_map (becomes old) (witness table x.0 x.1)) (sides In old) (element, set) c.in-Some.ensures (becoming-large old (witness table element set) (c.in_err-there.ensures.too_large (ap (λ e. Err e) fault)))
