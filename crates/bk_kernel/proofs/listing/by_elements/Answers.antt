use Rattle.std.proofs.Common.{[], Err, sym, ◌∙◌, ap}
use Rattle.std.specs.Prelude.{Some}
use Rattle.bk_form.specs.Each.{Each}
use Rattle.bk_form.specs.Role.{role}
use Rattle.bk_bind.specs.Limits.{IsWithinLimits}
use Rattle.bk_bind.specs.declared.error.BindFault.TheVariants.{TooLarge}
use Rattle.bk_arith.specs.Cases.{equations}
use Rattle.bk_kernel.specs.Listing.{elements_of_type}
use Rattle.bk_kernel.specs.Held.{list_in}
use Rattle.bk_kernel.proofs.LargeBranches.{elements-large}
use Rattle.bk_kernel.proofs.LargeInstances.{handed-on}
use Rattle.bk_kernel.proofs.listing.by_elements.Goals as goal

pub returns-in_err-list-clause-too_large : goal.returns-in_err-list-clause-too_large
returns-in_err-list-clause-too_large c h =
    let fault = handed-on c.from_residual-in_err-list.result c.in_err-list.field-0.0 TooLarge c.from_residual-in_err-list.ensures.1 h in
    let large : Each IsWithinLimits (equations c.args.term.now c.deref.result.now) → ⊥ = c.in_err-list.ensures.too_large (ap (λ e. Err e) fault) in
    elements-large c.args.sequent.now.goal c.args.term.now (elements_of_type c.args.types.now (role c.args.types.now [] c.args.term.now)) c.deref.result.now (sym c.in_ok-elements.ensures ∙ ap list_in c.in-Some.is ∙ ap Some (sym c.deref.ensures.value)) large
