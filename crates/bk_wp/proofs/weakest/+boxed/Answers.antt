use Rattle.std.proofs.Common.{◌≡◌, sym, ap, ◌∙◌, subst, arith}
use Rattle.bk_bind.specs.Limits.{IsWithinLimits}
use Rattle.bk_gsl.specs.Substitution.{any}
use Rattle.bk_gsl.specs.Codes.SubView.{sub_view}
use Rattle.bk_wp.specs.Box.{box}
use Rattle.bk_wp.proofs.Growth.{within_all_of}
use Rattle.bk_wp.proofs.weakest.+boxed.Goals as goal

pub returns-in_err-boxed-in-Any-clause-too_large : goal.returns-in_err-boxed-in-Any-clause-too_large
returns-in_err-boxed-in-Any-clause-too_large t c = λ e w.
    let table = c.args.types.now in
    let zs = c.in-Any.locals.items in
    let s = c.in-Any.s in
    let is : c.args.sub.now ≡ any zs s = sym c.sub.view_is ∙ ap sub_view (sym c.deref.ensures ∙ c.in-Any.is) in
    let inner : IsWithinLimits (box table s c.args.post) = within_all_of table zs (box table s c.args.post) (subst (λ x. IsWithinLimits (box table x c.args.post)) is w) in
    c.in_err-boxed-in-Any.ensures.too_large (grind arith) inner
