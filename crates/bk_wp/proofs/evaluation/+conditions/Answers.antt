use Rattle.std.proofs.Common.{◌≡◌, inl, inr, [], sym, ap, ◌∙◌, subst, arith}
use Rattle.std.specs.Option.{option_copied}
use Rattle.bk_bind.specs.Limits.{IsWithinLimits}
use Rattle.bk_gsl.specs.Substitution.{Substitution, pre, guard, assert}
use Rattle.bk_gsl.specs.Codes.SubView.{sub_view}
use Rattle.bk_wd.specs.Joining.{both, where_true}
use Rattle.bk_wd.specs.WellDefined.{defined}
use Rattle.bk_wd.proofs.Within.{within_both_left}
use Rattle.bk_wp.specs.Guarded.{guarded}
use Rattle.bk_wp.proofs.evaluation.+conditions.Goals as goal

pub returns-in_err-test-in-Pre-clause-too_large : goal.returns-in_err-test-in-Pre-clause-too_large
returns-in_err-test-in-Pre-clause-too_large t c = λ e w.
    let table = c.args.types.now in
    let arrays = option_copied c.args.arrays in
    let p = c.in-Pre.p in
    let s = c.in-Pre.s in
    let whole = both (defined table [] p) (where_true p (guarded table arrays s)) in
    let at = λ (x : Substitution) (h : c.args.sub.now ≡ x). subst (λ y. IsWithinLimits (guarded table arrays y)) h w in
    let asked : IsWithinLimits whole = elim c.in-Pre.is [
      | inl h ↦ at (pre p s) (sym c.sub.view_is ∙ ap sub_view (sym c.deref.ensures ∙ h))
      | inr y ↦ elim y [ inl h ↦ at (guard p s) (sym c.sub.view_is ∙ ap sub_view (sym c.deref.ensures ∙ h)) | inr h ↦ at (assert p s) (sym c.sub.view_is ∙ ap sub_view (sym c.deref.ensures ∙ h)) ]
    ] in
    c.in_err-test-in-Pre.ensures.too_large (grind arith) (within_both_left (defined table [] p) (where_true p (guarded table arrays s)) asked)
