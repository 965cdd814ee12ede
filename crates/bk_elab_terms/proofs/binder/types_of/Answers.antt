use Rattle.std.proofs.Common.{◌+◌, ◌++◌, ◌∷◌, [], List, take, sym, ◌∙◌, ap, subst}
use Rattle.std.specs.Prelude.{Some}
use Rattle.bk_val.specs.ValueType.{ValueType}
use Rattle.bk_elab_terms.specs.declared.sight.Local.{Local}
use Rattle.bk_elab_terms.specs.Sights.{bounds_of, TypesOf}
use Rattle.bk_elab_terms.proofs.Bindings.{types-next}
use Rattle.bk_elab_terms.proofs.binder.types_of.Goals as goal

pub loop-local-preserved : goal.loop-local-preserved
loop-local-preserved c =
    subst (λ (ts : List ValueType). TypesOf (Some ts) (bounds_of (take (c.loop-local.local-index + 1) c.args.locals.now)))
    (ap (λ (t : ValueType). c.loop-local.types.items ++ t ∷ []) (sym c.in_ok-copy.ensures) ∙ sym c.in_ok-push.ensures.items)
    (types-next c.loop-local.types.items c.args.locals.now c.loop-local.local-index c.local-item.result c.in-Some.ty c.loop-local-test.true (ap (λ (l : Local). l.ty) (sym c.local-item.is) ∙ c.in-Some.is) c.loop-local.invariant)
