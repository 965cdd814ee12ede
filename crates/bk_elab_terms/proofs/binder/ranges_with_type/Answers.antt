use Rattle.std.proofs.Common.{◌+◌, ◌++◌, ◌∷◌, [], List, sym, ◌∙◌, ap, subst}
use Rattle.std.specs.Prelude.{Option, Some}
use Rattle.bk_form.specs.Formula.{Formula}
use Rattle.bk_val.specs.ValueType.{ValueType}
use Rattle.bk_elab_terms.specs.declared.binder.Ranged.{Ranged as RangedName}
use Rattle.bk_elab_terms.specs.Sights.{with_last}
use Rattle.bk_elab_terms.proofs.Taken.{TakenSoFar, next-taken}
use Rattle.bk_elab_terms.proofs.binder.ranges_with_type.Goals as goal

pub loop-name-preserved : goal.loop-name-preserved
loop-name-preserved c =
    subst (λ (fs : List Formula). TakenSoFar fs (Some c.in_ok-tuple_with.field-0) c.args.names.now (c.loop-name.name-index + 1))
    (ap (λ (f : Formula). c.loop-name.ranges.items ++ f ∷ []) (sym c.in_ok-copy.ensures) ∙ sym c.in_ok-push.ensures.items)
    (subst (λ (o : Option ValueType). TakenSoFar (c.loop-name.ranges.items ++ c.in-Some.form ∷ []) o c.args.names.now (c.loop-name.name-index + 1))
    (ap (λ (t : ValueType). Some (with_last c.loop-name.tuple t)) (sym c.in_ok-copy-2.ensures) ∙ ap Some (sym c.in_ok-tuple_with.ensures))
    (next-taken c.loop-name.ranges.items c.loop-name.tuple c.args.names.now c.loop-name.name-index c.name-item.result (c.in-Some.form, c.in-Some.ty, c.in-Some.field-0-2) c.loop-name.invariant c.loop-name-test.true
    (ap (λ (r : RangedName). r.range) (sym c.name-item.is) ∙ c.in-Some.is)))
