use Rattle.bk_elab.proofs.Assembling.{set-more, set-few}
use Rattle.std.proofs.Common.{◌≡◌, ◌∙◌, ap, sym, subst}
use Rattle.bk_form.specs.Table.{SetEntry, IsCounted, with_set}
use Rattle.bk_elab.proofs.levels.add_sets.Goals as goal

pub add_set-requires-clause-counted : goal.add_set-requires-clause-counted
add_set-requires-clause-counted c =
    let same : record { name = c.in_ok-name.name; elements = c.in_ok-elements.elements.items; size = c.set.inside.size } ≡ c.set-item.result =
    (λ i. record { name = c.in_ok-name.ensures i; elements = (c.in_ok-elements.ensures ∙ c.deref.ensures.value) i; size = c.set.inside.size }) ∙ c.set.view_is in
    subst IsCounted (sym same) (subst IsCounted (sym c.set-item.is) (c.requires.counted c.loop-set.set-index c.set-item.result c.loop-set-test.true))

pub add_set-requires-clause-few : goal.add_set-requires-clause-few
add_set-requires-clause-few c = set-few c.args.table.now c.args.sets.now c.loop-set.set-index c.loop-set.table c.loop-set-test.true c.loop-set.invariant c.requires.few

pub loop-set-preserved : goal.loop-set-preserved
loop-set-preserved c =
    let same : record { name = c.in_ok-name.name; elements = c.in_ok-elements.elements.items; size = c.set.inside.size } ≡ c.set-item.result =
    (λ i. record { name = c.in_ok-name.ensures i; elements = (c.in_ok-elements.ensures ∙ c.deref.ensures.value) i; size = c.set.inside.size }) ∙ c.set.view_is in
    set-more c.args.table.now c.args.sets.now c.loop-set.set-index c.set-item.result c.loop-set.table c.add_set.new.self c.loop-set-test.true c.set-item.is c.loop-set.invariant
    (c.in_ok-add_set.ensures.ok ∙ ap (λ (s : SetEntry). with_set c.loop-set.table s) same)
