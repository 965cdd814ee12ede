use Rattle.std.proofs.Common.{◌≡◌, ◌∙◌, ap}
use Rattle.bk_form.specs.Table.{SetEntry}
use Rattle.bk_scripts.proofs.Sighted.{one_set_hidden}
use Rattle.bk_scripts.proofs.sight.hidden_sets.Goals as goal

pub loop-set-preserved : goal.loop-set-preserved
loop-set-preserved c =
    let named : c.in_ok-name.name ≡ c.set-item.result.name = c.in_ok-name.ensures ∙ ap (λ (s : SetEntry). s.name) c.set.view_is in
    let listed : c.deref.result.now ≡ c.set-item.result.elements = c.deref.ensures.value ∙ ap (λ (s : SetEntry). s.elements) c.set.view_is in
    one_set_hidden c.args.sets.now c.loop-set.set-index c.set-item.result c.in_ok-name.name c.deref.result.now c.loop-set.entries.items _ _
    c.loop-set-test.true c.set-item.is named listed c.loop-set.invariant c.in_ok-push.ensures.items c.in_ok-hide.ensures
