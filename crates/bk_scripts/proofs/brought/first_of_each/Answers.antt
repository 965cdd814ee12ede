use Rattle.std.proofs.Common.{◌∙◌, sym, ap, map}
use Rattle.std.proofs.lemmas.Bool.{not-true, not-false}
use Rattle.bk_scripts.proofs.Bringing.{seen_first, seen_again}
use Rattle.bk_scripts.proofs.brought.first_of_each.Goals.{then-branch+in_ok-push, else-branch}
use Rattle.bk_scripts.proofs.brought.first_of_each.Goals as goal

pub loop-name-preserved : goal.loop-name-preserved
loop-name-preserved c =
    elim c.if-branch.branch [
      | then-branch+in_ok-push w ↦
          let new = seen_first (λ x. x.now) c.args.names.now c.loop-name.name-index c.name-item.result c.loop-name-test.true c.name-item.is (λ k. k.items) c.loop-name.texts.keys c.insert.new.self.keys c.in_ok-copy.copy c.loop-name.first.items c.loop-name.invariant.firsts c.loop-name.invariant.texts (c.in_ok-copy.ensures.items ∙ c.as_bytes.ensures.value) c.in_ok-insert.ensures.keys (not-true _ (sym c.in_ok-insert.ensures.added ∙ w.if-branch.true)) in
          let is = ap (λ v. v.items) w.first-is ∙ w.in_ok-push.ensures.items in
          record { firsts = ap (map (λ x. x.now)) is ∙ new.0; texts = new.1 ∙ sym (ap (λ xs. map (λ y. y.name.text) (map (λ x. x.now) xs)) is) }
      | else-branch w ↦
          let old = seen_again (λ x. x.now) c.args.names.now c.loop-name.name-index c.name-item.result c.loop-name-test.true c.name-item.is (λ k. k.items) c.loop-name.texts.keys c.insert.new.self.keys c.in_ok-copy.copy c.loop-name.first.items c.loop-name.invariant.firsts c.loop-name.invariant.texts (c.in_ok-copy.ensures.items ∙ c.as_bytes.ensures.value) c.in_ok-insert.ensures.keys (not-false _ (sym c.in_ok-insert.ensures.added ∙ w.if-branch.false)) in
          let is = ap (λ v. v.items) w.first-is in
          record { firsts = ap (map (λ x. x.now)) is ∙ old.0; texts = old.1 ∙ sym (ap (λ xs. map (λ y. y.name.text) (map (λ x. x.now) xs)) is) }
    ]
