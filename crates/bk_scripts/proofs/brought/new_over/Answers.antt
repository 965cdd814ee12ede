use Rattle.std.proofs.Common.{◌∙◌, sym, ap, take, map, ◌++◌, ◌∷◌, []}
use Rattle.std.proofs.lemmas.List.{map-append}
use Rattle.bk_scripts.specs.Brought.{new_over, is_in_scope}
use Rattle.bk_scripts.proofs.Bringing.{further, new_here, new_past}
use Rattle.bk_scripts.proofs.brought.new_over.Goals.{then-not-has_entry+in_ok-push, else-not-has_entry}
use Rattle.bk_scripts.proofs.brought.new_over.Goals as goal

pub loop-name-preserved : goal.loop-name-preserved
loop-name-preserved c =
    let names = c.args.names.now in
    let i = c.loop-name.name-index in
    let x = c.name-item.result in
    let own = c.args.own.now in
    let next = ap (new_over own) (further (λ y. y.now) names i x c.loop-name-test.true c.name-item.is) in
    let told = sym (ap (is_in_scope own) c.as_bytes.ensures.value) ∙ sym c.has_entry.ensures in
    elim c.if-not-has_entry.branch [
      | then-not-has_entry+in_ok-push w ↦
          ap (map (λ y. y.now)) (ap (λ v. v.items) w.new-is ∙ w.in_ok-push.ensures.items) ∙ (map-append (λ y. y.now) c.loop-name.new.items (x ∷ [])
          ∙ (ap (λ xs. xs ++ x.now ∷ []) c.loop-name.invariant ∙ sym (next ∙ new_here own (map (λ y. y.now) (take i names)) x.now (told ∙ w.if-not-has_entry.true))))
      | else-not-has_entry w ↦
          ap (map (λ y. y.now)) (ap (λ v. v.items) w.new-is) ∙ (c.loop-name.invariant ∙ sym (next ∙ new_past own (map (λ y. y.now) (take i names)) x.now (told ∙ w.if-not-has_entry.false)))
    ]
