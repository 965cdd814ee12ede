use Rattle.std.proofs.Common.{ℕ, ap, refl, List, [], ◌∷◌}
use Rattle.bk_scope.proofs.Making.{joined-more}
use Rattle.bk_elab.proofs.levels.copies.Goals as goal

pub loop-text-preserved : goal.loop-text-preserved
loop-text-preserved c =
    joined-more (λ (xs : List (List ℕ)). xs) (λ x xs. refl) c.args.texts.now c.loop-text.text-index c.text-item.result c.loop-text.found.items (c.in_ok-copy.field-0 ∷ []) c.push.new.self.items c.args.texts.now
    c.loop-text-test.true c.text-item.is (ap (λ (t : List ℕ). t ∷ []) c.in_ok-copy.ensures) c.in_ok-push.ensures.items c.loop-text.invariant
