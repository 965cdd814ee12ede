use Rattle.std.proofs.Common.{ℕ, ap, refl, List, [], ◌∷◌}
use Rattle.bk_raw.specs.declared.term.RawName.{RawName}
use Rattle.bk_statics.specs.Binders.{texts}
use Rattle.bk_scope.proofs.Making.{joined-more}
use Rattle.bk_elab.proofs.levels.texts_of.Goals as goal

pub loop-name-preserved : goal.loop-name-preserved
loop-name-preserved c =
    joined-more (λ (xs : List RawName). texts xs) (λ x xs. refl) c.args.names.now c.loop-name.name-index c.name-item.result c.loop-name.found.items (c.in_ok-copy.field-0 ∷ []) c.push.new.self.items (texts c.args.names.now)
    c.loop-name-test.true c.name-item.is (ap (λ (t : List ℕ). t ∷ []) c.in_ok-copy.ensures) c.in_ok-push.ensures.items c.loop-name.invariant
