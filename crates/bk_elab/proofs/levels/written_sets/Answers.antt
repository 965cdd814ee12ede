use Rattle.std.proofs.Common.{refl, List, [], ◌∷◌}
use Rattle.std.specs.Borrow.{Bor}
use Rattle.bk_raw.specs.Trees.ComponentTree.{RawSet}
use Rattle.bk_statics.specs.Plan.{entries_of}
use Rattle.bk_scope.specs.Shown.{refs}
use Rattle.bk_scope.proofs.Making.{joined-more}
use Rattle.bk_elab.proofs.levels.written_sets.Goals as goal

pub loop-set-preserved : goal.loop-set-preserved
loop-set-preserved c =
    joined-more (λ (xs : List (Bor RawSet)). entries_of (refs xs)) (λ x xs. refl) c.args.sets.now c.loop-set.set-index c.set-item.result c.loop-set.found.items (c.in_ok-written_set.field-0 ∷ []) c.push.new.self.items (entries_of (refs c.args.sets.now))
    c.loop-set-test.true c.set-item.is c.in_ok-written_set.ensures c.in_ok-push.ensures.items c.loop-set.invariant
