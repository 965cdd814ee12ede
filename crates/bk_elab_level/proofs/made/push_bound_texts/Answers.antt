use Rattle.std.proofs.Common.{◌∙◌, ap, sym, List, ◌++◌, map}
use Rattle.std.proofs.lemmas.List.{append-nil}
use Rattle.bk_raw.specs.Trees.ComponentTree.{RawOperation}
use Rattle.bk_statics.specs.Binders.{binder_texts}
use Rattle.bk_statics.specs.LevelOf.{bound_texts}
use Rattle.bk_statics.specs.Plan.{Placed as PlacedMeant}
use Rattle.bk_scope.specs.Shown.{placed_shown}
use Rattle.bk_scope.specs.declared.plan.Placed.{Placed}
use Rattle.bk_scope.proofs.Making.{joined-more, bound-first}
use Rattle.bk_elab_level.proofs.made.push_bound_texts.Goals as goal

pub loop-placed-preserved : goal.loop-placed-preserved
loop-placed-preserved c =
    joined-more (λ (os : List Placed). bound_texts (map (λ (o : PlacedMeant). o.headed) (map placed_shown os))) (λ o os. bound-first (placed_shown o).headed (map (λ (q : PlacedMeant). q.headed) (map placed_shown os))) c.args.operations.now c.loop-placed.placed-index c.placed-item.result
    c.loop-placed.found.items (binder_texts c.placed-item.result.operation.now.body) c.push_binder_texts.new.found.items
    (c.args.found.now.items ++ bound_texts (map (λ (o : PlacedMeant). o.headed) (map placed_shown c.args.operations.now)))
    c.loop-placed-test.true c.placed-item.is
    (sym (append-nil (binder_texts c.placed-item.result.operation.now.body))) (c.in_ok-push_binder_texts.ensures ∙ ap (λ (o : RawOperation). c.loop-placed.found.items ++ binder_texts o.body) c.operation.view_is) c.loop-placed.invariant
