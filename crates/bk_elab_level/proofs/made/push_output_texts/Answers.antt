use Rattle.std.proofs.Common.{◌∙◌, ap, sym, List, ◌++◌, map}
use Rattle.std.proofs.lemmas.List.{append-nil}
use Rattle.bk_raw.specs.Trees.ComponentTree.{RawOperation}
use Rattle.bk_raw.specs.declared.term.RawName.{RawName}
use Rattle.bk_statics.specs.Binders.{texts}
use Rattle.bk_statics.specs.LevelOf.{at_level, output_texts}
use Rattle.bk_statics.specs.Plan.{Placed as PlacedMeant}
use Rattle.bk_scope.specs.Shown.{placed_shown}
use Rattle.bk_scope.specs.declared.plan.Placed.{Placed}
use Rattle.bk_scope.proofs.Making.{joined-more, outputs-first}
use Rattle.bk_elab_level.proofs.made.push_output_texts.Goals as goal

pub loop-placed-preserved : goal.loop-placed-preserved
loop-placed-preserved c =
    joined-more (λ (os : List Placed). output_texts c.args.level (map (λ (o : PlacedMeant). o.headed) (map placed_shown os))) (λ o os. outputs-first c.args.level (placed_shown o).headed (map (λ (q : PlacedMeant). q.headed) (map placed_shown os))) c.args.operations.now c.loop-placed.placed-index c.placed-item.result
    c.loop-placed.found.items (at_level c.args.level (texts c.deref.result.now)) c.push_at_level.new.found.items
    (c.args.found.now.items ++ output_texts c.args.level (map (λ (o : PlacedMeant). o.headed) (map placed_shown c.args.operations.now)))
    c.loop-placed-test.true c.placed-item.is
    (ap (λ (xs : List RawName). at_level c.args.level (texts xs)) (c.deref.ensures.value ∙ ap (λ (o : RawOperation). o.outputs) c.operation.view_is) ∙ sym (append-nil (at_level c.args.level (texts c.placed-item.result.operation.now.outputs)))) c.in_ok-push_at_level.ensures c.loop-placed.invariant
