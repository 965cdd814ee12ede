use Rattle.std.proofs.Common.{ap, refl, List, [], ◌∷◌}
use Rattle.std.specs.Borrow.{Bor}
use Rattle.bk_form.specs.Formula.{Formula}
use Rattle.bk_raw.specs.Trees.RawTree.{RawTree}
use Rattle.bk_elab_terms.specs.Visible.{typing_of, visible_names}
use Rattle.bk_statics.specs.LevelOf.{all_stated}
use Rattle.bk_scope.specs.Shown.{refs}
use Rattle.bk_scope.proofs.Making.{joined-more}
use Rattle.bk_elab_level.proofs.made.all_stated.Goals as goal

pub loop-predicate-preserved : goal.loop-predicate-preserved
loop-predicate-preserved c =
    joined-more (λ (ps : List (Bor RawTree)). all_stated c.args.typing.max (typing_of c.args.typing.types.now) (visible_names c.args.names.now) (refs ps)) (λ p ps. refl) c.args.predicates.now c.loop-predicate.predicate-index c.predicate-item.result c.loop-predicate.found.items (c.in_ok-predicate_form.field-0 ∷ []) c.push.new.self.items
    (all_stated c.args.typing.max (typing_of c.args.typing.types.now) (visible_names c.args.names.now) (refs c.args.predicates.now))
    c.loop-predicate-test.true c.predicate-item.is (ap (λ (f : Formula). f ∷ []) c.in_ok-predicate_form.ensures) c.in_ok-push.ensures.items c.loop-predicate.invariant
