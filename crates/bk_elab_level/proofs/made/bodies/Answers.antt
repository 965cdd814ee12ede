use Rattle.std.proofs.Common.{◌∙◌, ap, refl, List, [], ◌∷◌, length, get_or, map, arith}
use Rattle.bk_dev.specs.Development.{Body}
use Rattle.bk_elab_terms.specs.Visible.{typing_of}
use Rattle.bk_statics.specs.LevelOf.{bodies_made}
use Rattle.bk_scope.specs.Shown.{placed_shown, plan_shown}
use Rattle.bk_scope.specs.declared.plan.Placed.{Placed}
use Rattle.bk_scope.proofs.Making.{joined-more}
use Rattle.bk_elab_level.proofs.made.bodies.Goals as goal

pub loop-placed-preserved : goal.loop-placed-preserved
loop-placed-preserved c =
    let os = c.args.plan.now.operations.items in
    joined-more (λ (qs : List Placed). bodies_made c.args.typing.max (typing_of c.args.typing.types.now) (plan_shown c.args.plan.now) (map placed_shown qs)) (λ q qs. refl) os c.loop-placed.placed-index c.placed-item.result c.loop-placed.found.items (c.in_ok-body.field-0 ∷ []) c.push.new.self.items
    (bodies_made c.args.typing.max (typing_of c.args.typing.types.now) (plan_shown c.args.plan.now) (map placed_shown os))
    (omega (arith, ap length c.deref-placed-items.ensures.value)) (c.placed-item.is ∙ ap (λ (qs : List Placed). get_or qs c.loop-placed.placed-index c.placed-item.result) c.deref-placed-items.ensures.value)
    (ap (λ (b : Body). b ∷ []) c.in_ok-body.ensures) c.in_ok-push.ensures.items c.loop-placed.invariant
