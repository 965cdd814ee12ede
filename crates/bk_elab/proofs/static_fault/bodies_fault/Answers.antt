use Rattle.std.proofs.Common.{◌∙◌, ap, refl, List, map}
use Rattle.bk_raw.specs.Errors.Blame.{blame}
use Rattle.bk_elab_terms.specs.Shown.{told}
use Rattle.bk_elab_terms.specs.Visible.{typing_of}
use Rattle.bk_scope.specs.declared.plan.Placed.{Placed}
use Rattle.bk_scope.specs.Shown.{placed_shown}
use Rattle.bk_elab.specs.Answered.{bodies_judged, body_judged}
use Rattle.bk_scope.proofs.FaultSteps.{told-next, told-end}
use Rattle.bk_elab.proofs.static_fault.bodies_fault.Goals as goal

pub loop-placed-init : goal.loop-placed-init
loop-placed-init c = λ dev w. refl

pub loop-placed-preserved : goal.loop-placed-preserved
loop-placed-preserved c = λ dev w.
    let t = c.args.typing in
    let p = c.args.plan.now in
    told-next (λ (l : List Placed). bodies_judged t (typing_of t.types.now) p dev (map placed_shown l)) (body_judged t (typing_of t.types.now) p dev (placed_shown c.placed-item.result)) c.deref-placed-items.result.now c.loop-placed.placed-index c.placed-item.result
    (told c.loop-placed.fault) (told c.in_ok-body_fault.field-0) (told c.earlier-fault.result) _ refl c.loop-placed-test.true c.placed-item.is (c.in_ok-body_fault.ensures dev w) c.earlier-fault.ensures (c.loop-placed.invariant dev w)

pub returns : goal.returns
returns c = λ dev w.
    let t = c.args.typing in
    let p = c.args.plan.now in
    told-end (λ (l : List Placed). bodies_judged t (typing_of t.types.now) p dev (map placed_shown l)) c.deref-placed-items.result.now c.loop-placed.placed-index (told c.loop-placed.fault) _ refl c.loop-placed-test.false (c.loop-placed.invariant dev w)
    ∙ ap (λ (l : List Placed). blame (bodies_judged t (typing_of t.types.now) p dev (map placed_shown l))) c.deref-placed-items.ensures.value
