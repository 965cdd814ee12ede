use Rattle.std.proofs.Common.{◌∙◌, ap, refl, List, length, get_or, map, arith}
use Rattle.bk_raw.specs.Errors.Blame.{blame}
use Rattle.bk_elab_terms.specs.Shown.{told}
use Rattle.bk_elab_terms.specs.Visible.{visible_names}
use Rattle.bk_raw.specs.Trees.ComponentTree.{RawOperation}
use Rattle.bk_raw.specs.declared.term.RawName.{RawName}
use Rattle.bk_statics.specs.Executable.{operations_executable, output_scalars, input_scalars}
use Rattle.bk_check_b0.specs.Executed.{executing}
use Rattle.bk_scope.specs.Shown.{placed_shown, plan_shown}
use Rattle.bk_scope.specs.declared.plan.Placed.{Placed}
use Rattle.bk_check_b0.proofs.Executing.{operations-more}
use Rattle.bk_check_b0.proofs.executable.operations_fault.Goals as goal

pub loop-placed-preserved : goal.loop-placed-preserved
loop-placed-preserved c =
    let x = executing c.args.typing c.args.arrays.now in
    let p = plan_shown c.args.plan.now in
    let os = c.args.plan.now.operations.items in
    let o = c.placed-item.result in
    operations-more x p os c.loop-placed.placed-index o (told c.loop-placed.fault) (told c.earlier-fault.result) (told c.in_ok-outputs.outputs) (told c.input_scalars-inputs.result) (told c.in_ok-body.body) (told c.earlier-own.result) (told c.earlier-inner.result)
    (blame (operations_executable x p (map placed_shown os)))
    (omega (arith, ap length c.deref-placed-items.ensures.value)) (c.placed-item.is ∙ ap (λ (qs : List Placed). get_or qs c.loop-placed.placed-index o) c.deref-placed-items.ensures.value)
    (c.in_ok-outputs.ensures x refl ∙ ap (λ (ys : List RawName). blame (output_scalars x o.outputs_at ys)) (c.deref.ensures.value ∙ ap (λ (q : RawOperation). q.outputs) c.operation.view_is))
    (c.input_scalars-inputs.ensures x refl ∙ (λ i. blame (input_scalars x (visible_names (c.deref-in-loop-placed.ensures.value i)) ((c.deref-in-loop-placed-2.ensures.value ∙ ap (λ (q : RawOperation). q.inputs) c.operation.view_is) i))))
    c.in_ok-body.ensures
    c.earlier-inner.ensures c.earlier-own.ensures c.earlier-fault.ensures c.loop-placed.invariant
