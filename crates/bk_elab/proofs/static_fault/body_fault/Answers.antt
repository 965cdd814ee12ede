use Rattle.std.proofs.Common.{◌∙◌, ap, List, [], ◌∷◌}
use Rattle.bk_raw.specs.Trees.SubTree.{SubTree}
use Rattle.bk_raw.specs.Errors.Blame.{blame}
use Rattle.bk_elab_terms.specs.Shown.{told}
use Rattle.bk_elab_terms.specs.Visible.{typing_of, visible_names}
use Rattle.bk_elab_terms.specs.declared.sight.Visible.{Visible}
use Rattle.bk_statics.specs.SubFaults.{declared_faults, sub_faults}
use Rattle.bk_statics.specs.ClauseFaults.{input_faults}
use Rattle.bk_statics.specs.Plan.{body_scope}
use Rattle.bk_statics.specs.StaticFaults.{outputs_of}
use Rattle.bk_dev.specs.Facts.{writes_own}
use Rattle.bk_scope.specs.Shown.{placed_shown, plan_shown}
use Rattle.bk_check_subs.specs.Written.{writable_by}
use Rattle.bk_scope.proofs.FaultSteps.{told-three}
use Rattle.bk_elab.proofs.FaultHomes.{body-meant}
use Rattle.bk_elab.proofs.static_fault.body_fault.Goals as goal

pub returns : goal.returns
returns c = λ dev w.
    let t = c.args.typing in
    let p = c.args.plan.now in
    let v = c.variables.result in
    let o = c.outputs_of.result in
    let l = placed_shown c.args.placed.now in
    let typing = typing_of t.types.now in
    let names = visible_names c.deref-2.result.now in
    let body =
    c.in_ok-body.ensures
    ∙ (ap (λ (us : List Visible). blame (sub_faults t.max typing (visible_names us) names (writable_by (v ∷ o ∷ [])) l.binders_at c.body_of.result.now)) c.deref.ensures.value
    ∙ (ap (λ (s : SubTree). blame (sub_faults t.max typing (visible_names p.upper.items) names (writable_by (v ∷ o ∷ [])) l.binders_at s)) c.body_of.ensures
    ∙ ap blame (body-meant t.max typing v o p dev (visible_names p.upper.items) names l l.headed.operation.body c.variables.ensures.first c.variables.ensures.count c.outputs_of.ensures.first c.outputs_of.ensures.count (ap visible_names c.deref-2.ensures.value ∙ c.in_ok-names.ensures) w))) in
    told-three (input_faults typing l.headed.inputs l.headed.operation.inputs) (declared_faults typing l.outputs_at l.headed.operation.outputs)
    (sub_faults t.max typing (visible_names p.upper.items) (body_scope (plan_shown p) l) (writes_own dev p.level (outputs_of l)) l.binders_at l.headed.operation.body)
    (told c.inputs_fault-inputs.result) (told c.in_ok-outputs.outputs) (told c.in_ok-body.body) (told c.earlier-written.result) (told c.earlier.result) c.inputs_fault-inputs.ensures c.in_ok-outputs.ensures body c.earlier-written.ensures c.earlier.ensures
