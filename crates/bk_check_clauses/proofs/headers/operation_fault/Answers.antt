use Rattle.std.proofs.Common.{◌∙◌, ap, false}
use Rattle.bk_raw.specs.Trees.SubTree.{SubTree}
use Rattle.bk_raw.specs.Errors.Blame.{blame}
use Rattle.bk_elab_terms.specs.Shown.{told}
use Rattle.bk_statics.specs.Components.{initialisation, is_machine}
use Rattle.bk_statics.specs.OperationFaults.{shape_faults, missing_init, bodies_shape, lower_faults}
use Rattle.bk_statics.specs.Plan.{Plan, plan}
use Rattle.bk_scope.specs.Shown.{above_shown, component_shown}
use Rattle.bk_scope.proofs.FaultSteps.{told-four}
use Rattle.bk_check_clauses.proofs.headers.operation_fault.Goals as goal

pub returns : goal.returns
returns c =
    let dev = above_shown c.args.above in
    let comp = component_shown c.args.component.now in
    told-four (missing_init comp.at comp.init (plan dev comp).variables) (shape_faults comp.kind false (initialisation comp)) (bodies_shape comp.kind comp.operations) (lower_faults (is_machine comp.kind) dev comp) (told c.missing_start-missing.result) (told c.shape_fault-start.result) (told c.bodies_shape-bodies.result) (told c.in_ok-lower.lower) _ _ _
    (c.missing_start-missing.ensures ∙ ap (λ (p : Plan). blame (missing_init comp.at comp.init p.variables)) c.requires.planned.shown)
    (c.shape_fault-start.ensures ∙ ap (λ (s : SubTree). blame (shape_faults comp.kind false s)) c.start.ensures) c.bodies_shape-bodies.ensures c.in_ok-lower.ensures c.earlier.ensures c.earlier-2.ensures c.earlier-3.ensures
