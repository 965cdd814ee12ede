use Rattle.std.proofs.Common.{◌∙◌, ap, List, ◌++◌}
use Rattle.bk_raw.specs.Errors.Blame.{blame}
use Rattle.bk_elab_terms.specs.Shown.{told}
use Rattle.bk_statics.specs.Components.{abstract_names, initialisation}
use Rattle.bk_statics.specs.Plan.{Placed, scope, operations_of}
use Rattle.bk_statics.specs.Executable.{abstract_faults, stored_faults, statement_faults, operations_executable}
use Rattle.bk_check_b0.specs.Executed.{executing}
use Rattle.bk_scope.specs.Shown.{component_shown, plan_shown}
use Rattle.bk_check_b0.proofs.Executing.{told-two}
use Rattle.bk_check_b0.proofs.executable.executable_fault.Goals as goal

pub returns : goal.returns
returns c =
    let x = executing c.args.typing c.args.arrays.now in
    let p = plan_shown c.args.plan.now in
    let k = component_shown c.args.component.now in
    told-two (told c.abstract_fault-declared.result) (told c.earlier-made.result) (told c.earlier.result) (abstract_faults (abstract_names k.variables))
    (stored_faults x k.name.at k.variables p.variables_at p.variables ++ (statement_faults x (scope p) p.binders_at (initialisation k) ++ operations_executable x p (operations_of p k)))
    c.abstract_fault-declared.ensures
    (told-two (told c.in_ok-stored.stored) (told c.earlier-inner.result) (told c.earlier-made.result) (stored_faults x k.name.at k.variables p.variables_at p.variables) (statement_faults x (scope p) p.binders_at (initialisation k) ++ operations_executable x p (operations_of p k))
    c.in_ok-stored.ensures
    (told-two (told c.in_ok-start.start) (told c.in_ok-operations.operations) (told c.earlier-inner.result) (statement_faults x (scope p) p.binders_at (initialisation k)) (operations_executable x p (operations_of p k))
    c.in_ok-start.ensures
    (c.in_ok-operations.ensures ∙ ap (λ (os : List Placed). blame (operations_executable x p os)) c.requires.operations)
    c.earlier-inner.ensures)
    c.earlier-made.ensures)
    c.earlier.ensures
