use Rattle.std.proofs.Common.{ℕ, ◌∙◌, ap, map}
use Rattle.std.specs.Prelude.{◌||◌}
use Rattle.bk_raw.specs.Errors.Blame.{blame}
use Rattle.bk_elab_terms.specs.Shown.{told}
use Rattle.bk_statics.specs.Executable.{stored_faults, is_scalar_option}
use Rattle.bk_statics.specs.ValueFaults.{is_there}
use Rattle.bk_check_b0.specs.Executed.{executing}
use Rattle.bk_scope.specs.Shown.{declared_shown, variables_shown}
use Rattle.bk_check_b0.proofs.Executing.{stored-step}
use Rattle.bk_check_b0.proofs.executable.stored_fault.Goals as goal

pub loop-index-preserved : goal.loop-index-preserved
loop-index-preserved c =
    let x = executing c.args.typing c.args.arrays.now in
    let k = c.args.component.now in
    let ds = c.args.plan.now.variables.items in
    stored-step x k.name.now.at (variables_shown k.variables.items) c.args.plan.now.variables_at ds c.deref-variable-items.result.now c.loop-index.index _ c.is_stored-stored.result c.place_of-place.result (told c.loop-index.fault) (told c.earlier-fault.result) (told c.not_executable.result)
    (blame (stored_faults x k.name.now.at (variables_shown k.variables.items) c.args.plan.now.variables_at (map declared_shown ds)))
    c.deref-variable-items.ensures.value c.loop-index-test.true
    (c.is_stored-stored.ensures ∙ ap (λ (n : ℕ). is_scalar_option (x.typing n) || is_there (x.array n)) c.in_ok-number.ensures) c.place_of-place.ensures c.not_executable.ensures c.earlier-fault.ensures c.loop-index.invariant
