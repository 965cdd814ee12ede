use Rattle.std.proofs.Common.{◌∙◌, ap, List}
use Rattle.bk_elab_terms.specs.Visible.{visible_names}
use Rattle.bk_elab_terms.specs.declared.sight.Visible.{Visible}
use Rattle.bk_raw.specs.Meaning.Names.{Names}
use Rattle.bk_raw.specs.Trees.ComponentTree.{RawOperation}
use Rattle.bk_statics.specs.Plan.{body_scope}
use Rattle.bk_scope.specs.Shown.{plan_shown, placed_shown}
use Rattle.bk_raw.specs.Errors.Blame.{blame}
use Rattle.bk_statics.specs.Executable.{statement_faults}
use Rattle.bk_check_b0.specs.Executed.{executing}
use Rattle.bk_check_b0.proofs.executable.body_fault.Goals as goal

pub returns : goal.returns
returns c =
    let x = executing c.args.typing c.args.arrays.now in
    let o = c.args.placed.now in
    c.in_ok-fault.ensures
    ∙ (ap (λ (ns : Names). blame (statement_faults x ns o.binders_at c.operation.inside.body)) (ap (λ (vs : List Visible). visible_names vs) c.deref.ensures.value ∙ c.in_ok-names.ensures)
    ∙ ap (λ (q : RawOperation). blame (statement_faults x (body_scope (plan_shown c.args.plan.now) (placed_shown o)) o.binders_at q.body)) c.operation.view_is)
