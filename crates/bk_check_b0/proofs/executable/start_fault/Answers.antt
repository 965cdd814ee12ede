use Rattle.std.proofs.Common.{◌∙◌, ap, sym, List}
use Rattle.std.specs.Option.{option_copied}
use Rattle.std.specs.Prelude.{Option}
use Rattle.std.specs.Borrow.{Bor}
use Rattle.bk_raw.specs.Errors.Blame.{blame}
use Rattle.bk_elab_terms.specs.Visible.{visible_names}
use Rattle.bk_elab_terms.specs.declared.sight.Visible.{Visible}
use Rattle.bk_statics.specs.Components.{initialisation}
use Rattle.bk_statics.specs.Executable.{statement_faults}
use Rattle.bk_statics.specs.Plan.{scope}
use Rattle.bk_check_b0.specs.Executed.{executing}
use Rattle.bk_scope.specs.Shown.{component_shown, plan_shown}
use Rattle.bk_raw.specs.Meaning.Names.{Names}
use Rattle.bk_raw.specs.Trees.SubTree.{SubTree}
use Rattle.bk_check_b0.proofs.executable.start_fault.Goals as goal

pub returns-in-Some : goal.returns-in-Some
returns-in-Some c =
    let x = executing c.args.typing c.args.arrays.now in
    let p = plan_shown c.args.plan.now in
    let k = component_shown c.args.component.now in
    c.in_ok-fault-in-Some.ensures
    ∙ (ap (λ (ns : Names). blame (statement_faults x ns p.binders_at c.in-Some.init.now)) (ap (λ (vs : List Visible). visible_names vs) c.deref.ensures.value ∙ c.in_ok-names.ensures)
    ∙ sym (ap (λ (o : Option (Bor SubTree)). blame (statement_faults x (scope p) p.binders_at (initialisation (record k { init = option_copied o })))) c.in-Some.is))
