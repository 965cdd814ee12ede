use Rattle.std.proofs.Common.{◌∙◌, ap, List, [], ◌∷◌}
use Rattle.bk_raw.specs.Trees.SubTree.{SubTree}
use Rattle.bk_raw.specs.Errors.Blame.{blame}
use Rattle.bk_elab_terms.specs.Visible.{typing_of, visible_names}
use Rattle.bk_elab_terms.specs.declared.sight.Visible.{Visible}
use Rattle.bk_statics.specs.SubFaults.{sub_faults}
use Rattle.bk_statics.specs.Components.{initialisation}
use Rattle.bk_scope.specs.Shown.{component_shown}
use Rattle.bk_check_subs.specs.Written.{writable_by}
use Rattle.bk_elab.proofs.FaultHomes.{start-meant}
use Rattle.bk_elab.proofs.static_fault.start_fault.Goals as goal

pub returns : goal.returns
returns c = λ dev w.
    let t = c.args.typing in
    let p = c.args.plan.now in
    let v = c.variables.result in
    let typing = typing_of t.types.now in
    let names = visible_names c.deref-2.result.now in
    let start = initialisation (component_shown c.args.component.now) in
    c.in_ok-fault.ensures
    ∙ (ap (λ (us : List Visible). blame (sub_faults t.max typing (visible_names us) names (writable_by (v ∷ [])) p.binders_at c.start.result.now)) c.deref.ensures.value
    ∙ (ap (λ (s : SubTree). blame (sub_faults t.max typing (visible_names p.upper.items) names (writable_by (v ∷ [])) p.binders_at s)) c.start.ensures
    ∙ ap blame (start-meant t.max typing v p dev (visible_names p.upper.items) names start c.variables.ensures.first c.variables.ensures.count (ap visible_names c.deref-2.ensures.value ∙ c.in_ok-names.ensures) w)))
