use Rattle.std.proofs.Common.{◌∙◌, ◌++◌, List, ap}
use Rattle.std.specs.Borrow.{Bor}
use Rattle.bk_raw.specs.declared.term.RawName.{RawName}
use Rattle.bk_raw.specs.Trees.ComponentTree.{RawSet}
use Rattle.bk_raw.specs.Meaning.Names.{Names}
use Rattle.bk_raw.specs.Errors.Blame.{blame}
use Rattle.bk_elab_terms.specs.Shown.{told}
use Rattle.bk_elab_terms.specs.Visible.{typing_of, visible_names}
use Rattle.bk_elab_terms.specs.declared.sight.Visible.{Visible}
use Rattle.bk_statics.specs.ClauseFaults.{set_faults, constant_faults, variable_faults, stated_faults, all_stated_faults, entry_faults}
use Rattle.bk_statics.specs.Plan.{invariant_scope}
use Rattle.bk_scope.specs.Shown.{component_shown, plan_shown, refs}
use Rattle.bk_scope.proofs.FaultSteps.{told-four}
use Rattle.bk_check_clauses.proofs.clause_fault.clause_fault.Goals as goal

pub returns : goal.returns
returns c =
    let max = c.args.typing.max in
    let t = typing_of c.args.typing.types.now in
    let p = plan_shown c.args.plan.now in
    let comp = component_shown c.args.component.now in
    let shown : List Visible → Names = λ (l : List Visible). visible_names l in
    let properties = stated_faults max t p.globals comp.properties in
    let invariant = stated_faults max t (invariant_scope p) comp.invariant in
    let assertions = all_stated_faults max t (invariant_scope p) comp.assertions in
    let entries = entry_faults max t p.globals comp.values in
    told-four (set_faults comp.sets) (constant_faults t p.constants_at comp.constants) (variable_faults t comp.name.at comp.variables p.variables_at p.variables) (properties ++ (invariant ++ (assertions ++ entries)))
    (told c.set_fault-sets.result) (told c.in_ok-constants.constants) (told c.in_ok-variables.variables) (told c.earlier-clauses.result) (told c.earlier-3.result) (told c.earlier-4.result) (told c.earlier-5.result)
    (c.set_fault-sets.ensures ∙ ap (λ (l : List (Bor RawSet)). blame (set_faults (refs l))) c.deref.ensures.value) (c.in_ok-constants.ensures ∙ ap (λ (l : List (Bor RawName)). blame (constant_faults t p.constants_at (refs l))) c.deref-2.ensures.value) c.in_ok-variables.ensures
    (told-four properties invariant assertions entries (told c.in_ok-properties.properties) (told c.in_ok-invariant.invariant) (told c.in_ok-assertions.assertions) (told c.in_ok-entries.entries) (told c.earlier.result) (told c.earlier-2.result) (told c.earlier-clauses.result)
    (c.in_ok-properties.ensures ∙ ap (λ (l : List Visible). blame (stated_faults max t (visible_names l) comp.properties)) c.deref-3.ensures.value)
    (c.in_ok-invariant.ensures ∙ ap (λ (ns : Names). blame (stated_faults max t ns comp.invariant)) (ap shown c.deref-4.ensures.value ∙ c.in_ok-joined.ensures))
    (c.in_ok-assertions.ensures ∙ (λ i. blame (all_stated_faults max t ((ap shown c.deref-5.ensures.value ∙ c.in_ok-joined.ensures) i) (refs (c.deref-6.ensures.value i)))))
    (c.in_ok-entries.ensures ∙ (λ i. blame (entry_faults max t (visible_names (c.deref-7.ensures.value i)) (refs (c.deref-8.ensures.value i))))) c.earlier.ensures c.earlier-2.ensures c.earlier-clauses.ensures)
    c.earlier-3.ensures c.earlier-4.ensures c.earlier-5.ensures
