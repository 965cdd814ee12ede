use Rattle.std.proofs.Common.{◌≡◌, ◌∙◌, [], ◌++◌, List, Bool, true, cond, ap, sym, rules, arith}
use Rattle.std.proofs.lemmas.Grind.{common_steps}
use Rattle.bk_dev.specs.Development.{is_implementing}
use Rattle.bk_raw.specs.Errors.Blame.{blame}
use Rattle.bk_elab_terms.specs.Shown.{told}
use Rattle.bk_elab_terms.specs.Visible.{typing_of, visible_names}
use Rattle.bk_elab_terms.specs.declared.sight.Visible.{Visible}
use Rattle.bk_statics.specs.ValueFaults.{entry_value_faults, valued, without_value, without_size}
use Rattle.bk_scope.specs.Shown.{above_shown, component_shown, refs}
use Rattle.bk_scope.proofs.FaultSteps.{told-three}
use Rattle.bk_check_clauses.proofs.values.value_fault.Goals as goal

pub returns : goal.returns
returns c =
    let max = c.args.typing.max in
    let t = typing_of c.args.typing.types.now in
    let dev = above_shown c.args.above in
    let globals = visible_names c.args.plan.now.globals.items in
    let comp = component_shown c.args.component.now in
    let entries = entry_value_faults max t globals [] comp.values in
    let values = without_value comp.name.at (valued globals comp.values) globals in
    let sizes = without_size comp.name.at globals comp.values 0 dev.table.sets in
    let implements : is_implementing comp.kind ≡ true = first_of (search rules, grind (arith, common_steps)) in
    told-three entries values sizes (told c.in_ok-entries.entries) (told c.missing_value-values.result) (told c.missing_size-sizes.result) (told c.earlier-missing.result) (told c.earlier.result)
    (c.in_ok-entries.ensures ∙ (λ i. blame (entry_value_faults max t (visible_names (c.deref.ensures.value i)) [] (refs (c.deref-2.ensures.value i)))))
    (c.missing_value-values.ensures ∙ ap (λ (l : List Visible). blame (without_value comp.name.at (valued (visible_names l) comp.values) (visible_names l))) c.deref-3.ensures.value)
    (c.missing_size-sizes.ensures ∙ ap (λ (l : List Visible). blame (without_size comp.name.at (visible_names l) comp.values 0 dev.table.sets)) c.deref-4.ensures.value)
    c.earlier-missing.ensures c.earlier.ensures
    ∙ ap (λ (b : Bool). blame (cond b (entries ++ (values ++ sizes)) [])) (sym implements)
