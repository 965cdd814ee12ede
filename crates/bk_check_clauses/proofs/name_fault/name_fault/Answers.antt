use Rattle.std.proofs.Common.{◌∙◌, [], ◌∷◌, ◌++◌, List, map, ap}
use Rattle.std.specs.Borrow.{Bor}
use Rattle.bk_raw.specs.Meaning.Binders.{twice}
use Rattle.bk_raw.specs.Trees.ComponentTree.{RawOperation}
use Rattle.bk_raw.specs.Meaning.Names.{Names}
use Rattle.bk_raw.specs.Errors.Blame.{blame}
use Rattle.bk_elab_terms.specs.Shown.{told}
use Rattle.bk_elab_terms.specs.Visible.{visible_names}
use Rattle.bk_elab_terms.specs.declared.sight.Visible.{Visible}
use Rattle.bk_statics.specs.Above.{globals_of, upper_of}
use Rattle.bk_statics.specs.Components.{set_names, abstract_names, operation_names}
use Rattle.bk_statics.specs.NameFaults.{named_texts, taken, variable_texts, level_texts, header_twice}
use Rattle.bk_statics.specs.Plan.{Declared as Meant, declared_texts, carried}
use Rattle.bk_scope.specs.declared.plan.Declared.{Declared}
use Rattle.bk_scope.specs.Shown.{above_shown, component_shown, declared_shown, refs}
use Rattle.bk_scope.proofs.FaultSteps.{told-three, told-four}
use Rattle.bk_check_clauses.proofs.name_fault.name_fault.Goals as goal

pub returns : goal.returns
returns c =
    let dev = above_shown c.args.above in
    let comp = component_shown c.args.component.now in
    let again = taken (declared_texts (carried dev (upper_of dev))) (abstract_names comp.variables) in
    let operations = twice [] (operation_names comp.operations) in
    let headers = header_twice comp.operations in
    told-four (taken (level_texts dev.levels) (comp.name ∷ [])) (twice (named_texts (globals_of dev)) comp.declared) (taken (variable_texts 0 dev dev.levels) (set_names comp.sets ++ comp.constants)) (again ++ (operations ++ headers))
    (told c.component_fault-own.result) (told c.twice_after-declared.result) (told c.taken-hidden.result) (told c.earlier-rest.result) (told c.earlier-2.result) (told c.earlier-3.result) (told c.earlier-4.result) c.component_fault-own.ensures
    (c.twice_after-declared.ensures ∙ (λ i. blame (twice (named_texts ((ap (λ (l : List Visible). visible_names l) c.deref.ensures.value ∙ c.in_ok-globals.ensures) i)) (refs (c.deref-2.ensures.value i)))))
    (c.taken-hidden.ensures ∙ ap (λ ts. blame (taken ts (set_names comp.sets ++ comp.constants))) (ap (λ (l : List Visible). named_texts (visible_names l)) c.deref-3.ensures.value ∙ c.in_ok-variables.ensures))
    (told-three again operations headers (told c.abstract_fault-again.result) (told c.operations_fault-operations.result) (told c.headers_fault-headers.result) (told c.earlier.result) (told c.earlier-rest.result)
    (c.abstract_fault-again.ensures
    ∙ ap (λ (ds : List Meant). blame (taken (declared_texts ds) (abstract_names comp.variables)))
    (ap (λ (l : List Declared). map declared_shown l) c.deref-5.ensures.value ∙ (c.in_ok-standing.ensures ∙ ap (λ (ns : Names). carried dev ns) (ap (λ (l : List Visible). visible_names l) c.deref-4.ensures.value ∙ c.in_ok-upper.ensures))))
    (c.operations_fault-operations.ensures ∙ ap (λ (l : List (Bor RawOperation)). blame (twice [] (operation_names (refs l)))) c.deref-6.ensures.value) (c.headers_fault-headers.ensures ∙ ap (λ (l : List (Bor RawOperation)). blame (header_twice (refs l))) c.deref-7.ensures.value)
    c.earlier.ensures c.earlier-rest.ensures)
    c.earlier-2.ensures c.earlier-3.ensures c.earlier-4.ensures
