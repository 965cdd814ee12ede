use Rattle.std.proofs.Common.{◌∙◌, ap, refl, List, [], ◌∷◌, map}
use Rattle.bk_raw.specs.Errors.Blame.{blame}
use Rattle.bk_elab_terms.specs.Shown.{told}
use Rattle.bk_statics.specs.Components.{abstract_names}
use Rattle.bk_statics.specs.NameFaults.{taken}
use Rattle.bk_statics.specs.Plan.{declared_texts}
use Rattle.bk_scope.specs.declared.component.WrittenVariable.{WrittenVariable}
use Rattle.bk_scope.specs.Shown.{declared_shown, variable_shown, variables_shown}
use Rattle.bk_scope.proofs.FaultSteps.{told-item, told-end}
use Rattle.bk_scope.proofs.FaultLists.{taken-abstract}
use Rattle.bk_check_clauses.proofs.name_fault.abstract_fault.Goals as goal

pub loop-variable-preserved : goal.loop-variable-preserved
loop-variable-preserved c =
    let ts = declared_texts (map declared_shown c.args.standing.now) in
    told-item (λ (l : List WrittenVariable). taken ts (abstract_names (variables_shown l))) (λ (v : WrittenVariable). taken ts (abstract_names (variable_shown v ∷ []))) c.deref-variable-items.result.now c.loop-variable.variable-index c.variable-item.result
    (told c.loop-variable.fault) (told c.abstract_one.result) (told c.earlier-fault.result) _ (λ v l. taken-abstract ts (variable_shown v) (variables_shown l)) c.loop-variable-test.true c.variable-item.is c.abstract_one.ensures c.earlier-fault.ensures c.loop-variable.invariant

pub returns : goal.returns
returns c =
    let ts = declared_texts (map declared_shown c.args.standing.now) in
    told-end (λ (l : List WrittenVariable). taken ts (abstract_names (variables_shown l))) c.deref-variable-items.result.now c.loop-variable.variable-index (told c.loop-variable.fault) _ refl c.loop-variable-test.false c.loop-variable.invariant
    ∙ ap (λ (l : List WrittenVariable). blame (taken ts (abstract_names (variables_shown l)))) c.deref-variable-items.ensures.value
