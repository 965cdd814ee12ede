use Rattle.std.proofs.Common.{◌∙◌, [], ◌∷◌, List, ap, refl, cond}
use Rattle.bk_raw.specs.Errors.Blame.{blame}
use Rattle.bk_raw.specs.Errors.Faults.{wrong_value}
use Rattle.bk_elab_terms.specs.Shown.{told}
use Rattle.bk_elab_terms.specs.Visible.{visible_names, meaning_of}
use Rattle.bk_elab_terms.specs.declared.sight.Visible.{Visible}
use Rattle.bk_statics.specs.Typings.{variable_in}
use Rattle.bk_statics.specs.ValueFaults.{valued, is_missing, without_value}
use Rattle.bk_scope.specs.Shown.{refs}
use Rattle.bk_scope.proofs.FaultSteps.{told-at}
use Rattle.bk_check_clauses.proofs.values.missing_value.Goals as goal

pub loop-name-preserved : goal.loop-name-preserved
loop-name-preserved c =
    let at = c.args.component.now.name.now.at in
    let entries = valued (visible_names c.args.globals.now) (refs c.args.component.now.values.items) in
    told-at (λ (l : List Visible). without_value at entries (visible_names l)) (λ (n : Visible). cond (is_missing entries (variable_in (meaning_of n.meaning))) (wrong_value at ∷ []) []) c.args.globals.now c.loop-name.name-index _ (told c.loop-name.fault) (told c.wrong_value_if.result) (told c.earlier-fault.result) _
    (λ _ _. refl) c.loop-name-test.true (c.wrong_value_if.ensures ∙ ap (λ b. blame (cond b (wrong_value at ∷ []) [])) (rw c.deref.ensures.value at c.lacks_value-is_missing.ensures)) c.earlier-fault.ensures c.loop-name.invariant
