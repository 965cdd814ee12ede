use Rattle.std.proofs.Common.{◌∙◌, ap, refl, ℕ, ◌+◌, List, [], cond, map}
use Rattle.bk_raw.specs.Meaning.Outcome.{no_type}
use Rattle.bk_raw.specs.Errors.Blame.{blame}
use Rattle.bk_elab_terms.specs.Shown.{told}
use Rattle.bk_elab_terms.specs.Visible.{typing_of}
use Rattle.bk_raw.specs.Meaning.Binders.{has_type}
use Rattle.bk_statics.specs.ClauseFaults.{declared_at, place_or, variable_faults}
use Rattle.bk_scope.specs.declared.plan.Declared.{Declared}
use Rattle.bk_scope.specs.Shown.{declared_shown, variables_shown}
use Rattle.bk_scope.proofs.FaultSteps.{told-numbered, told-end}
use Rattle.bk_check_clauses.proofs.clause_fault.variable_fault.Goals as goal

pub loop-index-preserved : goal.loop-index-preserved
loop-index-preserved c =
    let t = typing_of c.args.typing.types.now in
    let at = c.args.component.now.name.now.at in
    let vs = variables_shown c.args.component.now.variables.items in
    let p = c.args.plan.now in
    told-numbered (λ (n : ℕ) (l : List Declared). variable_faults t at vs n (map declared_shown l)) (λ (n : ℕ) (v : Declared). cond (has_type (t n)) [] (no_type (place_or at (declared_at vs v.text.now)))) p.variables_at c.deref-variable-items.result.now c.loop-index.index _
    c.in_ok-number.number (told c.loop-index.fault) (told c.numbered_variable.result) (told c.earlier-fault.result) _ (λ _ _ _. refl) c.loop-index-test.true c.in_ok-number.ensures c.numbered_variable.ensures c.earlier-fault.ensures c.loop-index.invariant

pub returns : goal.returns
returns c =
    let t = typing_of c.args.typing.types.now in
    let at = c.args.component.now.name.now.at in
    let vs = variables_shown c.args.component.now.variables.items in
    let p = c.args.plan.now in
    told-end (λ (l : List Declared). variable_faults t at vs (p.variables_at + c.loop-index.index) (map declared_shown l)) c.deref-variable-items.result.now c.loop-index.index (told c.loop-index.fault) _ refl c.loop-index-test.false c.loop-index.invariant
    ∙ ap (λ (l : List Declared). blame (variable_faults t at vs p.variables_at (map declared_shown l))) c.deref-variable-items.ensures.value
