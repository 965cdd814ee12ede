use Rattle.std.proofs.Common.{◌≡◌, ◌⊎◌, inl, ◌∙◌, length, map, ap, sym, Result, Ok, Err}
use Rattle.std.specs.Prelude.{IfOk, IsErrAnd}
use Rattle.std.proofs.lemmas.List.{length-map}
use Rattle.std.proofs.lemmas.Slice.Zip.{AllZip-long}
use Rattle.bk_dev.specs.Flattened.{flattened}
use Rattle.bk_po.specs.Obligations.{numbered_obligations}
use Rattle.bk_po.specs.Shown.{named_sequent}
use Rattle.bk_print.specs.Found.{found_text}
use Rattle.bk_status.specs.Rows.{IsRowOf}
use Rattle.bk_verbs.specs.declared.stop.Stop.{Stop}
use Rattle.bk_verbs.specs.declared.stop.Stop.TheVariants.{Memory}
use Rattle.bk_verbs.specs.Causes.{IsOfChecks}
use Rattle.bk_verbs.specs.Stops.{IsOutside, StopsPastLimits}
use Rattle.bk_verbs.specs.Work.{ShowsScripts}
use Rattle.bk_verbs.proofs.Stopping.{handed_on}
use Rattle.bk_verbs.proofs.finding.scripts_text.Goals as goal

-- an error has no text
no_text : {T : Type 0} (r : Result T Stop) (P : Stop → Type 0) (Q : T → Type 0) → IsErrAnd r P → IfOk r Q
no_text (Ok t) P Q h = absurd h
no_text (Err s) P Q h = tt

pub search_all-requires-clause-types : goal.search_all-requires-clause-types
search_all-requires-clause-types c = c.in_ok-types.ensures

pub search_all-requires-clause-list : goal.search_all-requires-clause-list
search_all-requires-clause-list c = ap (map named_sequent) c.deref.ensures.value ∙ c.in_ok-list.ensures.value

pub search_all-requires-clause-within : goal.search_all-requires-clause-within
search_all-requires-clause-within c = c.in_ok-list.ensures.within

-- a row for each obligation
pub search_all-requires-clause-rows : goal.search_all-requires-clause-rows
search_all-requires-clause-rows c =
    let items = c.in_ok-list.list.items in
    AllZip-long (IsRowOf (flattened c.args.project.now.development) c.args.project.now.scripts) (numbered_obligations c.args.project.now.development) c.args.rows.now c.requires.rows
    ∙ (sym (ap length c.in_ok-list.ensures.value) ∙ (length-map items named_sequent ∙ sym (ap length c.deref.ensures.value)))

-- ---- faults are handed on
pub returns-in_err-list-clause-cause : goal.returns-in_err-list-clause-cause
returns-in_err-list-clause-cause c = handed_on c.from_residual.result c.in_err-list.field-0.0 (λ stop. IsOutside stop ⊎ StopsPastLimits c.args.name.now c.args.project.now.development stop) c.from_residual.ensures.1 c.in_err-list.ensures.cause

pub returns-in_err-list-clause-checks : goal.returns-in_err-list-clause-checks
returns-in_err-list-clause-checks c = handed_on c.from_residual.result c.in_err-list.field-0.0 IsOfChecks c.from_residual.ensures.1 c.in_err-list.ensures.checks

pub returns-in_err-list-clause-text : goal.returns-in_err-list-clause-text
returns-in_err-list-clause-text c = no_text c.from_residual.result (λ s. s ≡ c.in_err-list.field-0.0) (λ text. ShowsScripts c.args.project.now.development c.args.project.now.scripts text.items) c.from_residual.ensures.1

pub returns-in_err-types-clause-cause : goal.returns-in_err-types-clause-cause
returns-in_err-types-clause-cause c = handed_on c.from_residual-in_err-types.result Memory (λ stop. IsOutside stop ⊎ StopsPastLimits c.args.name.now c.args.project.now.development stop) c.from_residual-in_err-types.ensures.1 (inl tt)

pub returns-in_err-types-clause-checks : goal.returns-in_err-types-clause-checks
returns-in_err-types-clause-checks c = handed_on c.from_residual-in_err-types.result Memory IsOfChecks c.from_residual-in_err-types.ensures.1 tt

pub returns-in_err-types-clause-text : goal.returns-in_err-types-clause-text
returns-in_err-types-clause-text c = no_text c.from_residual-in_err-types.result (λ s. s ≡ Memory) (λ text. ShowsScripts c.args.project.now.development c.args.project.now.scripts text.items) c.from_residual-in_err-types.ensures.1

pub returns-in_err-outcomes-clause-cause : goal.returns-in_err-outcomes-clause-cause
returns-in_err-outcomes-clause-cause c = handed_on c.from_residual-in_err-outcomes.result Memory (λ stop. IsOutside stop ⊎ StopsPastLimits c.args.name.now c.args.project.now.development stop) c.from_residual-in_err-outcomes.ensures.1 (inl tt)

pub returns-in_err-outcomes-clause-checks : goal.returns-in_err-outcomes-clause-checks
returns-in_err-outcomes-clause-checks c = handed_on c.from_residual-in_err-outcomes.result Memory IsOfChecks c.from_residual-in_err-outcomes.ensures.1 tt

pub returns-in_err-outcomes-clause-text : goal.returns-in_err-outcomes-clause-text
returns-in_err-outcomes-clause-text c = no_text c.from_residual-in_err-outcomes.result (λ s. s ≡ Memory) (λ text. ShowsScripts c.args.project.now.development c.args.project.now.scripts text.items) c.from_residual-in_err-outcomes.ensures.1

pub returns-in_err-text-clause-cause : goal.returns-in_err-text-clause-cause
returns-in_err-text-clause-cause c = handed_on c.from_residual-in_err-text.result Memory (λ stop. IsOutside stop ⊎ StopsPastLimits c.args.name.now c.args.project.now.development stop) c.from_residual-in_err-text.ensures.1 (inl tt)

pub returns-in_err-text-clause-checks : goal.returns-in_err-text-clause-checks
returns-in_err-text-clause-checks c = handed_on c.from_residual-in_err-text.result Memory IsOfChecks c.from_residual-in_err-text.ensures.1 tt

pub returns-in_err-text-clause-text : goal.returns-in_err-text-clause-text
returns-in_err-text-clause-text c = no_text c.from_residual-in_err-text.result (λ s. s ≡ Memory) (λ text. ShowsScripts c.args.project.now.development c.args.project.now.scripts text.items) c.from_residual-in_err-text.ensures.1

-- ---- the text
pub returns-clause-cause : goal.returns-clause-cause
returns-clause-cause c = tt

pub returns-clause-checks : goal.returns-clause-checks
returns-clause-checks c = tt

pub returns-clause-text : goal.returns-clause-text
returns-clause-text c = record {
  within = c.in_ok-list.ensures.within;
  rows = c.args.rows.now;
  are = c.requires.rows;
  outcomes = c.in_ok-outcomes.outcomes.items;
  found = c.in_ok-outcomes.ensures;
  text_is = c.in_ok-text.ensures ∙ ap found_text c.deref-2.ensures.value;
}
