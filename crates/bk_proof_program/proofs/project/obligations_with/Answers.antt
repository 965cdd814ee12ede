use Rattle.std.proofs.Common.{◌≡◌, ◌⊎◌, inl, ℕ, List, sym, subst, map}
use Rattle.bk_form.specs.Each.{Each}
use Rattle.bk_dev.specs.Flattened.{flattened}
use Rattle.bk_po.specs.Shown.{named_sequent}
use Rattle.bk_seq.specs.Sequents.{Sequent}
use Rattle.bk_status.specs.Replayable.{IsReplayable}
use Rattle.bk_status.proofs.Within.{all_replayable}
use Rattle.bk_verbs.specs.Causes.{IsOfChecks}
use Rattle.bk_verbs.specs.Stops.{IsOutside, StopsPastLimits}
use Rattle.bk_verbs.specs.declared.stop.Stop.TheVariants.{Memory}
use Rattle.bk_verbs.proofs.Stopping.{handed_on}
use Rattle.bk_proof_program.proofs.Causes.{no_value}
use Rattle.bk_proof_program.proofs.project.obligations_with.Goals as goal

pub returns-clause-ready : goal.returns-clause-ready
returns-clause-ready c =
    let dev = c.args.dev.now in
    let listed = subst (Each (λ (o : List ℕ × Sequent). IsReplayable (flattened dev).table o.1)) (sym c.in_ok-list.ensures.value) (all_replayable dev c.facts.ensures c.in_ok-list.ensures.within) in
    record {
      table_is = c.in_ok-table.ensures;
      replayable = subst (λ t. Each (λ (o : List ℕ × Sequent). IsReplayable t o.1) (map named_sequent c.in_ok-list.list.items)) (sym c.in_ok-table.ensures) listed;
    }

pub returns-clause-listed : goal.returns-clause-listed
returns-clause-listed c = c.in_ok-list.ensures.value

-- ---- errors are handed on
pub returns-in_err-list-clause-cause : goal.returns-in_err-list-clause-cause
returns-in_err-list-clause-cause c = handed_on c.from_residual.result c.in_err-list.field-0.0 (λ stop. IsOutside stop ⊎ StopsPastLimits c.args.name.now c.args.dev.now stop) c.from_residual.ensures.1 c.in_err-list.ensures.cause

pub returns-in_err-list-clause-checks : goal.returns-in_err-list-clause-checks
returns-in_err-list-clause-checks c = handed_on c.from_residual.result c.in_err-list.field-0.0 IsOfChecks c.from_residual.ensures.1 c.in_err-list.ensures.checks

pub returns-in_err-list-clause-listed : goal.returns-in_err-list-clause-listed
returns-in_err-list-clause-listed c = no_value c.from_residual.result (λ s. s ≡ c.in_err-list.field-0.0) _ c.from_residual.ensures.1

pub returns-in_err-list-clause-ready : goal.returns-in_err-list-clause-ready
returns-in_err-list-clause-ready c = no_value c.from_residual.result (λ s. s ≡ c.in_err-list.field-0.0) _ c.from_residual.ensures.1

pub returns-in_err-table-clause-cause : goal.returns-in_err-table-clause-cause
returns-in_err-table-clause-cause c = handed_on c.from_residual-in_err-table.result Memory (λ stop. IsOutside stop ⊎ StopsPastLimits c.args.name.now c.args.dev.now stop) c.from_residual-in_err-table.ensures.1 (inl tt)

pub returns-in_err-table-clause-checks : goal.returns-in_err-table-clause-checks
returns-in_err-table-clause-checks c = handed_on c.from_residual-in_err-table.result Memory IsOfChecks c.from_residual-in_err-table.ensures.1 tt

pub returns-in_err-table-clause-listed : goal.returns-in_err-table-clause-listed
returns-in_err-table-clause-listed c = no_value c.from_residual-in_err-table.result (λ s. s ≡ Memory) _ c.from_residual-in_err-table.ensures.1

pub returns-in_err-table-clause-ready : goal.returns-in_err-table-clause-ready
returns-in_err-table-clause-ready c = no_value c.from_residual-in_err-table.result (λ s. s ≡ Memory) _ c.from_residual-in_err-table.ensures.1

pub returns-clause-cause : goal.returns-clause-cause
returns-clause-cause c = tt

pub returns-clause-checks : goal.returns-clause-checks
returns-clause-checks c = tt
