use Rattle.std.proofs.Common.{append_assoc}
use Rattle.std.proofs.Common.{sym, List}
use Rattle.std.specs.Borrow.{Bor}
use Rattle.bk_elab_terms.specs.Shown.{told}
use Rattle.bk_elab_terms.specs.Visible.{typing_of, visible_names}
use Rattle.std.specs.Prelude.{None}
use Rattle.bk_raw.specs.declared.component.RawValue.{RawValue}
use Rattle.bk_raw.specs.Meaning.Outcome.{ask_value}
use Rattle.bk_raw.specs.Meaning.TermReading.{place_of}
use Rattle.bk_statics.specs.Typings.{outcome_of}
use Rattle.bk_statics.specs.SubFaults.{value_faults, term_faults}
use Rattle.bk_statics.specs.ClauseFaults.{entry_faults}
use Rattle.bk_scope.specs.Shown.{refs}
use Rattle.bk_scope.proofs.FaultSteps.{told-item}
use Rattle.bk_check_clauses.proofs.clause_fault.entry_fault.Goals as goal

pub loop-entry-preserved : goal.loop-entry-preserved
loop-entry-preserved c =
    let max = c.args.typing.max in
    let t = typing_of c.args.typing.types.now in
    let names = visible_names c.args.globals.now in
    told-item (λ (l : List (Bor RawValue)). entry_faults max t names (refs l)) (λ (v : Bor RawValue). term_faults max t names None v.now.value) c.args.values.now c.loop-entry.entry-index c.entry-item.result (told c.loop-entry.fault) (told c.in_ok-untyped_entry.field-0) (told c.earlier-fault.result) _
    (λ v l. sym (append_assoc (value_faults max t names v.now.value) (ask_value (place_of v.now.value) (outcome_of max t names v.now.value)).faults (entry_faults max t names (refs l)))) c.loop-entry-test.true c.entry-item.is c.in_ok-untyped_entry.ensures c.earlier-fault.ensures c.loop-entry.invariant
