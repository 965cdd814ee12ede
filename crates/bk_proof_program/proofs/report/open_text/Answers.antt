use Rattle.std.proofs.Common.{◌≡◌, ◌∙◌, ℕ, List, Some, find, sym, subst}
use Rattle.std.specs.Str.{bytes_eq}
use Rattle.bk_po.specs.Shown.{named_sequent}
use Rattle.bk_po.specs.declared.obligation.Obligation.{Obligation}
use Rattle.bk_seq.specs.Sequents.{Sequent}
use Rattle.bk_status.specs.Replayable.{IsReplayable}
use Rattle.bk_proof_program.proofs.Finding.{IfFound, found_each}
use Rattle.bk_proof_program.proofs.report.open_text.Goals as goal

pub goal_text-requires-clause-replayable : goal.goal_text-requires-clause-replayable
goal_text-requires-clause-replayable c =
    let whole = c.args.whole.now in
    let here : Some c.in-Some.obligation.now ≡ find (λ (o : Obligation). bytes_eq c.args.name.now o.name) whole.list.items =
    c.in-Some.ensures ∙ (λ i. find (λ (o : Obligation). bytes_eq c.args.name.now o.name) (c.deref.ensures.value i)) in
    subst (IfFound (λ (o : Obligation). IsReplayable whole.table (named_sequent o).1)) (sym here) (found_each (λ (o : List ℕ × Sequent). IsReplayable whole.table o.1) named_sequent (λ (o : Obligation). bytes_eq c.args.name.now o.name) whole.list.items c.requires.replayable)

pub goal_text-requires-clause-table : goal.goal_text-requires-clause-table
goal_text-requires-clause-table c = c.requires.table_is

pub goal_text-requires-clause-short : goal.goal_text-requires-clause-short
goal_text-requires-clause-short c = c.in_ok-found.ensures.short
