use Rattle.std.proofs.Common.{◌∙◌, ap, sym}
use Rattle.std.specs.Prelude.{Option}
use Rattle.std.specs.Borrow.{Bor}
use Rattle.std.specs.Option.{option_copied}
use Rattle.bk_raw.specs.Trees.RawTree.{RawTree}
use Rattle.bk_raw.specs.Errors.Blame.{blame}
use Rattle.bk_elab_terms.specs.Visible.{typing_of, visible_names}
use Rattle.bk_statics.specs.ClauseFaults.{stated_faults}
use Rattle.bk_scope.proofs.FaultReadings.{predicate-told}
use Rattle.bk_check_clauses.proofs.clause_fault.stated_fault.Goals as goal

pub returns : goal.returns
returns c =
    let t = c.args.typing in
    predicate-told c.under.result t.max c.args.names.now t.types.now c.in-Some.predicate.now c.in_ok-asked.asked.answer c.in_ok-asked.asked.fault c.under.ensures.max c.under.ensures.names c.under.ensures.types c.in_ok-asked.ensures
    ∙ ap (λ (o : Option (Bor RawTree)). blame (stated_faults t.max (typing_of t.types.now) (visible_names c.args.names.now) (option_copied o))) (sym c.in-Some.is)
