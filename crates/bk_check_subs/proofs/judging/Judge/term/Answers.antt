use Rattle.std.proofs.Common.{◌∙◌, ap, sym}
use Rattle.std.specs.Prelude.{Option}
use Rattle.std.specs.Borrow.{Bor}
use Rattle.std.specs.Option.{option_copied}
use Rattle.bk_val.specs.ValueType.{ValueType}
use Rattle.bk_raw.specs.Errors.Blame.{blame}
use Rattle.bk_elab_terms.specs.Visible.{typing_of, visible_names}
use Rattle.bk_statics.specs.SubFaults.{term_faults}
use Rattle.bk_scope.proofs.FaultReadings.{of-type-told, value-told}
use Rattle.bk_check_subs.proofs.judging.Judge.term.Goals as goal

pub returns-in_ok-asked-in-Some : goal.returns-in_ok-asked-in-Some
returns-in_ok-asked-in-Some c =
    let j = c.args.self.now in
    of-type-told c.under.result j.typing.max c.args.names.now j.typing.types.now c.args.term.now c.in-Some.ty.now c.in_ok-asked-in-Some.asked.answer c.in_ok-asked-in-Some.asked.fault c.under.ensures.max c.under.ensures.names c.under.ensures.types
    c.in_ok-asked-in-Some.ensures
    ∙ ap (λ (o : Option (Bor ValueType)). blame (term_faults j.typing.max (typing_of j.typing.types.now) (visible_names c.args.names.now) (option_copied o) c.args.term.now)) (sym c.in-Some.is)

pub returns-in_ok-asked-in-None : goal.returns-in_ok-asked-in-None
returns-in_ok-asked-in-None c =
    let j = c.args.self.now in
    value-told c.under-in-None.result j.typing.max c.args.names.now j.typing.types.now c.args.term.now c.in_ok-asked-in-None.asked.answer c.in_ok-asked-in-None.asked.fault c.under-in-None.ensures.max c.under-in-None.ensures.names c.under-in-None.ensures.types
    c.in_ok-asked-in-None.ensures
    ∙ ap (λ (o : Option (Bor ValueType)). blame (term_faults j.typing.max (typing_of j.typing.types.now) (visible_names c.args.names.now) (option_copied o) c.args.term.now)) (sym c.in-None.is)
