use Rattle.std.proofs.Common.{◌∙◌, ap}
use Rattle.std.specs.Prelude.{Option}
use Rattle.bk_form.specs.Formula.{Formula, btrue}
use Rattle.bk_raw.specs.Meaning.Outcome.{Outcome, ask_predicate}
use Rattle.bk_statics.specs.Typings.{or_else}
use Rattle.bk_scope.proofs.TermsSeen.{predicate-seen}
use Rattle.bk_elab_level.proofs.elaborated.predicate_form.Goals as goal

pub returns : goal.returns
returns c =
    let t = c.args.typing in
    c.in_ok-form.ensures
    ∙ ap (λ (f : Option Formula). or_else btrue f) (c.in_ok-asked.ensures.same
    ∙ ap (λ (o : Outcome). (ask_predicate o).answer) (predicate-seen c.under.result t.max t.types.now c.args.names.now c.args.predicate.now c.under.ensures.max c.under.ensures.names c.under.ensures.types))
