use Rattle.std.proofs.Common.{◌∙◌, ap}
use Rattle.bk_raw.specs.Meaning.Outcome.{Outcome, ask}
use Rattle.bk_raw.specs.Meaning.TermReading.{place_of}
use Rattle.bk_scope.proofs.TermsSeen.{term-seen}
use Rattle.bk_elab_level.proofs.elaborated.term_form.Goals as goal

pub returns : goal.returns
returns c =
    let t = c.args.typing in
    c.in_ok-asked.ensures.same
    ∙ ap (λ (o : Outcome). (ask (place_of c.args.term.now) o c.args.ty.now).answer) (term-seen c.under.result t.max t.types.now c.args.names.now c.args.term.now c.under.ensures.max c.under.ensures.names c.under.ensures.types)
