use Rattle.std.proofs.Common.{ℕ, subst}
use Rattle.std.specs.Prelude.{false}
use Rattle.bk_raw.specs.Meaning.Outcome.{ask_value}
use Rattle.bk_raw.specs.Meaning.TermReading.{place_of}
use Rattle.bk_elab_terms.specs.Shown.{shown_outcome, IsAsked}
use Rattle.bk_elab_terms.specs.Visible.{reading_by}
use Rattle.bk_elab_terms.proofs.Under.{asked-under}
use Rattle.bk_elab_terms.proofs.visible.Sight.value.Goals as goal

pub returns : goal.returns
returns c =
    asked-under (ask_value (place_of c.args.term.now)) (reading_by false c.args.self.now c.args.term.now) c.in_ok-read.read c.ask_value.result.answer c.behind.result.answer
    c.ask_value.result.fault c.behind.result.fault c.in_ok-read.ensures (subst (λ (n : ℕ). IsAsked c.ask_value.result.answer c.ask_value.result.fault (ask_value n (shown_outcome c.in_ok-read.read.outcome))) c.place_of.ensures c.ask_value.ensures) c.behind.ensures.answer c.behind.ensures.fault
