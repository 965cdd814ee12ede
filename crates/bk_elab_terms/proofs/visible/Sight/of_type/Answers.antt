use Rattle.std.proofs.Common.{ℕ, subst}
use Rattle.std.specs.Prelude.{false}
use Rattle.bk_raw.specs.Meaning.Outcome.{Outcome, ask}
use Rattle.bk_raw.specs.Meaning.TermReading.{place_of}
use Rattle.bk_elab_terms.specs.Shown.{shown_outcome, IsAsked}
use Rattle.bk_elab_terms.specs.Visible.{reading_by}
use Rattle.bk_elab_terms.proofs.Under.{asked-under}
use Rattle.bk_elab_terms.proofs.visible.Sight.of_type.Goals as goal

pub returns : goal.returns
returns c =
    asked-under (λ (o : Outcome). ask (place_of c.args.term.now) o c.args.ty.now) (reading_by false c.args.self.now c.args.term.now) c.in_ok-read.read c.in_ok-asked.asked.answer c.behind.result.answer
    c.in_ok-asked.asked.fault c.behind.result.fault c.in_ok-read.ensures (subst (λ (n : ℕ). IsAsked c.in_ok-asked.asked.answer c.in_ok-asked.asked.fault (ask n (shown_outcome c.in_ok-read.read.outcome) c.args.ty.now)) c.place_of.ensures c.in_ok-asked.ensures) c.behind.ensures.answer c.behind.ensures.fault
