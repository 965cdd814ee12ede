use Rattle.std.proofs.Common.{ℕ, false, subst}
use Rattle.bk_raw.specs.Meaning.OperatorReadings.{inverse_reading}
use Rattle.bk_raw.specs.Meaning.TermReading.{part, from_one}
use Rattle.bk_elab_terms.specs.Shown.{IsRead}
use Rattle.bk_elab_terms.proofs.Combined.{one-read}
use Rattle.bk_elab_terms.proofs.part.inverse_of.Goals as goal

pub returns : goal.returns
returns c = λ r h.
    subst (λ (n : ℕ). IsRead c.behind.result (from_one (inverse_reading n) (part false c.args.term.now r))) c.place_of-place.ensures
    (one-read (inverse_reading c.place_of-place.result) (part false c.args.term.now r) c.placed-read.result _ c.behind.result (c.placed-read.ensures r h) c.in_ok-step.ensures c.behind.ensures)
