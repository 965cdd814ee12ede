use Rattle.std.proofs.Common.{ℕ, Bool, subst}
use Rattle.bk_raw.specs.Meaning.OperatorReadings.{word_reading}
use Rattle.bk_raw.specs.Meaning.TermReading.{part, place_of, from_one}
use Rattle.bk_elab_terms.specs.Shown.{IsRead}
use Rattle.bk_elab_terms.proofs.Combined.{one-read}
use Rattle.bk_elab_terms.proofs.part.word_of.Goals as goal

pub returns : goal.returns
returns c = λ r h.
    subst (λ (b : Bool). IsRead c.behind.result (from_one (word_reading c.args.op c.args.at (place_of c.args.term.now)) (part b c.args.term.now r))) c.takes_predicate-wanted.ensures
    (subst (λ (n : ℕ). IsRead c.behind.result (from_one (word_reading c.args.op c.args.at n) (part c.takes_predicate-wanted.result c.args.term.now r))) c.place_of-place.ensures
    (one-read (word_reading c.args.op c.args.at c.place_of-place.result) (part c.takes_predicate-wanted.result c.args.term.now r) c.placed-read.result _ c.behind.result (c.placed-read.ensures r h) c.in_ok-step.ensures c.behind.ensures))
