use Rattle.std.proofs.Common.{false}
use Rattle.bk_raw.specs.Meaning.OperatorReadings.{single_reading}
use Rattle.bk_raw.specs.Meaning.TermReading.{part}
use Rattle.bk_elab_terms.proofs.Combined.{one-read}
use Rattle.bk_elab_terms.proofs.part.single_of.Goals as goal

pub returns : goal.returns
returns c = λ r h.
    one-read single_reading (part false c.args.term.now r) c.placed-read.result _ c.behind.result (c.placed-read.ensures r h) c.in_ok-step.ensures c.behind.ensures
