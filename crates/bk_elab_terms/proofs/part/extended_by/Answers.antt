use Rattle.std.proofs.Common.{false}
use Rattle.bk_raw.specs.Meaning.OperatorReadings.{extended}
use Rattle.bk_raw.specs.Meaning.TermReading.{part}
use Rattle.bk_elab_terms.proofs.Combined.{two-read}
use Rattle.bk_elab_terms.proofs.part.extended_by.Goals as goal

pub returns : goal.returns
returns c = λ b r h g.
    two-read (extended c.args.at) b (part false c.args.term.now r) c.args.set c.placed-read.result _ c.behind.result c.earlier-fault.result h (c.placed-read.ensures r g) c.earlier-fault.ensures c.in_ok-step.ensures c.behind.ensures
