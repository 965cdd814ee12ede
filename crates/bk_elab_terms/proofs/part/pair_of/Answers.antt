use Rattle.std.proofs.Common.{false}
use Rattle.bk_raw.specs.Meaning.OperatorReadings.{pair_reading}
use Rattle.bk_raw.specs.Meaning.TermReading.{part}
use Rattle.bk_elab_terms.proofs.Combined.{two-read}
use Rattle.bk_elab_terms.proofs.part.pair_of.Goals as goal

pub returns : goal.returns
returns c = λ r t h g.
    two-read pair_reading (part false c.args.left.now r) (part false c.args.right.now t) c.placed-one.result c.placed-other.result _ c.behind.result c.earlier-fault.result (c.placed-one.ensures r h) (c.placed-other.ensures t g) c.earlier-fault.ensures c.in_ok-step.ensures c.behind.ensures
