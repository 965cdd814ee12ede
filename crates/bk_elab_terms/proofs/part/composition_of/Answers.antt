use Rattle.std.proofs.Common.{false, subst}
use Rattle.bk_raw.specs.Meaning.OperatorReadings.{composition_reading}
use Rattle.bk_raw.specs.Meaning.TermReading.{part, from_two}
use Rattle.bk_elab_terms.specs.declared.operator.Places.{Places}
use Rattle.bk_elab_terms.specs.Shown.{IsRead}
use Rattle.bk_elab_terms.proofs.Combined.{two-read}
use Rattle.bk_elab_terms.proofs.part.composition_of.Goals as goal

pub returns : goal.returns
returns c = λ r t h g.
    subst (λ (p : Places). IsRead c.behind.result (from_two (composition_reading p.whole p.left p.right) (part false c.args.left.now r) (part false c.args.right.now t))) c.places-places.ensures
    (two-read (composition_reading c.places-places.result.whole c.places-places.result.left c.places-places.result.right) (part false c.args.left.now r) (part false c.args.right.now t) c.placed-one.result c.placed-other.result _ c.behind.result c.earlier-fault.result (c.placed-one.ensures r h) (c.placed-other.ensures t g) c.earlier-fault.ensures c.in_ok-step.ensures c.behind.ensures)
