use Rattle.std.proofs.Common.{Bool, subst}
use Rattle.bk_raw.specs.Meaning.OperatorReadings.{infix_reading}
use Rattle.bk_raw.specs.Meaning.TermReading.{part, place_of, from_two, strict_faults, is_connective}
use Rattle.bk_elab_terms.specs.declared.operator.Places.{Places}
use Rattle.bk_elab_terms.specs.Shown.{IsRead}
use Rattle.bk_elab_terms.proofs.Combined.{two-read}
use Rattle.bk_elab_terms.proofs.part.infix_of.Goals as goal

pub returns : goal.returns
returns c = λ r t h g.
    c.spoilt_by.ensures (strict_faults c.args.op c.args.left.now c.args.right.now) (from_two (infix_reading c.args.op c.args.at (place_of c.args.left.now) (place_of c.args.right.now)) (part (is_connective c.args.op) c.args.left.now r) (part (is_connective c.args.op) c.args.right.now t))
    c.strict_fault.ensures
    (subst (λ (b : Bool). IsRead c.behind-step.result (from_two (infix_reading c.args.op c.args.at (place_of c.args.left.now) (place_of c.args.right.now)) (part b c.args.left.now r) (part b c.args.right.now t))) c.is_connective-wanted.ensures
    (subst (λ (p : Places). IsRead c.behind-step.result (from_two (infix_reading c.args.op p.whole p.left p.right) (part c.is_connective-wanted.result c.args.left.now r) (part c.is_connective-wanted.result c.args.right.now t))) c.places-places.ensures
    (two-read (infix_reading c.args.op c.places-places.result.whole c.places-places.result.left c.places-places.result.right) (part c.is_connective-wanted.result c.args.left.now r) (part c.is_connective-wanted.result c.args.right.now t) c.placed-one.result c.placed-other.result _ c.behind-step.result c.earlier-fault.result (c.placed-one.ensures r h) (c.placed-other.ensures t g) c.earlier-fault.ensures c.in_ok-step.ensures c.behind-step.ensures)))
