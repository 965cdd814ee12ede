use Rattle.bk_val.specs.Sets.{begins_outside}
use Rattle.bk_val.proofs.StoredSets.{stored_set-filter}
use Rattle.bk_val.proofs.relation.outside_domain.Goals as goal

pub invariant_of-result : goal.invariant_of-result
invariant_of-result c = stored_set-filter (begins_outside c.args.s.now) c.loop-p.p-index c.loop-p.items.items c.deref-p-items.result.now c.r.inside.items.items c.loop-p.invariant c.deref-p-items.ensures.value c.loop-p-test.false c.r.invariant
