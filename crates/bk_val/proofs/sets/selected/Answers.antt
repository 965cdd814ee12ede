use Rattle.std.specs.Prelude.{not, if◌then◌else◌}
use Rattle.bk_val.specs.Sets.{has}
use Rattle.bk_val.proofs.StoredSets.{stored_set-filter}
use Rattle.bk_val.proofs.sets.selected.Goals as goal

pub invariant_of-result : goal.invariant_of-result
invariant_of-result c = stored_set-filter (λ x. if c.args.present then has c.args.b.now x else not (has c.args.b.now x)) c.loop-x.x-index c.loop-x.items.items c.deref-x-items.result.now c.a.inside.items.items c.loop-x.invariant c.deref-x-items.ensures.value c.loop-x-test.false c.a.invariant
