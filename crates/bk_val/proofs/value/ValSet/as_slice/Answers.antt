use Rattle.bk_val.proofs.StoredSets.{stored_set-sorted}
use Rattle.bk_val.proofs.value.ValSet.as_slice.Goals as goal

pub returns-clause-sorted : goal.returns-clause-sorted
returns-clause-sorted c = rw (← c.self.view_is) (stored_set-sorted c.self.inside.items.items c.self.invariant)
