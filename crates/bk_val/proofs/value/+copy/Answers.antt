use Rattle.bk_val.proofs.StoredSets.{stored_set-copy}
use Rattle.bk_val.proofs.value.+copy.Goals as goal

pub ValSet::copy-invariant_of-result : goal.ValSet::copy-invariant_of-result
ValSet::copy-invariant_of-result t c = stored_set-copy c.loop-x.x-index c.loop-x.items.items c.deref-x-items.result.now c.self.inside.items.items c.loop-x.invariant c.deref-x-items.ensures.value c.loop-x-test.false c.self.invariant
