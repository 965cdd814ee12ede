use Rattle.std.proofs.Common.{◌≡◌, ◌∙◌, ap}
use Rattle.std.specs.Ordering.{eq_by_cmp}
use Rattle.std.proofs.lemmas.List.Filters.{dedup_is}
use Rattle.bk_val.specs.Value.{value_cmp}
use Rattle.bk_val.specs.Sets.{has, set_of}
use Rattle.bk_val.proofs.Elements.{deduped_is, has-set_of}
use Rattle.bk_val.proofs.StoredSets.{stored_set-set_of}
use Rattle.bk_val.proofs.value.ValSet.from_items.Goals as goal
use Rattle.bk_val.proofs.value.ValSet.from_items.Goals.{After-dedup}

left : (c : After-dedup) → c.dedup.new.self.items ≡ set_of c.args.items.items
left c = dedup_is (eq_by_cmp value_cmp) _ _ c.dedup.ensures.filtered ∙ deduped_is _ _ c.sort_unstable.ensures.permutation c.sort_unstable.ensures.sorted

pub invariant_of-result : goal.invariant_of-result
invariant_of-result c = rw (left c) (stored_set-set_of c.args.items.items (rw c.deref.ensures.value at c.values_are_well_formed.ensures))

pub returns-clause-exact : goal.returns-clause-exact
returns-clause-exact c = left c

pub returns-clause-members : goal.returns-clause-members
returns-clause-members c q = ap (λ s. has s q) (left c) ∙ has-set_of c.args.items.items q
