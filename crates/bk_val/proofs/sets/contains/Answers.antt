use Rattle.std.proofs.Common.{◌≡◌, ◌∙◌, ◌↔◌, IsTrue, Contains}
use Rattle.bk_val.specs.Value.{IsStrictlySorted}
use Rattle.bk_val.proofs.SortedLists.{searched_value}
use Rattle.bk_val.proofs.StoredSets.{stored_set-sorted}
use Rattle.bk_val.proofs.Elements.{test_is}
use Rattle.bk_val.proofs.sets.contains.Goals as goal
use Rattle.bk_val.proofs.sets.contains.Goals.{After-is_ok}

found : (c : After-is_ok) → IsTrue c.is_ok.result ↔ Contains c.args.s.now c.args.x.now
found c =
    let seen : c.deref.result.now ≡ c.args.s.now = c.deref.ensures.value ∙ c.s.view_is in
    let sorted : IsStrictlySorted c.deref.result.now = rw c.deref.ensures.value (stored_set-sorted c.s.inside.items.items c.s.invariant) in
    rw (c.is_ok.ensures.value, ← seen) (searched_value c.deref.result.now c.args.x.now c.binary_search.result sorted c.binary_search.ensures.bound c.binary_search.ensures.position)

pub returns : goal.returns
returns c = record { member = found c; test = test_is _ _ _ (found c) }
