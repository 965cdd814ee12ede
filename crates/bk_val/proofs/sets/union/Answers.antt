use Rattle.std.proofs.Common.{◌≡◌, ◌<◌, length, arith, ◌∙◌, ap}
use Rattle.bk_val.specs.Sets.{has, union_of}
use Rattle.bk_val.proofs.SortedLists.{merged_whole}
use Rattle.bk_val.proofs.Elements.{has-union_of}
use Rattle.bk_val.proofs.StoredSets.{stored_set-union_of}
use Rattle.bk_val.proofs.sets.union.Goals as goal
use Rattle.bk_val.proofs.sets.union.Goals.{In_ok-copy_onto-2, then-loop-i-test+else-j-right, else-loop-i-test}

whole : (c : In_ok-copy_onto-2) → c.copy_onto-2.new.items.items ≡ union_of c.as_slice-left.result.now c.as_slice-right.result.now
whole c =
    let used_up : c.loop-i.i < length c.as_slice-left.result.now → c.loop-i.j < length c.as_slice-right.result.now → ⊥ =
    λ h k. elim c.loop-i-test.branch [ then-loop-i-test+else-j-right w ↦ absurd (omega arith) | else-loop-i-test w ↦ absurd (omega arith) ] in
    merged_whole c.loop-i.i c.loop-i.j c.as_slice-left.result.now c.as_slice-right.result.now c.loop-i.items.items c.copy_onto.new.items.items c.copy_onto-2.new.items.items used_up c.loop-i.invariant.merged c.in_ok-copy_onto.ensures c.in_ok-copy_onto-2.ensures

merged : (c : In_ok-copy_onto-2) → c.copy_onto-2.new.items.items ≡ union_of c.args.a.now c.args.b.now
merged c = whole c ∙ rw (c.as_slice-left.ensures.value, c.as_slice-right.ensures.value, c.a.view_is, c.b.view_is)

pub returns-clause-exact : goal.returns-clause-exact
returns-clause-exact c = merged c

pub returns-clause-members : goal.returns-clause-members
returns-clause-members c q = ap (λ s. has s q) (merged c) ∙ has-union_of c.args.a.now c.args.b.now q

pub invariant_of-result : goal.invariant_of-result
invariant_of-result c = rw (whole c, c.as_slice-left.ensures.value, c.as_slice-right.ensures.value) (stored_set-union_of c.a.inside.items.items c.b.inside.items.items c.a.invariant c.b.invariant)
