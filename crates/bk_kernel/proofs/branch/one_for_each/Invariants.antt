use Rattle.std.proofs.Common.{◌≡◌, map, take}
use Rattle.bk_kernel.specs.Held.{branch_of}
use Rattle.bk_kernel.specs.Listing.{one_for_each}
use Rattle.bk_kernel.proofs.branch.one_for_each.Given as goal

abbrev pub invariant-loop-form : goal.invariant-loop-form
invariant-loop-form l = map branch_of l.branches.items ≡ one_for_each l.goal (take l.form-index l.forms)
