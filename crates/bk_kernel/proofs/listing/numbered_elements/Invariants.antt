use Rattle.std.proofs.Common.{◌≡◌}
use Rattle.bk_kernel.specs.Listing.{elements_of}
use Rattle.bk_kernel.proofs.listing.numbered_elements.Given as goal

abbrev pub invariant-loop-index : goal.invariant-loop-index
invariant-loop-index l = l.list.items ≡ elements_of l.set 0 l.index
