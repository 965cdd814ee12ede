use Rattle.std.proofs.Common.{◌≡◌, drop}
use Rattle.bk_dev.specs.Layout.{linked_to}
use Rattle.bk_dev.proofs.clues.linked.Given as goal

abbrev pub invariant-loop-below : goal.invariant-loop-below
invariant-loop-below l = linked_to l.variable (drop l.below-index l.links) ≡ linked_to l.variable l.links
