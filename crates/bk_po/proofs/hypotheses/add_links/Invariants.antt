use Rattle.std.proofs.Common.{◌≡◌, ◌++◌, drop, map}
use Rattle.bk_form.specs.Predicates.{equation}
use Rattle.bk_po.proofs.hypotheses.add_links.Given as goal

abbrev pub invariant-loop-below : goal.invariant-loop-below
invariant-loop-below l = l.hyps.items ++ map equation (drop l.below-index l.links) ≡ l.initial.hyps.items ++ map equation l.links
