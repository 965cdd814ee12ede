use Rattle.std.proofs.Common.{◌≡◌, suc, map, ◌++◌}
use Rattle.std.specs.Vec.Iter.{into_iter_items}
use Rattle.bk_po.specs.Obligations.{numbered_from}
use Rattle.bk_seq.specs.Sequents.{sequent_of}
use Rattle.bk_po.specs.Shown.{named_sequent}
use Rattle.bk_po.proofs.splits.add_numbered.Given as goal

abbrev pub invariant-loop-index : goal.invariant-loop-index
invariant-loop-index l = map named_sequent l.found.items ++ numbered_from (suc l.index-iterator.count) l.name (map sequent_of (into_iter_items l.index-iterator.iter)) ≡ map named_sequent l.initial.found.items ++ numbered_from 1 l.name (map sequent_of l.fn.sequents.items)
