use Rattle.std.proofs.Common.{◌≡◌, ◌++◌, map}
use Rattle.std.specs.Vec.Iter.{into_iter_items}
use Rattle.bk_front.specs.declared.reading.Read.TheVariants.{Component}
use Rattle.bk_front.proofs.reading.all_low.Given as goal

abbrev pub invariant-loop-one : goal.invariant-loop-one
invariant-loop-one l = map Component l.components.items ++ into_iter_items l.one-iterator ≡ l.fn.read.items
