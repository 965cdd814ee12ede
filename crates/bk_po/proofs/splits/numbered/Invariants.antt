use Rattle.std.proofs.Common.{◌≡◌, ◌++◌, map, drop}
use Rattle.bk_po.specs.Obligations.{numbered_sequents}
use Rattle.bk_po.specs.Shown.{named_sequent}
use Rattle.bk_po.proofs.splits.numbered.Given as goal

abbrev pub invariant-loop-whole : goal.invariant-loop-whole
invariant-loop-whole l = map named_sequent l.list.items ++ numbered_sequents (drop l.whole-index l.wholes) ≡ numbered_sequents l.wholes
