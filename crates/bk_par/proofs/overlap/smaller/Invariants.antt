use Rattle.std.proofs.Common.{◌≡◌, drop}
use Rattle.bk_par.specs.Overlaps.{least_onto}
use Rattle.bk_par.proofs.overlap.smaller.Given as goal

abbrev pub invariant-loop-other : goal.invariant-loop-other
invariant-loop-other l = least_onto l.best (drop l.other-index l.others) ≡ least_onto l.number l.others
