use Rattle.std.proofs.Common.{◌≡◌, drop}
use Rattle.bk_gsl.specs.State.{among}
use Rattle.bk_par.proofs.overlap.is_among.Given as goal

abbrev pub invariant-loop-other : goal.invariant-loop-other
invariant-loop-other l = among (drop l.other-index l.variables) l.variable ≡ among l.variables l.variable
