use Rattle.std.proofs.Common.{◌≡◌, ◌++◌, drop}
use Rattle.bk_gsl.specs.State.{firsts}
use Rattle.bk_par.proofs.copies.firsts.Given as goal

abbrev pub invariant-loop-copy : goal.invariant-loop-copy
invariant-loop-copy l = l.copies.items ++ firsts (drop l.copy-index l.pairs) ≡ firsts l.pairs
