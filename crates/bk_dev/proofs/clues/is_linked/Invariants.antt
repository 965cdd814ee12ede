use Rattle.std.proofs.Common.{◌≡◌, drop}
use Rattle.bk_gsl.specs.State.{among, firsts}
use Rattle.bk_dev.proofs.clues.is_linked.Given as goal

abbrev pub invariant-loop-below : goal.invariant-loop-below
invariant-loop-below l = among (firsts (drop l.below-index l.links)) l.variable ≡ among (firsts l.links) l.variable
