use Rattle.std.proofs.Common.{◌≡◌, ◌++◌, drop}
use Rattle.bk_auto.specs.Easy.{comparisons}
use Rattle.bk_auto.proofs.arithmetic.comparisons.Given as goal

abbrev pub invariant-loop-hyp : goal.invariant-loop-hyp
invariant-loop-hyp l = l.read.items ++ comparisons (drop l.hyp-index l.hyps) ≡ comparisons l.hyps
