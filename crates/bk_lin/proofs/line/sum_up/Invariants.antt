use Rattle.std.proofs.Common.{◌≡◌, ◌-◌, drop}
use Rattle.bk_lin.specs.Inequality.{plus_all, zero_of}
use Rattle.bk_lin.specs.Certificate.{multiples_of}
use Rattle.bk_lin.specs.Layout.{held_in, facts_of}
use Rattle.bk_lin.proofs.Summing.{rest_fits}
use Rattle.bk_lin.proofs.line.sum_up.Given as goal

abbrev pub invariant-loop-multiplier : goal.invariant-loop-multiplier
invariant-loop-multiplier l = record {
  sum : plus_all (held_in l.target) (multiples_of (facts_of l.standing) (drop l.multiplier-index l.parts)) ≡ plus_all (zero_of (l.standing.size - 1)) (multiples_of (facts_of l.standing) l.parts);
  fits : rest_fits (held_in l.target) (multiples_of (facts_of l.standing) (drop l.multiplier-index l.parts)) ≡ rest_fits (zero_of (l.standing.size - 1)) (multiples_of (facts_of l.standing) l.parts);
}
