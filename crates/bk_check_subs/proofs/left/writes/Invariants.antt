use Rattle.std.proofs.Common.{◌≡◌, drop, map}
use Rattle.bk_gsl.specs.State.{among}
use Rattle.bk_check_subs.proofs.left.writes.Given as goal

abbrev pub invariant-loop-write : goal.invariant-loop-write
invariant-loop-write l = among (map (λ w. w.variable) (drop l.write-index l.found)) l.variable ≡ among (map (λ w. w.variable) l.found) l.variable
