use Rattle.std.proofs.Common.{◌≡◌, ◌∷◌, take, map}
use Rattle.std.specs.Int.{int_div_euclid}
use Rattle.bk_lin.proofs.line.divide.Given as goal

abbrev pub invariant-loop-k : goal.invariant-loop-k
invariant-loop-k l = take l.k l.target ≡ map (λ c. int_div_euclid c l.by) (take l.k (l.row.constant ∷ l.row.coefs.now))
