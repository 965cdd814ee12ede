use Rattle.std.proofs.Common.{◌≡◌, ◌∷◌, ◌++◌, take, drop}
use Rattle.bk_lin.proofs.Adding.{added, all_fit}
use Rattle.bk_lin.proofs.multiple.add_multiple.Given as goal

abbrev pub invariant-loop-k : goal.invariant-loop-k
invariant-loop-k l = record {
  sums : take l.k l.target ++ added l.multiplier (drop l.k l.target) (drop l.k (l.row.constant ∷ l.row.coefs.now)) ≡ added l.multiplier l.initial.target (l.row.constant ∷ l.row.coefs.now);
  fits : all_fit l.multiplier (drop l.k l.target) (drop l.k (l.row.constant ∷ l.row.coefs.now)) ≡ all_fit l.multiplier l.initial.target (l.row.constant ∷ l.row.coefs.now);
}
