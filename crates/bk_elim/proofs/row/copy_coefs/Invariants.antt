use Rattle.std.proofs.Common.{◌≡◌, ◌<◌, ◌≤◌, ℕ, pos, length}
use Rattle.bk_elim.specs.Elimination.{entry}
use Rattle.bk_elim.proofs.row.copy_coefs.Given as goal

abbrev pub invariant-loop-k : goal.invariant-loop-k
invariant-loop-k l = record {
  wide : length l.row ≡ length l.initial.row;
  copied : (j : ℕ) → j < l.k → entry l.row j ≡ entry l.coefs j;
  clear : (j : ℕ) → l.k ≤ j → entry l.row j ≡ pos 0;
}
