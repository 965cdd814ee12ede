use Rattle.std.proofs.Common.{◌≡◌, ℕ, ◌<◌, List, get_or}
use Rattle.bk_auto.proofs.variables.is_among.Given as goal

abbrev pub invariant-loop-name : goal.invariant-loop-name
invariant-loop-name l = (k : ℕ) (d : List ℕ) → k < l.name-index → get_or l.names k d ≡ l.text → ⊥
