use Rattle.std.proofs.Common.{◌≡◌, ℕ, ◌++◌, drop, map}
use Rattle.bk_par.proofs.copies.swapped.Given as goal

abbrev pub invariant-loop-copy : goal.invariant-loop-copy
invariant-loop-copy l = l.others.items ++ map (λ (p : ℕ × ℕ). (p.1, p.0)) (drop l.copy-index l.pairs) ≡ map (λ (p : ℕ × ℕ). (p.1, p.0)) l.pairs
