use Rattle.std.proofs.Common.{◌≡◌, ℕ, ◌++◌, drop, map}
use Rattle.bk_wp.proofs.quantifiers.swapped.Given as goal

abbrev pub invariant-loop-variable : goal.invariant-loop-variable
invariant-loop-variable l = l.others.items ++ map (λ (p : ℕ × ℕ). (p.1, p.0)) (drop l.variable-index l.pairs) ≡ map (λ (p : ℕ × ℕ). (p.1, p.0)) l.pairs
