-- Variables in place of variables.
use Rattle.std.specs.Prelude.{ℕ, nat_eq, cond, List, [], ◌∷◌}

-- the variable that stands in the place of another: the second of the first pair that begins with it, or that variable itself
abbrev pub new_name : List (ℕ × ℕ) → ℕ → ℕ
new_name [] n = n
new_name (p ∷ ps) n = cond (nat_eq n p.0) p.1 (new_name ps n)
