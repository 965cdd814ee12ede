-- Formulas under more binders than before.
use Rattle.std.specs.Prelude.{ℕ, ◌+◌, nat_lt, cond}
use Rattle.bk_form.specs.Formula.{Formula, bound, Formulas}
use Rattle.bk_form.specs.Rebound.{rebound, all_rebound}

-- a bound number under n more binders, which stand outside the k of its own formula: a loose one goes up by n, any other stays
abbrev pub shifted : ℕ → ℕ → ℕ → Formula
shifted n k m = bound (cond (nat_lt m k) m (m + n))

-- the formula under n more binders, where k of those that it stands under are its own: its loose bound numbers go up
abbrev pub lifted : ℕ → ℕ → Formula → Formula
lifted n k f = rebound (shifted n) k f

-- the same of each of these formulas
abbrev pub all_lifted : ℕ → ℕ → Formulas → Formulas
all_lifted n k fs = all_rebound (shifted n) k fs
