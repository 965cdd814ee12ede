use Rattle.std.proofs.Common.{◌≡◌, ◌-◌, ℕ, length, take, nat_eq}
use Rattle.std.specs.HashMap.{get}
use Rattle.bk_bind.specs.Together.{place_above}
use Rattle.bk_bind.proofs.closing.places_of.Given as goal

-- the first of the variables have their places
abbrev pub invariant-loop-variable : goal.invariant-loop-variable
invariant-loop-variable l = (l.within ≡ length l.variables - l.variable-index) × ((n : ℕ) → get nat_eq l.places n ≡ place_above l.within (take l.variable-index l.variables) n)
