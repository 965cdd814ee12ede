-- How a call ends.
use Rattle.std.specs.Prelude.{◌≡◌, ℕ, zero, suc, ◌<◌, ◌≤◌}
use Rattle.bk_code.specs.declared.image.Image.{Image}
use Rattle.bk_code.specs.declared.instruction.Trap.{Trap}
use Rattle.bk_code.specs.Step.{Config, GoesOn, Returns, Traps, step}

-- n steps, each of which goes on, lead from c to d
abbrev pub Leads : Image → ℕ → Config → Config → Type 0
Leads image zero c d = c ≡ d
Leads image (suc n) c d = (mid : Config) × Leads image n c mid × (step image mid ≡ GoesOn d)

-- how a call ends: done after so many steps, by a trap at a place after so many steps, or for want of fuel
pub data End : Type 0 where
  Done : (steps : ℕ) → End
  Trapped : (kind : Trap) (place steps : ℕ) → End
  OutOfFuel : End

-- the n-th step from c is the first that returns, and it does so at d
abbrev pub ReturnsAfter : Image → ℕ → Config → Config → Type 0
ReturnsAfter image zero c d = ⊥
ReturnsAfter image (suc n) c d = Leads image n c d × (step image d ≡ Returns)

-- with that fuel the call that starts at c ends so, at d
abbrev pub Ends : Image → ℕ → Config → End → Config → Type 0
Ends image fuel c (Done n) d = (n ≤ fuel) × ReturnsAfter image n c d
Ends image fuel c (Trapped kind place n) d = (n < fuel) × Leads image n c d × (step image d ≡ Traps kind) × (d.place ≡ place)
Ends image fuel c OutOfFuel d = Leads image fuel c d
