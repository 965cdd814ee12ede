-- The best lower and upper bound on the last atom.
use Rattle.std.specs.Prelude.{◌≡◌, ℤ, pos, ◌-ℤ◌, ◌*ℤ◌, ◌≤ℤ◌, ◌<ℤ◌, List, Option, Some, None}
use Rattle.bk_lin.specs.Inequality.{Inequality}
use Rattle.bk_elim.specs.Elimination.{entry, joined}
use Rattle.bk_elim.specs.Rows.{IsRow}

-- a row with a positive coefficient h and constant k says no more than the lower bound
abbrev pub IsBelow : ℤ → ℤ → Option (List ℤ) → Type 0
IsBelow h k None = ⊥
IsBelow h k (Some p) = (entry p 4 *ℤ h) ≤ℤ (k *ℤ entry p 3)

-- a row with a negative coefficient says no more than the upper bound
abbrev pub IsAbove : ℤ → ℤ → Option (List ℤ) → Type 0
IsAbove h k None = ⊥
IsAbove h k (Some q) = (entry q 4 *ℤ (pos 0 -ℤ h)) ≤ℤ (k *ℤ (pos 0 -ℤ entry q 3))

-- the row follows from the two bounds, or says nothing of the last atom and is true
pub record IsCovered (low high : Option (List ℤ)) (h k : ℤ) : Type 0 where
  pub up : pos 0 <ℤ h → IsBelow h k low
  pub down : h <ℤ pos 0 → IsAbove h k high
  pub level : h ≡ pos 0 → pos 0 ≤ℤ k

-- the lower bound has a positive coefficient
abbrev pub IsLow : Option (List ℤ) → Type 0
IsLow None = Unit {0}
IsLow (Some p) = pos 0 <ℤ entry p 3

-- and the upper one a negative one
abbrev pub IsHigh : Option (List ℤ) → Type 0
IsHigh None = Unit {0}
IsHigh (Some q) = entry q 3 <ℤ pos 0

-- together they leave the atom a value
abbrev pub IsAgreed : Option (List ℤ) → Option (List ℤ) → Type 0
IsAgreed None high = Unit {0}
IsAgreed (Some p) None = Unit {0}
IsAgreed (Some p) (Some q) = pos 0 ≤ℤ entry (joined 3 p q) 4

-- a bound is a row from which three atoms are gone
abbrev pub IsBound : List Inequality → Option (List ℤ) → Type 0
IsBound ps None = Unit {0}
IsBound ps (Some p) = IsRow ps 3 p

-- the bounds at hand
pub record AreBounds (ps : List Inequality) (low high : Option (List ℤ)) : Type 0 where
  pub low_row : IsBound ps low
  pub high_row : IsBound ps high
  pub up : IsLow low
  pub down : IsHigh high
  pub agreed : IsAgreed low high

-- what taking a row in leaves: bounds that cover it, and all that the old ones covered
pub record IsTaken (ps : List Inequality) (low high low' high' : Option (List ℤ)) (h k : ℤ) : Type 0 where
  pub bounds : AreBounds ps low' high'
  pub covered : IsCovered low' high' h k
  pub kept : (g j : ℤ) → IsCovered low high g j → IsCovered low' high' g j

-- a row without atoms and with a negative constant
pub record IsRefuting (ps : List Inequality) (row : List ℤ) : Type 0 where
  pub whole : IsRow ps 4 row
  pub negative : entry row 4 <ℤ pos 0

-- a row says at least as much as the lower bound that there was
abbrev pub IsBetterLow : List ℤ → Option (List ℤ) → Type 0
IsBetterLow r None = Unit {0}
IsBetterLow r (Some o) = (entry r 4 *ℤ entry o 3) ≤ℤ (entry o 4 *ℤ entry r 3)

-- a row says at least as much as the upper bound that there was
abbrev pub IsBetterHigh : List ℤ → Option (List ℤ) → Type 0
IsBetterHigh r None = Unit {0}
IsBetterHigh r (Some o) = (entry r 4 *ℤ (pos 0 -ℤ entry o 3)) ≤ℤ (entry o 4 *ℤ (pos 0 -ℤ entry r 3))
