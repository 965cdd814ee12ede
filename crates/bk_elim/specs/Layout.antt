-- What the code's own types stand for.
use Rattle.std.specs.Prelude.{ℕ, ℤ, pos, ◌+ℤ◌, ◌-ℤ◌, ◌*ℤ◌, List, map, Option}
use Rattle.std.specs.Global.{Vec}
use Rattle.std.specs.Option.{option_map}
use Rattle.std.specs.Int.{w128}
use Rattle.std.specs.Prelude.{FitsSigned}
use Rattle.bk_elim.specs.Elimination.{entry}

-- the rows that the program holds
abbrev pub lists : List (Vec ℤ) → List (List ℤ)
lists vs = map (λ v. v.items) vs

-- the row that it holds, where it holds one
abbrev pub list_in : Option (Vec ℤ) → Option (List ℤ)
list_in o = option_map (λ v. v.items) o

-- each number on the way to the joined row lies within 128 bits
pub record CanJoin (l : ℕ) (p q : List ℤ) : Type 0 where
  pub by : FitsSigned w128 (pos 0 -ℤ entry q l)
  pub left : (k : ℕ) → FitsSigned w128 ((pos 0 -ℤ entry q l) *ℤ entry p k)
  pub right : (k : ℕ) → FitsSigned w128 (entry p l *ℤ entry q k)
  pub sum : (k : ℕ) → FitsSigned w128 ((pos 0 -ℤ entry q l) *ℤ entry p k +ℤ entry p l *ℤ entry q k)
