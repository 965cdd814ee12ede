-- Terms between two parts, as they are written.
use Rattle.std.specs.Prelude.{◌≡◌, Option, None, Some}
use Rattle.std.specs.Borrow.{Bor}
use Rattle.bk_raw.specs.declared.operator.InfixOp.{InfixOp}
use Rattle.bk_raw.specs.declared.operator.InfixOp.TheVariants.{And, Implies}
use Rattle.bk_raw.specs.Trees.RawTree.{RawTree, raw, raw_infix}

-- the sides of &, where the term is one
abbrev pub and_sides : RawTree → Option (RawTree × RawTree)
and_sides (raw at (raw_infix And a b)) = Some (a, b)
and_sides _ = None

-- the operator and the sides of a term between two parts
abbrev pub infix_sides : RawTree → Option (InfixOp × RawTree × RawTree)
infix_sides (raw at (raw_infix o a b)) = Some (o, a, b)
infix_sides _ = None

-- the sides of =>, where the term is one
abbrev pub implies_sides : RawTree → Option (RawTree × RawTree)
implies_sides (raw at (raw_infix Implies a b)) = Some (a, b)
implies_sides _ = None

-- what the program says of the sides
abbrev pub shown_pair : Option (Bor RawTree × Bor RawTree) → Option (RawTree × RawTree)
shown_pair None = None
shown_pair (Some p) = Some (p.0.now, p.1.now)

-- the operator and the sides, as contracts see them
abbrev pub shown_infix : Option (InfixOp × Bor RawTree × Bor RawTree) → Option (InfixOp × RawTree × RawTree)
shown_infix None = None
shown_infix (Some p) = Some (p.0, p.1.now, p.2.now)

-- a term between two parts has this operator and this right side
abbrev pub IsRight : RawTree → InfixOp → RawTree → Type 0
IsRight (raw at (raw_infix p a b)) o d = (p ≡ o) × (b ≡ d)
IsRight _ o d = ⊥
