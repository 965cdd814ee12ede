-- What is shown of where substitutions stand.
use Rattle.std.specs.Prelude.{◌≡◌, ℕ, ℤ, Bool, true, []}
use Rattle.bk_gsl.specs.Substitution.{Substitution}
use Rattle.bk_dev.specs.declared.kind.Kind.{Kind}
use Rattle.bk_dev.specs.Facts.{LoopsStandIn, MayStandIn, IsUnordered}
use Rattle.bk_raw.specs.Trees.SubTree.{SubTree}
use Rattle.bk_raw.specs.Meaning.Names.{Names}
use Rattle.bk_statics.specs.Typings.{Typing}
use Rattle.bk_statics.specs.Elaborated.{elaborated}
use Rattle.bk_statics.specs.OperationFaults.{shape_faults}

-- a substitution may stand in a component of the kind, and where it stands inside || inside of it
pub record IsShaped (kind : Kind) (inside : Bool) (s : Substitution) : Type 0 where
  pub loops : LoopsStandIn kind s
  pub may : MayStandIn kind s
  pub unordered : inside ≡ true → IsUnordered s

-- a written substitution that stands where it may reads as one that does
abbrev pub ShapesAreRight : Type 0
ShapesAreRight = (kind : Kind) (inside : Bool) (int_max : ℤ) (typing : Typing) (above names : Names) (n : ℕ) (s : SubTree) →
    shape_faults kind inside s ≡ [] → IsShaped kind inside (elaborated int_max typing above names n s)
