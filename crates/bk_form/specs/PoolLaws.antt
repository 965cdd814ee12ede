-- What a pool is for, as statements.
use Rattle.std.specs.Prelude.{◌≡◌, List, [], ◌∷◌, ◌++◌}
use Rattle.bk_form.specs.Formula.{Formula}
use Rattle.bk_form.specs.Parts.{PartsAre, IsPart}
use Rattle.bk_form.specs.Pools.{Stands, IsPool}

-- what holds of every pool
pub record PoolLaws : Type 0 where
  -- all parts of a member stand in the pool
  pub closed : (l : List Formula) → IsPool l → (f : Formula) → Stands l f → (g : Formula) → IsPart g f → Stands l g
  -- a formula that does not stand there, and whose parts do, may go last
  pub grows : (l : List Formula) → IsPool l → (f : Formula) → (Stands l f → ⊥) → PartsAre (Stands l) f → IsPool (l ++ f ∷ [])
