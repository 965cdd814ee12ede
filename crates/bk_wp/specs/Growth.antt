-- That box and diamond are at least as large as the formula after the substitution, as statements.
use Rattle.std.specs.Prelude.{◌≤◌}
use Rattle.bk_form.specs.Table.{Table}
use Rattle.bk_form.specs.Formula.{Formula, formula_size, formula_height}
use Rattle.bk_gsl.specs.Substitution.{Substitution}
use Rattle.bk_wp.specs.Box.{box, diamond}
use Rattle.bk_gsl.specs.Flat.{IsFlat}
use Rattle.bk_wp.specs.Shapes.{HasNoLoop}

-- no fewer nodes, and no fewer on the longest way down
pub record IsNoSmaller (f g : Formula) : Type 0 where
  pub nodes : formula_size g ≤ formula_size f
  pub height : formula_height g ≤ formula_height f

-- [S]R is no smaller than R, where S has no ||
abbrev pub BoxIsNoSmaller : Type 0
BoxIsNoSmaller = (table : Table) (s : Substitution) → IsFlat s → (r : Formula) → IsNoSmaller (box table s r) r

-- <S>R is no smaller than R, where S has no loop and no ||
abbrev pub DiamondIsNoSmaller : Type 0
DiamondIsNoSmaller = (table : Table) (s : Substitution) → HasNoLoop s → (r : Formula) → IsNoSmaller (diamond table s r) r
