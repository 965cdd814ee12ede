-- What the cells of an implementation hold, and how a unit is translated, as statements.
use Rattle.std.specs.Prelude.{◌≡◌}
use Rattle.bk_dev.specs.Development.{Development}
use Rattle.bk_dev.specs.Facts.{IsLawful}
use Rattle.bk_b0.specs.Cells.{ValuesHaveKinds, ArraysHaveCells, ArraysAreTyped}
use Rattle.bk_b0.specs.CodeUnit.{unit_of, unit_image}
use Rattle.bk_b0.specs.Translation.{translation}

-- of a lawful development the constants' values are of their types, and each array has cells and the type of its indices
pub record CellsAreTyped : Type 0 where
  pub constants : (dev : Development) → IsLawful dev → ValuesHaveKinds dev dev.values
  pub arrays : (dev : Development) → IsLawful dev → ArraysHaveCells dev
  pub types : (dev : Development) → IsLawful dev → ArraysAreTyped dev

-- the image of a development's executable part is its translation
abbrev pub UnitsAreTranslated : Type 0
UnitsAreTranslated = (dev : Development) → unit_image (unit_of dev) ≡ translation dev
