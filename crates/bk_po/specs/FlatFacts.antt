-- What the program keeps of a development whose substitutions are flat, and the entries of copies. Private contracts alone speak of them.
use Rattle.std.specs.Prelude.{◌≡◌, ◌<◌, ◌^◌, ℕ, List, [], ◌∷◌, ◌++◌, length}
use Rattle.std.specs.List.{slice_get, filter_map}
use Rattle.bk_form.specs.Table.{Table}
use Rattle.bk_form.specs.Each.{Each}
use Rattle.bk_dev.specs.Development.{Level, Development}
use Rattle.bk_dev.specs.Facts.{IsLawful, IsFlatDevelopment, OnlyLastIsImplementation}
use Rattle.bk_par.specs.Overlaps.{overlaps}

-- it is lawful, no || is left, and 32 bits number its variables
pub record IsFlattened (dev : Development) : Type 0 where
  pub lawful : IsLawful dev
  pub only_last : OnlyLastIsImplementation dev
  pub flat : IsFlatDevelopment dev
  pub room : length dev.table.variables < 2 ^ 32

-- in none of its substitutions two sides of a || write one variable
pub record IsApart (l : Level) : Type 0 where
  pub init : overlaps l.init ≡ []
  pub bodies : Each (λ b. overlaps b.sub ≡ []) l.bodies

-- the table with an entry for the copy of each of these variables
abbrev pub with_entries : Table → List ℕ → Table
with_entries table xs = record table { variables = table.variables ++ filter_map (slice_get table.variables) xs }

-- each of these numbers is below the bound
abbrev pub AreBelow : ℕ → List ℕ → Type 0
AreBelow bound [] = Unit {0}
AreBelow bound (n ∷ ns) = (n < bound) × AreBelow bound ns
