-- A development whose substitutions are flat: each || is rewritten by copies, over one table with all copies.
use Rattle.std.specs.Prelude.{ℕ, suc, ◌+◌, replicate, List, [], ◌∷◌, ◌++◌, length}
use Rattle.std.specs.List.{slice_get, filter_map}
use Rattle.bk_gsl.specs.Flat.{copied, flat_from}
use Rattle.bk_dev.specs.declared.kind.Home.{Home}
use Rattle.bk_dev.specs.declared.kind.Home.TheVariants.{Inner}
use Rattle.bk_dev.specs.Development.{Body, Level, Development}

-- the variables that are copied in bodies one after another
abbrev pub copied_in_bodies : List Body → List ℕ
copied_in_bodies [] = []
copied_in_bodies (b ∷ bs) = copied b.sub ++ copied_in_bodies bs

-- the variables that a component copies: those of its initialisation, and then those of its bodies
abbrev pub copied_in_level : Level → List ℕ
copied_in_level l = copied l.init ++ copied_in_bodies l.bodies

-- those of components one after another
abbrev pub copied_in_levels : List Level → List ℕ
copied_in_levels [] = []
copied_in_levels (l ∷ ls) = copied_in_level l ++ copied_in_levels ls

-- numbers from k on are new
abbrev pub flat_bodies : ℕ → List Body → List Body
flat_bodies k [] = []
flat_bodies k (b ∷ bs) = record b { sub = flat_from k b.sub } ∷ flat_bodies (k + length (copied b.sub)) bs

-- the component without ||
abbrev pub flat_level : ℕ → Level → Level
flat_level k l = record l { init = flat_from k l.init; bodies = flat_bodies (k + length (copied l.init)) l.bodies }

-- components one after another without ||, each with its copies' numbers after those before
abbrev pub flat_levels : ℕ → List Level → List Level
flat_levels k [] = []
flat_levels k (l ∷ ls) = flat_level k l ∷ flat_levels (k + length (copied_in_level l)) ls

-- a copy is inner to the level in which it stands
abbrev pub copy_homes : ℕ → List Level → List Home
copy_homes k [] = []
copy_homes k (l ∷ ls) = replicate (length (copied_in_level l)) (Inner k) ++ copy_homes (suc k) ls

-- each copy has the name and the type of the variable that it copies
abbrev pub flattened : Development → Development
flattened dev = record dev {
  table = record dev.table { variables = dev.table.variables ++ filter_map (slice_get dev.table.variables) (copied_in_levels dev.levels) };
  homes = dev.homes ++ copy_homes 0 dev.levels;
  levels = flat_levels (length dev.table.variables) dev.levels;
}
