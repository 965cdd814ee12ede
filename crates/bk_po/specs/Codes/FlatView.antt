-- The development that the program's flat development stands for.
use Rattle.std.specs.Prelude.{◌≡◌, ◌++◌}
use Rattle.bk_dev.specs.Development.{Development, last}
use Rattle.bk_dev.specs.Flattened.{copy_homes}
use Rattle.bk_dev.specs.Claims.{arrays_at}
use Rattle.bk_po.specs.FlatFacts.{IsFlattened}
use Rattle.bk_po.specs.declared.flattening.FlatDevelopment.TheInside.{Inside}

-- what it was made of, with its own table and levels
abbrev pub flat_view : Inside → Development
flat_view d = record {
  max = d.written.now.max;
  table = d.table;
  homes = d.written.now.homes ++ copy_homes 0 d.written.now.levels;
  sets = d.written.now.sets;
  heads = d.written.now.heads;
  levels = d.levels.items;
  values = d.written.now.values;
  extents = d.written.now.extents;
}

-- it is flat, and the arrays are those of its last level
pub record IsFlatView (d : Inside) : Type 0 where
  pub flat : IsFlattened (flat_view d)
  pub arrays : d.arrays ≡ arrays_at (flat_view d) (last (flat_view d))
