-- The rows of the laws of sets.
use Rattle.std.specs.Prelude.{List}
use Rattle.bk_bind.specs.declared.law.LawInstance.{LawInstance}
use Rattle.bk_laws.specs.Rows.{Row, Instance}
use Rattle.bk_laws_set.specs.Sets.{set_rows}

-- all of them
unfoldable pub rows : List Row
rows = set_rows

-- the instance that the program holds
abbrev pub instance_of : LawInstance → Instance
instance_of i = record { sides = i.sides.items; left = i.left; right = i.right }
