-- The rows of the laws of relations and functions.
use Rattle.std.specs.Prelude.{List, ◌++◌}
use Rattle.bk_bind.specs.declared.law.LawInstance.{LawInstance}
use Rattle.bk_laws.specs.Rows.{Row, Instance}
use Rattle.bk_laws_fun.specs.Relations.{relation_rows}
use Rattle.bk_laws_fun.specs.Functions.{function_rows}

-- those of relations, then those of arrows and functions
unfoldable pub rows : List Row
rows = relation_rows ++ function_rows

-- the instance that the program holds
abbrev pub instance_of : LawInstance → Instance
instance_of i = record { sides = i.sides.items; left = i.left; right = i.right }
