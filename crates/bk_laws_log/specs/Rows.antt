-- The rows of the laws of logic, order and counting.
use Rattle.std.specs.Prelude.{List, ◌++◌}
use Rattle.bk_bind.specs.declared.law.LawInstance.{LawInstance}
use Rattle.bk_laws.specs.Rows.{Row, Instance}
use Rattle.bk_laws_log.specs.Logic.{logic_rows}
use Rattle.bk_laws_log.specs.Order.{order_rows}

-- those of logic, then those of order and counting
unfoldable pub rows : List Row
rows = logic_rows ++ order_rows

-- the instance that the program holds
abbrev pub instance_of : LawInstance → Instance
instance_of i = record { sides = i.sides.items; left = i.left; right = i.right }
