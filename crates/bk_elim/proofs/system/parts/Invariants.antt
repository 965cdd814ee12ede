use Rattle.std.proofs.Common.{◌≡◌, ◌-◌, ◌++◌, length}
use Rattle.bk_elim.specs.Rows.{parts_from}
use Rattle.bk_elim.proofs.system.parts.Given as goal

abbrev pub invariant-loop-index : goal.invariant-loop-index
invariant-loop-index l = l.parts.items ++ parts_from (length l.facts - l.index) l.index l.row ≡ parts_from (length l.facts) 0 l.row
