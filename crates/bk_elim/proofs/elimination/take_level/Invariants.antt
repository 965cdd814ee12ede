use Rattle.std.proofs.Common.{take, All}
use Rattle.bk_lin.specs.Certificate.{inequalities}
use Rattle.bk_elim.specs.Bounds.{AreBounds}
use Rattle.bk_elim.specs.Layout.{list_in}
use Rattle.bk_elim.proofs.Ending.{IsLeveled}
use Rattle.bk_elim.proofs.elimination.take_level.Given as goal

abbrev pub invariant-loop-row : goal.invariant-loop-row
invariant-loop-row l = record {
  bounds : AreBounds (inequalities l.facts) (list_in l.bounds.low) (list_in l.bounds.high);
  level : All (IsLeveled (list_in l.bounds.low) (list_in l.bounds.high)) (take l.row-index l.rows);
}
