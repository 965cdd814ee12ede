use Rattle.std.proofs.Common.{take, All}
use Rattle.bk_lin.specs.Certificate.{inequalities}
use Rattle.bk_elim.specs.Bounds.{AreBounds}
use Rattle.bk_elim.specs.Layout.{list_in}
use Rattle.bk_elim.proofs.Ending.{IsLeveled, IsPassed}
use Rattle.bk_elim.proofs.elimination.last.Given as goal

abbrev pub invariant-loop-up : goal.invariant-loop-up
invariant-loop-up l = record {
  bounds : AreBounds (inequalities l.facts) (list_in l.bounds.low) (list_in l.bounds.high);
  level : All (IsLeveled (list_in l.bounds.low) (list_in l.bounds.high)) l.rows;
  passed : All (IsPassed l.rows (list_in l.bounds.low) (list_in l.bounds.high)) (take l.up-index l.rows);
}
