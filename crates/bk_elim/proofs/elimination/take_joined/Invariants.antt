use Rattle.std.proofs.Common.{take, All}
use Rattle.bk_lin.specs.Certificate.{inequalities}
use Rattle.bk_elim.specs.Bounds.{AreBounds}
use Rattle.bk_elim.specs.Layout.{list_in}
use Rattle.bk_elim.proofs.Ending.{IsCrossed, Keeps}
use Rattle.bk_elim.proofs.elimination.take_joined.Given as goal

abbrev pub invariant-loop-down : goal.invariant-loop-down
invariant-loop-down l = record {
  bounds : AreBounds (inequalities l.facts) (list_in l.bounds.low) (list_in l.bounds.high);
  crossed : All (IsCrossed l.up (list_in l.bounds.low) (list_in l.bounds.high)) (take l.down-index l.rows);
  kept : Keeps (list_in l.initial.bounds.low) (list_in l.initial.bounds.high) (list_in l.bounds.low) (list_in l.bounds.high);
}
