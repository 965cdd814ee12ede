use Rattle.std.proofs.Common.{suc, take, All}
use Rattle.bk_lin.specs.Certificate.{inequalities}
use Rattle.bk_elim.specs.Rows.{IsRow}
use Rattle.bk_elim.proofs.Steps.{IsKept}
use Rattle.bk_elim.proofs.Ending.{IsPaired}
use Rattle.bk_elim.proofs.elimination.eliminate.Given as goal

abbrev pub invariant-loop-up : goal.invariant-loop-up
invariant-loop-up l = record {
  level : All (IsKept l.atom l.out.items) l.rows;
  pair : All (IsPaired l.atom l.rows l.out.items) (take l.up-index l.rows);
  rows : All (λ v. IsRow (inequalities l.facts) (suc l.atom) v.items) l.out.items;
}
