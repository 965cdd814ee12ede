use Rattle.std.proofs.Common.{◌≡◌, suc, pos, take, All}
use Rattle.std.specs.List.{Contains}
use Rattle.bk_lin.specs.Certificate.{inequalities}
use Rattle.bk_elim.specs.Elimination.{entry}
use Rattle.bk_elim.specs.Rows.{IsRow}
use Rattle.bk_elim.specs.Layout.{lists}
use Rattle.bk_elim.proofs.elimination.keep_level.Given as goal

abbrev pub invariant-loop-row : goal.invariant-loop-row
invariant-loop-row l = record {
  level : All (λ v. entry v.items l.atom ≡ pos 0 → Contains (lists l.out.items) v.items) (take l.row-index l.rows);
  rows : All (λ v. IsRow (inequalities l.facts) (suc l.atom) v.items) l.out.items;
}
