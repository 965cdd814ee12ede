use Rattle.std.proofs.Common.{suc, ℤ, pos, ◌<ℤ◌, take, All, List}
use Rattle.std.specs.List.{Contains}
use Rattle.bk_lin.specs.Certificate.{inequalities}
use Rattle.bk_elim.specs.Elimination.{entry, joined}
use Rattle.bk_elim.specs.Rows.{IsRow}
use Rattle.bk_elim.specs.Layout.{lists}
use Rattle.bk_elim.proofs.elimination.join_each.Given as goal

abbrev pub invariant-loop-down : goal.invariant-loop-down
invariant-loop-down l = record {
  kept : (r : List ℤ) → Contains (lists l.initial.out.items) r → Contains (lists l.out.items) r;
  joined : All (λ v. entry v.items l.atom <ℤ pos 0 → Contains (lists l.out.items) (joined l.atom l.up v.items)) (take l.down-index l.rows);
  rows : All (λ v. IsRow (inequalities l.facts) (suc l.atom) v.items) l.out.items;
}
