use Rattle.std.proofs.Common.{◌≡◌, ◌<◌, ℕ, [], length, All, slice_index_or}
use Rattle.bk_lin.specs.Certificate.{inequalities}
use Rattle.bk_elim.specs.Rows.{IsRow, IsStart}
use Rattle.bk_elim.specs.Layout.{lists}
use Rattle.bk_elim.proofs.system.start.Given as goal

abbrev pub invariant-loop-index : goal.invariant-loop-index
invariant-loop-index l = record {
  long : length l.rows.items ≡ l.index;
  start : (i : ℕ) → i < l.index → IsStart (inequalities l.facts) i (slice_index_or (lists l.rows.items) i []);
  rows : All (λ v. IsRow (inequalities l.facts) 0 v.items) l.rows.items;
}
