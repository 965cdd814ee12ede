use Rattle.std.proofs.Common.{◌++◌, List, map}
use Rattle.std.specs.List.{AllZip}
use Rattle.std.specs.Vec.Iter.{into_iter_items}
use Rattle.bk_form.specs.Each.{Each}
use Rattle.bk_dev.specs.Flattened.{flattened}
use Rattle.bk_po.specs.Shown.{named_sequent}
use Rattle.bk_status.specs.declared.table.Row.{Row}
use Rattle.bk_status.specs.Rows.{IsRowOf}
use Rattle.bk_status.specs.Replayable.{IsReplayable}
use Rattle.bk_status.proofs.table.rows_of.Given as goal

-- what stands for the rest completes the rows
abbrev pub invariant-loop-obligation : goal.invariant-loop-obligation
invariant-loop-obligation l = record {
  replayable : Each (λ o. IsReplayable l.types o.1) (map named_sequent (into_iter_items l.obligation-iterator));
  completed : (more : List Row) → AllZip (IsRowOf (flattened l.dev) l.named) (map named_sequent (into_iter_items l.obligation-iterator)) more → AllZip (IsRowOf (flattened l.dev) l.named) (map named_sequent l.fn.list.items) (l.rows.items ++ more);
}
