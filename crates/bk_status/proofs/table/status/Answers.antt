use Rattle.std.proofs.Common.{sym, subst, map}
use Rattle.std.specs.List.{AllZip}
use Rattle.bk_form.specs.Each.{Each}
use Rattle.bk_dev.specs.Flattened.{flattened}
use Rattle.bk_po.specs.Shown.{named_sequent}
use Rattle.bk_status.specs.Rows.{IsRowOf}
use Rattle.bk_status.specs.Replayable.{IsReplayable}
use Rattle.bk_status.proofs.Tables.{closed_tables_carry}
use Rattle.bk_status.proofs.Within.{all_replayable}
use Rattle.bk_status.proofs.table.status.Goals as goal

pub rows_of-requires-clause-replayable : goal.rows_of-requires-clause-replayable
rows_of-requires-clause-replayable c =
    let dev = c.args.dev.now in
    let listed = subst (Each (λ o. IsReplayable (flattened dev).table o.1)) (sym c.in_ok-list.ensures.value) (all_replayable dev c.facts.ensures c.in_ok-list.ensures.within) in
    subst (λ t. Each (λ o. IsReplayable t o.1) (map named_sequent c.in_ok-list.list.items)) (sym c.in_ok-types.ensures) listed

pub returns-clause-rows : goal.returns-clause-rows
returns-clause-rows c =
    let dev = c.args.dev.now in
    let scripts = c.args.scripts.now in
    let rows = c.in_ok-rows.rows.items in
    let listed = subst (λ ss. AllZip (IsRowOf (flattened dev) ss) (map named_sequent c.in_ok-list.list.items) rows) c.in_ok-named.ensures c.in_ok-rows.ensures in
    subst (λ os. AllZip (IsRowOf (flattened dev) scripts) os rows) c.in_ok-list.ensures.value listed

pub returns-clause-correct : goal.returns-clause-correct
returns-clause-correct c = closed_tables_carry c.args.dev.now c.args.scripts.now c.in_ok-rows.rows.items c.facts.ensures (returns-clause-rows c)
