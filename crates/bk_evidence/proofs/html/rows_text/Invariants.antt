use Rattle.std.proofs.Common.{◌≡◌, take}
use Rattle.std.specs.List.{flat_map}
use Rattle.bk_evidence.specs.Html.{asked_row}
use Rattle.bk_evidence.proofs.html.rows_text.Given as goal

abbrev pub invariant-loop-item : goal.invariant-loop-item
invariant-loop-item l = l.rows.items ≡ flat_map (asked_row l.settled) (take l.item-index l.items)
