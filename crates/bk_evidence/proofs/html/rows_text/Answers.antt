use Rattle.std.proofs.Common.{[]}
use Rattle.bk_evidence.specs.Html.{asked_row}
use Rattle.bk_evidence.proofs.Pieces.{one_piece_more}
use Rattle.bk_evidence.proofs.html.rows_text.Goals as goal

pub loop-item-preserved : goal.loop-item-preserved
loop-item-preserved c =
    one_piece_more (asked_row c.args.settled) [] c.loop-item.rows.items c.write_if_asked.new.page.items c.args.items.now c.loop-item.item-index c.item-item.result
    c.loop-item-test.true c.item-item.is c.loop-item.invariant c.in_ok-write_if_asked.ensures
