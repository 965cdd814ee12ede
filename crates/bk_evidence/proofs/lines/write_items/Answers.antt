use Rattle.bk_evidence.specs.Lines.{asked_line}
use Rattle.bk_evidence.proofs.Pieces.{one_piece_more}
use Rattle.bk_evidence.proofs.lines.write_items.Goals as goal

pub loop-item-preserved : goal.loop-item-preserved
loop-item-preserved c =
    one_piece_more (asked_line c.args.is_open_only) c.args.text.now.items c.loop-item.text.items c.write_if_asked.new.text.items c.args.items.now c.loop-item.item-index c.item-item.result
    c.loop-item-test.true c.item-item.is c.loop-item.invariant c.in_ok-write_if_asked.ensures
