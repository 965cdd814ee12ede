use Rattle.bk_evidence.specs.Lines.{stray_line}
use Rattle.bk_evidence.proofs.Pieces.{one_piece_more}
use Rattle.bk_evidence.proofs.lines.write_strays.Goals as goal

pub loop-stray-preserved : goal.loop-stray-preserved
loop-stray-preserved c =
    one_piece_more stray_line c.args.text.now.items c.loop-stray.text.items c.write_stray.new.text.items c.args.strays.now c.loop-stray.stray-index c.stray-item.result
    c.loop-stray-test.true c.stray-item.is c.loop-stray.invariant c.in_ok-write_stray.ensures
