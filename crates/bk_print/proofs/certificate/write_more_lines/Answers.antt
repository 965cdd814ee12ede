use Rattle.std.proofs.Common.{arith}
use Rattle.bk_ops.specs.declared.sign.TheConstants.{BAR}
use Rattle.bk_print.specs.Text.{spaced, line_items}
use Rattle.bk_print.proofs.Pieces.{piece_step, piece_end}
use Rattle.bk_print.proofs.certificate.write_more_lines.Goals as goal

pub loop-line-preserved : goal.loop-line-preserved
loop-line-preserved c =
    piece_step (line_items) (spaced BAR) c.args.lines.now c.loop-line.line-index c.line-item.result c.loop-line.out.items c.extend_from_slice.new.self.items c.write_line.new.out.items _ c.loop-line-test.true c.line-item.is c.loop-line.invariant c.in_ok-extend_from_slice.ensures.items c.in_ok-write_line.ensures

pub returns : goal.returns
returns c = piece_end (line_items) (spaced BAR) c.args.lines.now c.loop-line.line-index c.loop-line.out.items _ (omega arith) c.loop-line.invariant
