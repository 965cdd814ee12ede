use Rattle.std.proofs.Common.{arith, pos}
use Rattle.bk_ops.specs.declared.sign.TheConstants.{PLUS}
use Rattle.bk_print.specs.Text.{spaced, multiple_items}
use Rattle.bk_print.proofs.Pieces.{piece_step_at, piece_end}
use Rattle.bk_print.proofs.certificate.write_more_multiples.Goals as goal

pub loop-multiple-preserved : goal.loop-multiple-preserved
loop-multiple-preserved c =
    piece_step_at multiple_items (spaced PLUS) c.args.multiples.now c.loop-multiple.multiple-index (pos 0, 0) c.loop-multiple.out.items c.extend_from_slice.new.self.items c.write_multiple.new.out.items _ c.loop-multiple-test.true c.loop-multiple.invariant c.in_ok-extend_from_slice.ensures.items c.in_ok-write_multiple.ensures

pub returns : goal.returns
returns c = piece_end (multiple_items) (spaced PLUS) c.args.multiples.now c.loop-multiple.multiple-index c.loop-multiple.out.items _ (omega arith) c.loop-multiple.invariant
