use Rattle.std.proofs.Common.{arith}
use Rattle.bk_show.specs.Shown.{items}
use Rattle.bk_print.specs.Text.{comma}
use Rattle.bk_print.proofs.Pieces.{piece_step, piece_end}
use Rattle.bk_print.proofs.term.write_more.Goals as goal

pub loop-term-preserved : goal.loop-term-preserved
loop-term-preserved c =
    piece_step (items c.args.types.now 0) comma c.args.terms.now c.loop-term.term-index c.term-item.result c.loop-term.out.items c.extend_from_slice.new.self.items c.write_shown.new.out.items _ c.loop-term-test.true c.term-item.is c.loop-term.invariant c.in_ok-extend_from_slice.ensures.items c.in_ok-write_shown.ensures

pub returns : goal.returns
returns c = piece_end (items c.args.types.now 0) comma c.args.terms.now c.loop-term.term-index c.loop-term.out.items _ (omega arith) c.loop-term.invariant
