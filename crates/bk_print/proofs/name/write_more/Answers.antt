use Rattle.std.proofs.Common.{arith}
use Rattle.bk_print.specs.Text.{comma, name_items}
use Rattle.bk_print.proofs.Pieces.{piece_step_at, piece_end}
use Rattle.bk_print.proofs.name.write_more.Goals as goal

pub loop-name-preserved : goal.loop-name-preserved
loop-name-preserved c =
    piece_step_at (name_items c.args.types.now) comma c.args.names.now c.loop-name.name-index 0 c.loop-name.out.items c.extend_from_slice.new.self.items c.write_name.new.out.items _ c.loop-name-test.true c.loop-name.invariant c.in_ok-extend_from_slice.ensures.items c.in_ok-write_name.ensures

pub returns : goal.returns
returns c = piece_end (name_items c.args.types.now) comma c.args.names.now c.loop-name.name-index c.loop-name.out.items _ (omega arith) c.loop-name.invariant
