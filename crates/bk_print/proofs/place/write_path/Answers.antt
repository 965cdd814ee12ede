use Rattle.std.proofs.Common.{arith}
use Rattle.std.proofs.Common.{◌∷◌, []}
use Rattle.bk_show.specs.Items.{blank}
use Rattle.bk_print.specs.Text.{number_items}
use Rattle.bk_print.proofs.Pieces.{piece_step_at, piece_end}
use Rattle.bk_print.proofs.place.write_path.Goals as goal

pub loop-number-preserved : goal.loop-number-preserved
loop-number-preserved c =
    piece_step_at number_items (blank ∷ []) c.args.path.now c.loop-number.number-index 0 c.loop-number.out.items c.extend_from_slice.new.self.items c.write_digits.new.out.items _ c.loop-number-test.true c.loop-number.invariant c.in_ok-extend_from_slice.ensures.items c.in_ok-write_digits.ensures

pub returns : goal.returns
returns c = piece_end (number_items) (blank ∷ []) c.args.path.now c.loop-number.number-index c.loop-number.out.items _ (omega arith) c.loop-number.invariant
