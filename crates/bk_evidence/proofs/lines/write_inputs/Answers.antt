use Rattle.bk_evidence.specs.Lines.{input_line}
use Rattle.bk_evidence.proofs.Pieces.{one_piece_more}
use Rattle.bk_evidence.proofs.lines.write_inputs.Goals as goal

pub loop-input-preserved : goal.loop-input-preserved
loop-input-preserved c =
    one_piece_more input_line c.args.text.now.items c.loop-input.text.items c.write_input.new.text.items c.args.inputs.now c.loop-input.input-index c.input-item.result
    c.loop-input-test.true c.input-item.is c.loop-input.invariant c.in_ok-write_input.ensures
