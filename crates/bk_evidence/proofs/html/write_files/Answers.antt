use Rattle.bk_evidence.specs.Html.{input_part}
use Rattle.bk_evidence.proofs.Pieces.{one_piece_more}
use Rattle.bk_evidence.proofs.html.write_files.Goals as goal

pub loop-input-preserved : goal.loop-input-preserved
loop-input-preserved c =
    one_piece_more input_part c.args.page.now.items c.loop-input.page.items c.write_input.new.page.items c.args.inputs.now c.loop-input.input-index c.input-item.result
    c.loop-input-test.true c.input-item.is c.loop-input.invariant c.in_ok-write_input.ensures
