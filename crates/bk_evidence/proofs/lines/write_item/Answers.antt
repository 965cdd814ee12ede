use Rattle.bk_evidence.specs.Lines.{question_text, place_text, answer_text}
use Rattle.bk_evidence.proofs.Pieces.{three_pieces}
use Rattle.bk_evidence.proofs.lines.write_item.Goals as goal

pub returns : goal.returns
returns c =
    let item = c.args.item.now in
    three_pieces c.args.text.now.items c.write_question.new.text.items c.write_place.new.text.items c.write_answer.new.text.items (question_text item) (place_text item) (answer_text item)
    c.in_ok-write_question.ensures c.in_ok-write_place.ensures c.in_ok-write_answer.ensures
