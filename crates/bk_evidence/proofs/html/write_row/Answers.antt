use Rattle.std.proofs.Common.{List, ℕ, ◌++◌, ◌∙◌, ap}
use Rattle.bk_evidence.specs.Html.{question_part, place_part, answer_part, shown_part}
use Rattle.bk_evidence.proofs.Pieces.{four_pieces}
use Rattle.bk_evidence.proofs.html.write_row.Goals as goal

pub returns : goal.returns
returns c =
    let item = c.args.item.now in
    four_pieces c.args.page.now.items c.write_question.new.page.items c.write_place.new.page.items c.write_answer.new.page.items c.write_shown.new.page.items
    (question_part item) (place_part item) (answer_part item) (shown_part item.shown)
    c.in_ok-write_question.ensures c.in_ok-write_place.ensures c.in_ok-write_answer.ensures
    (c.in_ok-write_shown.ensures ∙ ap (λ (t : List ℕ). c.write_answer.new.page.items ++ shown_part t) c.as_bytes.ensures.value)
