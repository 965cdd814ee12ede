use Rattle.std.proofs.Common.{List, ℕ, ◌++◌, ◌∙◌, ap, codes}
use Rattle.bk_report.specs.Table.{state_text}
use Rattle.bk_evidence.specs.Html.{state_mark, script_part}
use Rattle.bk_evidence.proofs.Pieces.{four_pieces}
use Rattle.bk_evidence.proofs.html.write_answer.Goals as goal

pub returns : goal.returns
returns c =
    let item = c.args.item.now in
    four_pieces c.args.page.now.items c.put.new.page.items c.write_state.new.text.items c.write_script.new.page.items c.put-2.new.page.items
    (state_mark item.state) (state_text item.state) (script_part item.script) (codes "</td></tr>\n")
    (c.in_ok-put.ensures ∙ ap (λ (t : List ℕ). c.args.page.now.items ++ t) c.state_mark.ensures)
    c.in_ok-write_state.ensures c.in_ok-write_script.ensures c.in_ok-put-2.ensures
