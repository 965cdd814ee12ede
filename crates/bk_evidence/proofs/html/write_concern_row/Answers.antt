use Rattle.std.proofs.Common.{List, ℕ, ◌++◌, ◌∙◌, ap, codes}
use Rattle.bk_evidence.specs.Html.{text_within, cells_part}
use Rattle.bk_evidence.specs.Lines.{concern_text}
use Rattle.bk_evidence.proofs.Pieces.{two_pieces}
use Rattle.bk_evidence.proofs.html.write_concern_row.Goals as goal

pub returns : goal.returns
returns c =
    two_pieces c.args.page.now.items c.put_text.new.page.items c.write_cells.new.page.items
    (text_within (codes "<tr><td>") (concern_text c.args.concern) (codes "</td>")) (cells_part c.args.sums)
    (c.in_ok-put_text.ensures ∙ ap (λ (t : List ℕ). c.args.page.now.items ++ text_within (codes "<tr><td>") t (codes "</td>")) (c.as_bytes.ensures.value ∙ c.concern_text.ensures))
    c.in_ok-write_cells.ensures
