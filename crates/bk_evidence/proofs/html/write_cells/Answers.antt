use Rattle.std.proofs.Common.{codes}
use Rattle.bk_evidence.specs.Html.{count_within}
use Rattle.bk_evidence.proofs.Pieces.{four_pieces}
use Rattle.bk_evidence.proofs.html.write_cells.Goals as goal

pub returns : goal.returns
returns c =
    let sums = c.args.sums in
    four_pieces c.args.page.now.items c.put_count.new.page.items c.put_count-2.new.page.items c.put_count-3.new.page.items c.put_count-4.new.page.items
    (count_within (codes "<td>") sums.obligations (codes "</td>")) (count_within (codes "<td>") sums.obvious (codes "</td>"))
    (count_within (codes "<td>") sums.proved (codes "</td>")) (count_within (codes "<td>") sums.left (codes "</td></tr>\n"))
    c.in_ok-put_count.ensures c.in_ok-put_count-2.ensures c.in_ok-put_count-3.ensures c.in_ok-put_count-4.ensures
