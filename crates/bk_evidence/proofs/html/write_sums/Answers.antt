use Rattle.std.proofs.Common.{codes}
use Rattle.bk_evidence.specs.Html.{count_within}
use Rattle.bk_evidence.proofs.Pieces.{four_pieces}
use Rattle.bk_evidence.proofs.html.write_sums.Goals as goal

pub returns : goal.returns
returns c =
    let sums = c.args.sums in
    four_pieces c.args.page.now.items c.put_count.new.page.items c.put_count-2.new.page.items c.put_count-3.new.page.items c.put_count-4.new.page.items
    (count_within (codes "<ul class=\"sums\">\n<li><b>") sums.obligations (codes "</b>obligations</li>\n"))
    (count_within (codes "<li><b>") sums.obvious (codes "</b>obvious</li>\n")) (count_within (codes "<li><b>") sums.proved (codes "</b>proved</li>\n"))
    (count_within (codes "<li><b>") sums.left (codes "</b>open</li>\n</ul>\n"))
    c.in_ok-put_count.ensures c.in_ok-put_count-2.ensures c.in_ok-put_count-3.ensures c.in_ok-put_count-4.ensures
