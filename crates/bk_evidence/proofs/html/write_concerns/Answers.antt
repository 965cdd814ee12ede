use Rattle.std.proofs.Common.{codes}
use Rattle.bk_evidence.specs.Html.{first_concerns_part, last_concerns_part}
use Rattle.bk_evidence.proofs.Pieces.{four_pieces}
use Rattle.bk_evidence.proofs.html.write_concerns.Goals as goal

pub returns : goal.returns
returns c =
    four_pieces c.args.page.now.items c.put.new.page.items c.write_first_concerns.new.page.items c.write_last_concerns.new.page.items c.put-2.new.page.items
    (codes "<table>\n<thead><tr><th>Kind</th><th>Obligations</th><th>Obvious</th><th>Proved</th><th>Open</th></tr></thead>\n<tbody>\n") (first_concerns_part c.args.items.now) (last_concerns_part c.args.items.now) (codes "</tbody>\n</table>\n")
    c.in_ok-put.ensures c.in_ok-write_first_concerns.ensures c.in_ok-write_last_concerns.ensures c.in_ok-put-2.ensures
