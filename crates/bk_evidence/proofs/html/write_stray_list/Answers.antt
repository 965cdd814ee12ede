use Rattle.std.proofs.Common.{codes}
use Rattle.std.specs.List.{flat_map}
use Rattle.bk_evidence.specs.Html.{stray_part}
use Rattle.bk_evidence.proofs.Pieces.{three_pieces}
use Rattle.bk_evidence.proofs.html.write_stray_list.Goals as goal

pub returns : goal.returns
returns c =
    three_pieces c.args.page.now.items c.put.new.page.items c.write_each_stray.new.page.items c.put-2.new.page.items
    (codes "<h2>Scripts that belong to no obligation</h2>\n<ul>\n") (flat_map stray_part c.args.strays.now) (codes "</ul>\n")
    c.in_ok-put.ensures c.in_ok-write_each_stray.ensures c.in_ok-put-2.ensures
