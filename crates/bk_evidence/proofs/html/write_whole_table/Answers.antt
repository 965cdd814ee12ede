use Rattle.std.proofs.Common.{◌++◌, ◌∙◌, ap, codes}
use Rattle.bk_evidence.specs.Html.{heading}
use Rattle.bk_evidence.proofs.Pieces.{four_pieces}
use Rattle.bk_evidence.proofs.html.write_whole_table.Goals as goal

pub returns : goal.returns
returns c =
    four_pieces c.args.page.now.items c.put.new.page.items c.put-2.new.page.items c.extend_from_slice.new.self.items c.put-3.new.page.items
    (heading c.args.settled) (codes "<table>\n<thead><tr><th>Obligation</th><th>What it asks</th><th>Where</th><th>State</th></tr></thead>\n<tbody>\n") c.args.rows.now (codes "</tbody>\n</table>\n")
    (c.in_ok-put.ensures ∙ ap (λ s. c.args.page.now.items ++ s) c.heading.ensures) c.in_ok-put-2.ensures c.in_ok-extend_from_slice.ensures.items c.in_ok-put-3.ensures
