use Rattle.std.proofs.Common.{List, ℕ, [], ◌++◌, ◌∙◌, ap}
use Rattle.bk_evidence.specs.declared.item.Item.{Item}
use Rattle.bk_evidence.specs.declared.page.TheConstants.{FOOT}
use Rattle.bk_evidence.specs.Html.{begin_part, status_part, about_part}
use Rattle.bk_evidence.proofs.Pieces.{four_pieces}
use Rattle.bk_evidence.proofs.html.html_page.Goals as goal

pub returns : goal.returns
returns c =
    let report = c.args.report.now in
    four_pieces [] c.write_begin.new.page.items c.write_status.new.page.items c.write_about.new.page.items c.put.new.page.items
    (begin_part report) (status_part report.items.items) (about_part report) FOOT.now
    (c.in_ok-write_begin.ensures ∙ ap (λ (t : List ℕ). t ++ begin_part report) c.new-page.ensures.items)
    (c.in_ok-write_status.ensures ∙ ap (λ (items : List Item). c.write_begin.new.page.items ++ status_part items) c.deref.ensures.value)
    c.in_ok-write_about.ensures c.in_ok-put.ensures
