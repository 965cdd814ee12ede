use Rattle.std.proofs.Common.{true, false, ◌++◌, ◌∙◌, ap}
use Rattle.bk_evidence.specs.declared.sums.Sums.{Sums}
use Rattle.bk_evidence.specs.Items.{sums_over}
use Rattle.bk_evidence.specs.Html.{sums_part, concerns_part, rows_part}
use Rattle.bk_evidence.proofs.Pieces.{four_pieces}
use Rattle.bk_evidence.proofs.html.write_status.Goals as goal

pub returns : goal.returns
returns c =
    let items = c.args.items.now in
    four_pieces c.args.page.now.items c.write_sums.new.page.items c.write_concerns.new.page.items c.write_rows.new.page.items c.write_rows-2.new.page.items
    (sums_part (sums_over items)) (concerns_part items) (rows_part false items) (rows_part true items)
    (c.in_ok-write_sums.ensures ∙ ap (λ (s : Sums). c.args.page.now.items ++ sums_part s) c.sums_of.ensures)
    c.in_ok-write_concerns.ensures c.in_ok-write_rows.ensures c.in_ok-write_rows-2.ensures
