use Rattle.std.proofs.Common.{List, ℕ, ◌++◌, ◌∙◌, ap}
use Rattle.bk_evidence.specs.Html.{table_part}
use Rattle.bk_evidence.proofs.html.write_rows.Goals as goal

pub returns : goal.returns
returns c =
    c.in_ok-write_table.ensures ∙ ap (λ (rows : List ℕ). c.args.page.now.items ++ table_part c.args.settled rows) (c.deref.ensures.value ∙ c.in_ok-rows.ensures)
