use Rattle.std.proofs.Common.{Bool, true, false, cond, [], ◌++◌, sym, ◌∙◌, ap, append-nil}
use Rattle.bk_evidence.specs.Html.{is_asked, row_part}
use Rattle.bk_evidence.proofs.html.write_if_asked.Goals as goal

pub returns-then-not-is_asked : goal.returns-then-not-is_asked
returns-then-not-is_asked c =
    let text = c.args.page.now.items in
    sym (append-nil text) ∙ ap (λ (b : Bool). text ++ cond b (row_part c.args.item.now) []) (sym (sym c.is_asked.ensures ∙ c.if-not-is_asked.true))

pub returns : goal.returns
returns c =
    c.in_ok-write_row.ensures ∙ ap (λ (b : Bool). c.args.page.now.items ++ cond b (row_part c.args.item.now) []) (sym (sym c.is_asked.ensures ∙ c.if-not-is_asked.false))
