use Rattle.std.proofs.Common.{length, sym, ◌∙◌}
use Rattle.std.specs.Prelude.{nat_eq}
use Rattle.bk_evidence.specs.Html.{shown_row}
use Rattle.bk_evidence.proofs.Pieces.{left_out, written}
use Rattle.bk_evidence.proofs.html.write_shown.Goals as goal

pub returns-then-is_empty : goal.returns-then-is_empty
returns-then-is_empty c =
    left_out c.args.page.now.items (shown_row c.args.shown.now) (nat_eq (length c.args.shown.now) 0) (sym c.is_empty.ensures ∙ c.if-is_empty.true)

pub returns : goal.returns
returns c =
    written c.args.page.now.items c.put_text.new.page.items (shown_row c.args.shown.now) (nat_eq (length c.args.shown.now) 0) (sym c.is_empty.ensures ∙ c.if-is_empty.false) c.in_ok-put_text.ensures
