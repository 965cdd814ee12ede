use Rattle.std.proofs.Common.{◌&&◌, sym, ◌∙◌}
use Rattle.bk_status.specs.Rows.{is_settled}
use Rattle.bk_evidence.specs.Lines.{item_line}
use Rattle.bk_evidence.proofs.Pieces.{left_out, written}
use Rattle.bk_evidence.proofs.lines.write_if_asked.Goals as goal

pub returns-then-is_left_out : goal.returns-then-is_left_out
returns-then-is_left_out c =
    left_out c.args.text.now.items (item_line c.args.item.now) (c.args.is_open_only && is_settled c.args.item.now.state) (sym c.is_left_out.ensures ∙ c.if-is_left_out.true)

pub returns : goal.returns
returns c =
    written c.args.text.now.items c.write_item.new.text.items (item_line c.args.item.now) (c.args.is_open_only && is_settled c.args.item.now.state) (sym c.is_left_out.ensures ∙ c.if-is_left_out.false) c.in_ok-write_item.ensures
