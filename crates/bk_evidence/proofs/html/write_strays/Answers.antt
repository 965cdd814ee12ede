use Rattle.std.proofs.Common.{length, sym, ◌∙◌}
use Rattle.std.specs.Prelude.{nat_eq}
use Rattle.bk_evidence.specs.Html.{stray_list}
use Rattle.bk_evidence.proofs.Pieces.{left_out, written}
use Rattle.bk_evidence.proofs.html.write_strays.Goals as goal

pub returns-then-is_empty : goal.returns-then-is_empty
returns-then-is_empty c =
    left_out c.args.page.now.items (stray_list c.args.strays.now) (nat_eq (length c.args.strays.now) 0) (sym c.is_empty.ensures ∙ c.if-is_empty.true)

pub returns : goal.returns
returns c =
    written c.args.page.now.items c.write_stray_list.new.page.items (stray_list c.args.strays.now) (nat_eq (length c.args.strays.now) 0) (sym c.is_empty.ensures ∙ c.if-is_empty.false) c.in_ok-write_stray_list.ensures
