use Rattle.std.proofs.Common.{get_or, map}
use Rattle.bk_print.specs.Text.{comma, divided, name_items}
use Rattle.bk_print.proofs.Pieces.{first_step_ok, behind_blank_ok, read_at}
use Rattle.bk_print.proofs.name.write_names.Goals as goal

pub returns-in_ok-write_name-in-len1-up : goal.returns-in_ok-write_name-in-len1-up
returns-in_ok-write_name-in-len1-up c =
    let ns = c.args.names.now in
    let its = name_items c.args.types.now in
    let mid = c.extend_from_slice.new.self.items in
    behind_blank_ok c.write_more.result c.args.out.now.items mid c.write_more.new.out.items (divided comma (map its ns)) c.in_ok-extend_from_slice.ensures.items
    (first_step_ok c.write_more.result its comma ns (get_or ns 0 0) mid c.write_name.new.out.items c.write_more.new.out.items c.in-len1-up.len_at_least (read_at ns 0 c.in-len1-up.len_at_least) c.in_ok-write_name-in-len1-up.ensures c.write_more.ensures)
