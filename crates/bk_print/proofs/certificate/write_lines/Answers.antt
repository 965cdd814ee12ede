use Rattle.bk_ops.specs.declared.sign.TheConstants.{BAR}
use Rattle.bk_print.specs.Text.{spaced, line_items}
use Rattle.bk_print.proofs.Pieces.{first_step_ok}
use Rattle.bk_print.proofs.certificate.write_lines.Goals as goal

pub returns-in_ok-write_line-in-len1-up : goal.returns-in_ok-write_line-in-len1-up
returns-in_ok-write_line-in-len1-up c =
    first_step_ok c.write_more_lines.result line_items (spaced BAR) c.args.lines.now c.first-item.result c.args.out.now.items c.write_line.new.out.items c.write_more_lines.new.out.items c.in-len1-up.len_at_least c.first-item.is c.in_ok-write_line-in-len1-up.ensures c.write_more_lines.ensures
