use Rattle.bk_show.specs.Shown.{items}
use Rattle.bk_print.specs.Text.{comma}
use Rattle.bk_print.proofs.Pieces.{first_step_ok}
use Rattle.bk_print.proofs.term.write_list.Goals as goal

pub returns-in_ok-write_shown-in-len1-up : goal.returns-in_ok-write_shown-in-len1-up
returns-in_ok-write_shown-in-len1-up c =
    first_step_ok c.write_more.result (items c.args.types.now 0) comma c.args.terms.now c.first-item.result c.args.out.now.items c.write_shown.new.out.items c.write_more.new.out.items c.in-len1-up.len_at_least c.first-item.is c.in_ok-write_shown-in-len1-up.ensures c.write_more.ensures
