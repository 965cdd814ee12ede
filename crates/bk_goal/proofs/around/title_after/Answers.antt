use Rattle.std.proofs.Common.{◌++◌, codes, ◌∙◌}
use Rattle.std.specs.Prelude.{decimal}
use Rattle.bk_goal.proofs.Lines.{joined, title_of_some}
use Rattle.bk_goal.proofs.around.title_after.Goals as goal

pub returns : goal.returns
returns c =
    let name = c.args.name.now in
    let first = c.in_ok-text.ensures.items ∙ c.as_bytes.ensures.value in
    title_of_some name c.args.done c.args.rules c.write_count-2.new.text.items c.requires
    (joined c.in_ok-text.text.items c.write_count.new.text.items c.write_count-2.new.text.items name (codes ", after rule " ++ decimal c.args.done) (codes " of " ++ decimal c.args.rules) first c.in_ok-write_count.ensures c.in_ok-write_count-2.ensures)
