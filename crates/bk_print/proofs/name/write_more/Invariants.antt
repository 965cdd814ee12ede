use Rattle.std.proofs.Common.{◌≡◌, ◌++◌, map, drop}
use Rattle.bk_show.specs.Items.{text_of}
use Rattle.bk_print.specs.Text.{behind_each, comma, name_items}
use Rattle.bk_print.proofs.name.write_more.Given as goal

abbrev pub invariant-loop-name : goal.invariant-loop-name
invariant-loop-name l = l.out.items ++ text_of (behind_each comma (map (name_items l.types) (drop l.name-index l.names))) ≡ l.fn.out.items ++ text_of (behind_each comma (map (name_items l.types) l.names))
