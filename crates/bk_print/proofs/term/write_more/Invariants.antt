use Rattle.std.proofs.Common.{◌≡◌, ◌++◌, map, drop}
use Rattle.bk_show.specs.Items.{text_of}
use Rattle.bk_show.specs.Shown.{items}
use Rattle.bk_print.specs.Text.{behind_each, comma}
use Rattle.bk_print.proofs.term.write_more.Given as goal

abbrev pub invariant-loop-term : goal.invariant-loop-term
invariant-loop-term l = l.out.items ++ text_of (behind_each comma (map (items l.types 0) (drop l.term-index l.terms))) ≡ l.fn.out.items ++ text_of (behind_each comma (map (items l.types 0) l.terms))
