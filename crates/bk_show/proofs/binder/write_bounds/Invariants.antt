use Rattle.std.proofs.Common.{◌≡◌, ◌++◌, suc, take}
use Rattle.bk_show.specs.Items.{text_of}
use Rattle.bk_show.specs.Shown.{bounds_items}
use Rattle.bk_show.proofs.binder.write_bounds.Given as goal

abbrev pub invariant-loop-index : goal.invariant-loop-index
invariant-loop-index l = l.out.items ≡ l.fn.out.items ++ text_of (bounds_items l.table (suc l.around) (take l.index l.types))
