use Rattle.std.proofs.Common.{◌≡◌, ◌++◌, take}
use Rattle.bk_evidence.specs.Lines.{list_lines}
use Rattle.bk_evidence.proofs.lines.write_items.Given as goal

abbrev pub invariant-loop-item : goal.invariant-loop-item
invariant-loop-item l = l.text.items ≡ l.fn.text.items ++ list_lines l.is_open_only (take l.item-index l.items)
