use Rattle.std.proofs.Common.{◌≡◌, ◌++◌, take}
use Rattle.bk_evidence.specs.Lines.{stray_lines}
use Rattle.bk_evidence.proofs.lines.write_strays.Given as goal

abbrev pub invariant-loop-stray : goal.invariant-loop-stray
invariant-loop-stray l = l.text.items ≡ l.fn.text.items ++ stray_lines (take l.stray-index l.strays)
