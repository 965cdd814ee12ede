use Rattle.std.proofs.Common.{◌≡◌, ◌≤◌, take, length}
use Rattle.bk_front.specs.ProjectFile.{component_lines}
use Rattle.bk_tests_print.proofs.words.component_count.Given as goal

abbrev pub invariant-loop-line : goal.invariant-loop-line
invariant-loop-line l = (l.count ≡ length (component_lines (take l.line-index l.lines))) × (l.count ≤ l.line-index)
