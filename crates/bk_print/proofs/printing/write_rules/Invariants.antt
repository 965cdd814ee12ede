use Rattle.std.proofs.Common.{◌≡◌, ◌++◌, drop}
use Rattle.bk_print.specs.Text.{rule_lines, lines_text}
use Rattle.bk_print.proofs.printing.write_rules.Given as goal

-- the lines so far and those of the rest are all
abbrev pub invariant-loop-index : goal.invariant-loop-index
invariant-loop-index l = l.out.items ++ lines_text (rule_lines l.types (drop l.index l.rules)) ≡ l.fn.out.items ++ lines_text (rule_lines l.types l.rules)
