use Rattle.std.proofs.Common.{◌≡◌, ◌++◌, take}
use Rattle.bk_report.specs.Obligations.{hypothesis_lines}
use Rattle.bk_report.proofs.obligations.write_hypotheses.Given as goal

abbrev pub invariant-loop-index : goal.invariant-loop-index
invariant-loop-index l = l.text.items ≡ l.fn.text.items ++ hypothesis_lines l.table 1 (take l.index l.hypotheses)
