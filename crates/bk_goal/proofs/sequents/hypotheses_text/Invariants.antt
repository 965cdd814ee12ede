use Rattle.std.proofs.Common.{take}
use Rattle.bk_goal.specs.Shown.{ShowsHypotheses}
use Rattle.bk_goal.proofs.sequents.hypotheses_text.Given as goal

abbrev pub invariant-loop-index : goal.invariant-loop-index
invariant-loop-index l = ShowsHypotheses l.table l.old 1 (take l.index l.hyps) l.text.items
