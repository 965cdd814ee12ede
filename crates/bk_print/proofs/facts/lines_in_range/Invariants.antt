use Rattle.std.proofs.Common.{ℕ, ◌<◌, get_or}
use Rattle.bk_lin.specs.declared.fact.Line.{Line}
use Rattle.bk_print.specs.InScope.{LineFits}
use Rattle.bk_print.proofs.facts.lines_in_range.Given as goal

abbrev pub invariant-loop-line : goal.invariant-loop-line
invariant-loop-line l = (k : ℕ) (d : Line) → k < l.line-index → LineFits (get_or l.lines k d)
