use Rattle.std.proofs.Common.{◌≡◌, ◌++◌, ◌-◌, take, drop}
use Rattle.bk_report.specs.Listing.{lines_from, lines_between}
use Rattle.bk_report.proofs.code.write_lines.Given as goal

-- the lines so far and those of the rest are all
abbrev pub invariant-loop-place : goal.invariant-loop-place
invariant-loop-place l = l.text.items ++ lines_from l.place (take (l.to - l.place) (drop l.place l.code)) ≡ l.fn.text.items ++ lines_between l.code l.from l.to
