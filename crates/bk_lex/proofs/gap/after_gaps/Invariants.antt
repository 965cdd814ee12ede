use Rattle.std.proofs.Common.{◌≡◌, ◌≤◌, false, length, List, IsUtf8}
use Rattle.bk_lex.specs.Lexis.{is_blank, Gap, AreGaps}
use Rattle.bk_lex.specs.Parts.{begins}
use Rattle.bk_lex.proofs.gap.after_gaps.Given as goal

abbrev pub invariant-loop-after : goal.invariant-loop-after
invariant-loop-after l = (gaps : List Gap) × AreGaps gaps l.text l.rest × (begins is_blank l.rest ≡ false) × (length l.rest ≤ length l.text) × IsUtf8 l.rest

abbrev pub decreases-loop-after : goal.decreases-loop-after
decreases-loop-after l = length l.rest
