use Rattle.std.proofs.Common.{◌≤◌, length, IsUtf8}
use Rattle.bk_limits.specs.declared.TheConstants.{MOST_TOKENS}
use Rattle.bk_lex.specs.Lexis.{Cut}
use Rattle.bk_lex.specs.Parts.{NoGap}
use Rattle.bk_lex.proofs.lexer.cut.Given as goal

abbrev pub invariant-loop-rest : goal.invariant-loop-rest
invariant-loop-rest l = Cut (length l.text) l.text l.found.items l.rest × NoGap l.rest × (length l.rest ≤ length l.text) × (length l.found.items ≤ MOST_TOKENS) × IsUtf8 l.rest

abbrev pub decreases-loop-rest : goal.decreases-loop-rest
decreases-loop-rest l = length l.rest
