use Rattle.std.proofs.Common.{length}
use Rattle.bk_raw.specs.Grammar.Pieces.{Digits}
use Rattle.bk_p_proof.proofs.Places.{RowTo}
use Rattle.bk_p_proof.proofs.place.path.Given as goal

abbrev pub invariant-loop-number : goal.invariant-loop-number
invariant-loop-number l = RowTo Digits l.tokens l.numbers.items l.rest

abbrev pub decreases-loop-number : goal.decreases-loop-number
decreases-loop-number l = length l.rest
