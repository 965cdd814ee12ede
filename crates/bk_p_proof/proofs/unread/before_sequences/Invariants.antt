use Rattle.std.proofs.Common.{◌≡◌, ◌++◌, false, take, drop}
use Rattle.bk_p_proof.specs.Unread.{before_sequences}
use Rattle.bk_p_proof.proofs.unread.before_sequences.Given as goal

abbrev pub invariant-loop-end : goal.invariant-loop-end
invariant-loop-end l = before_sequences false l.tokens ≡ take l.end l.tokens ++ before_sequences l.is_part (drop l.end l.tokens)
