use Rattle.std.proofs.Common.{length}
use Rattle.bk_p_proof.proofs.ScriptRead.{RulesSoFar}
use Rattle.bk_p_proof.proofs.script.rules.Given as goal

abbrev pub invariant-loop-behind : goal.invariant-loop-behind
invariant-loop-behind l = RulesSoFar l.tokens l.all.items l.is_high l.rest

abbrev pub decreases-loop-behind : goal.decreases-loop-behind
decreases-loop-behind l = length l.rest
