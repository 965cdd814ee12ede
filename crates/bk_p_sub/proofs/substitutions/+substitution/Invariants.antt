use Rattle.std.proofs.Common.{◌+◌, ◌*◌, length}
use Rattle.bk_ops.specs.declared.sign.TheConstants.{SEMICOLON, PARALLEL}
use Rattle.bk_raw.specs.Trees.SubTree.{sub_sequence, sub_parallel}
use Rattle.bk_p_sub.specs.Statements.{word_of}
use Rattle.bk_p_sub.proofs.Joined.{JoinedSoFar}
use Rattle.bk_p_sub.proofs.Tails.{BranchesSoFar, ChoicesSoFar}
use Rattle.bk_p_sub.proofs.substitutions.+substitution.Given as goal

abbrev pub decreases-sequence : goal.decreases-sequence
decreases-sequence l = 4 * length l.tokens.now + 3

abbrev pub decreases-parallel : goal.decreases-parallel
decreases-parallel l = 4 * length l.tokens.now + 2

abbrev pub decreases-atom : goal.decreases-atom
decreases-atom l = 4 * length l.tokens.now + 1

abbrev pub decreases-looped : goal.decreases-looped
decreases-looped l = 4 * length l.tokens.now

abbrev pub decreases-branches : goal.decreases-branches
decreases-branches l = 4 * length l.tokens.now

abbrev pub decreases-choices : goal.decreases-choices
decreases-choices l = 4 * length l.tokens.now

abbrev pub invariant-sequence-loop-behind : goal.invariant-sequence-loop-behind
invariant-sequence-loop-behind l = JoinedSoFar l.calls 1 SEMICOLON sub_sequence l.tokens l.left l.rest

abbrev pub decreases-sequence-loop-behind : goal.decreases-sequence-loop-behind
decreases-sequence-loop-behind l = length l.rest

abbrev pub invariant-parallel-loop-behind : goal.invariant-parallel-loop-behind
invariant-parallel-loop-behind l = JoinedSoFar l.calls 2 PARALLEL sub_parallel l.tokens l.left l.rest

abbrev pub decreases-parallel-loop-behind : goal.decreases-parallel-loop-behind
decreases-parallel-loop-behind l = length l.rest

abbrev pub invariant-branches-loop-behind : goal.invariant-branches-loop-behind
invariant-branches-loop-behind l = BranchesSoFar l.calls (word_of l.test) l.tokens l.all l.rest

abbrev pub decreases-branches-loop-behind : goal.decreases-branches-loop-behind
decreases-branches-loop-behind l = length l.rest

abbrev pub invariant-choices-loop-behind : goal.invariant-choices-loop-behind
invariant-choices-loop-behind l = ChoicesSoFar l.calls l.tokens l.all l.rest

abbrev pub decreases-choices-loop-behind : goal.decreases-choices-loop-behind
decreases-choices-loop-behind l = length l.rest
