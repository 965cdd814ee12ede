use Rattle.std.proofs.Common.{◌≡◌, length}
use Rattle.bk_p_comp.specs.Entries.{CompleteSet}
use Rattle.bk_p_comp.proofs.EntryRows.{EntriesSoFar}
use Rattle.bk_p_comp.proofs.entries.sets.Given as goal

abbrev pub invariant-loop-behind : goal.invariant-loop-behind
invariant-loop-behind l = EntriesSoFar CompleteSet (λ xs ys. ys ≡ xs) l.tokens l.all.items l.rest

abbrev pub decreases-loop-behind : goal.decreases-loop-behind
decreases-loop-behind l = length l.rest
