use Rattle.std.proofs.Common.{length}
use Rattle.bk_raw.specs.Grammar.ComponentSpelling.{Value}
use Rattle.bk_p_comp.specs.Parts.{AreValues}
use Rattle.bk_p_comp.proofs.EntryRows.{EntriesSoFar}
use Rattle.bk_p_comp.proofs.entries.values.Given as goal

abbrev pub invariant-loop-behind : goal.invariant-loop-behind
invariant-loop-behind l = EntriesSoFar Value AreValues l.tokens l.all l.rest

abbrev pub decreases-loop-behind : goal.decreases-loop-behind
decreases-loop-behind l = length l.rest
