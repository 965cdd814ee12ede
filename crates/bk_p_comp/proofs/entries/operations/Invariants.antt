use Rattle.std.proofs.Common.{length}
use Rattle.bk_raw.specs.Grammar.ComponentSpelling.{Operation}
use Rattle.bk_p_comp.specs.Parts.{AreOperations}
use Rattle.bk_p_comp.proofs.EntryRows.{EntriesSoFar}
use Rattle.bk_p_comp.proofs.entries.operations.Given as goal

abbrev pub invariant-loop-behind : goal.invariant-loop-behind
invariant-loop-behind l = EntriesSoFar Operation AreOperations l.tokens l.all l.rest

abbrev pub decreases-loop-behind : goal.decreases-loop-behind
decreases-loop-behind l = length l.rest
