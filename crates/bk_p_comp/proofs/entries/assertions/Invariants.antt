use Rattle.std.proofs.Common.{length}
use Rattle.bk_raw.specs.Trees.RawTree.{trees_of}
use Rattle.bk_raw.specs.Grammar.Spelling.{Term}
use Rattle.bk_p_expr.specs.Pieces.{IsTerms}
use Rattle.bk_p_comp.proofs.EntryRows.{EntriesSoFar}
use Rattle.bk_p_comp.proofs.entries.assertions.Given as goal

abbrev pub invariant-loop-behind : goal.invariant-loop-behind
invariant-loop-behind l = EntriesSoFar (λ t. Term t 0) (λ ts all. IsTerms (trees_of ts) all) l.tokens l.all l.rest

abbrev pub decreases-loop-behind : goal.decreases-loop-behind
decreases-loop-behind l = length l.rest
