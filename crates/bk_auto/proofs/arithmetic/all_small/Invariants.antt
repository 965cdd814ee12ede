use Rattle.std.proofs.Common.{ℕ, ◌<◌, get_or}
use Rattle.bk_lin.specs.declared.fact.Fact.{Fact}
use Rattle.bk_auto.specs.Found.{IsSmallFact}
use Rattle.bk_auto.proofs.arithmetic.all_small.Given as goal

abbrev pub invariant-loop-fact : goal.invariant-loop-fact
invariant-loop-fact l = (k : ℕ) (d : Fact) → k < l.fact-index → IsSmallFact (get_or l.facts k d)
