use Rattle.std.proofs.Common.{ℕ, ◌<◌, get_or}
use Rattle.bk_kernel.specs.declared.rule.Rule.{Rule}
use Rattle.bk_print.specs.InScope.{RuleFits}
use Rattle.bk_print.proofs.facts.are_in_range.Given as goal

abbrev pub invariant-loop-rule : goal.invariant-loop-rule
invariant-loop-rule l = (k : ℕ) (d : Rule) → k < l.rule-index → RuleFits (get_or l.rules k d)
