use Rattle.std.proofs.Common.{◌≡◌, ◌+◌, ◌++◌, drop}
use Rattle.bk_auto.specs.Found.{comparison_numbers}
use Rattle.bk_auto.proofs.arithmetic.comparison_numbers.Given as goal

abbrev pub invariant-loop-index : goal.invariant-loop-index
invariant-loop-index l = l.numbers.items ++ comparison_numbers (l.index + 1) (drop l.index l.hyps) ≡ comparison_numbers 1 l.hyps
