use Rattle.std.proofs.Common.{◌≡◌, ◌+◌, ◌-◌, ◌≤◌, ◌^◌, min, drop}
use Rattle.bk_form.specs.Formula.{formulas_of, formulas_size}
use Rattle.bk_po.specs.Limits.{nodes_of}
use Rattle.bk_po.proofs.limits.nodes.Given as goal

abbrev pub invariant-loop-hypothesis : goal.invariant-loop-hypothesis
invariant-loop-hypothesis l = record {
  rest : min (l.total + formulas_size (formulas_of (drop l.hypothesis-index l.whole.hypotheses))) (2 ^ 64 - 1) ≡ min (nodes_of l.whole) (2 ^ 64 - 1);
  fits : l.total ≤ 2 ^ 64 - 1;
}
