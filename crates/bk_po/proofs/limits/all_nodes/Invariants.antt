use Rattle.std.proofs.Common.{◌≡◌, ◌+◌, ◌-◌, ◌≤◌, ◌^◌, min, drop}
use Rattle.bk_po.specs.Limits.{all_nodes}
use Rattle.bk_po.proofs.limits.all_nodes.Given as goal

abbrev pub invariant-loop-whole : goal.invariant-loop-whole
invariant-loop-whole l = record {
  rest : min (l.total + all_nodes (drop l.whole-index l.wholes)) (2 ^ 64 - 1) ≡ min (all_nodes l.wholes) (2 ^ 64 - 1);
  fits : l.total ≤ 2 ^ 64 - 1;
}
