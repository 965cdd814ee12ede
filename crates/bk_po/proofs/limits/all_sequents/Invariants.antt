use Rattle.std.proofs.Common.{◌≡◌, ◌+◌, ◌-◌, ◌≤◌, ◌^◌, min, drop, length}
use Rattle.bk_po.specs.Obligations.{numbered_sequents}
use Rattle.bk_po.proofs.limits.all_sequents.Given as goal

abbrev pub invariant-loop-whole : goal.invariant-loop-whole
invariant-loop-whole l = record {
  rest : min (l.total + length (numbered_sequents (drop l.whole-index l.wholes))) (2 ^ 64 - 1) ≡ min (length (numbered_sequents l.wholes)) (2 ^ 64 - 1);
  fits : l.total ≤ 2 ^ 64 - 1;
}
