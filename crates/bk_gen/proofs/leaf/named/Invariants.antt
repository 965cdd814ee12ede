use Rattle.std.proofs.Common.{◌≡◌, drop}
use Rattle.bk_gen.specs.Executed.{constant_or_cell}
use Rattle.bk_gen.proofs.leaf.named.Given as goal

abbrev pub invariant-loop-constant : goal.invariant-loop-constant
invariant-loop-constant l = constant_or_cell l.slot l.variable (drop l.constant-index l.values) ≡ constant_or_cell l.slot l.variable l.values
