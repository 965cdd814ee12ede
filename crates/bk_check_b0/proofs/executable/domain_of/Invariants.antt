use Rattle.std.proofs.Common.{◌≡◌, drop}
use Rattle.bk_check_b0.specs.Executed.{array_by}
use Rattle.bk_check_b0.proofs.executable.domain_of.Given as goal

abbrev pub invariant-loop-array : goal.invariant-loop-array
invariant-loop-array l = array_by (drop l.array-index l.arrays) l.variable ≡ array_by l.arrays l.variable
