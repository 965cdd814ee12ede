use Rattle.std.proofs.Common.{◌≡◌, drop}
use Rattle.bk_dev.specs.Layout.{constant_bound}
use Rattle.bk_dev.proofs.arrays.value_of.Given as goal

abbrev pub invariant-loop-number : goal.invariant-loop-number
invariant-loop-number l = constant_bound l.constant (drop l.number-index l.values) ≡ constant_bound l.constant l.values
