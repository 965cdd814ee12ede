use Rattle.std.proofs.Common.{◌≡◌, drop}
use Rattle.bk_bind.specs.Renaming.{new_name}
use Rattle.bk_bind.proofs.renaming.new_name.Given as goal

abbrev pub invariant-loop-variable : goal.invariant-loop-variable
invariant-loop-variable l = new_name (drop l.variable-index l.pairs) l.number ≡ new_name l.pairs l.number
