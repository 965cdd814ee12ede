use Rattle.std.proofs.Common.{◌≡◌, drop}
use Rattle.bk_form.specs.Replacement.{looked_up}
use Rattle.bk_bind.proofs.replacement.find.Given as goal

abbrev pub invariant-loop-variable : goal.invariant-loop-variable
invariant-loop-variable l = looked_up (drop l.variable-index l.pairs) l.number ≡ looked_up l.pairs l.number
