use Rattle.std.proofs.Common.{◌≡◌, ℕ, ◌<◌, Some}
use Rattle.bk_form.specs.Table.{variable_text}
use Rattle.bk_auto.proofs.variables.is_variable.Given as goal

abbrev pub invariant-loop-variable : goal.invariant-loop-variable
invariant-loop-variable l = (k : ℕ) → k < l.variable → variable_text l.table k ≡ Some l.text → ⊥
