use Rattle.std.proofs.Common.{◌≡◌, ◌++◌, map, drop}
use Rattle.bk_statics.specs.LevelOf.{variable_homes}
use Rattle.bk_scope.specs.Shown.{declared_shown}
use Rattle.bk_elab_level.proofs.made.push_variable_homes.Given as goal

abbrev pub invariant-loop-variable : goal.invariant-loop-variable
invariant-loop-variable l = l.found.items ++ variable_homes l.level (map declared_shown (drop l.variable-index l.variables)) ≡ l.fn.found.items ++ variable_homes l.level (map declared_shown l.variables)
