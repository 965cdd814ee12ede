use Rattle.std.proofs.Common.{◌≡◌, ◌++◌, map, drop}
use Rattle.bk_statics.specs.LevelOf.{at_level}
use Rattle.bk_statics.specs.Plan.{declared_texts}
use Rattle.bk_scope.specs.Shown.{declared_shown}
use Rattle.bk_elab_level.proofs.made.push_variable_texts.Given as goal

abbrev pub invariant-loop-variable : goal.invariant-loop-variable
invariant-loop-variable l = l.found.items ++ at_level l.level (declared_texts (map declared_shown (drop l.variable-index l.variables))) ≡ l.fn.found.items ++ at_level l.level (declared_texts (map declared_shown l.variables))
