use Rattle.std.proofs.Common.{◌≡◌, ◌++◌, not, drop}
use Rattle.std.specs.List.{filter}
use Rattle.bk_gsl.specs.State.{among, firsts}
use Rattle.bk_dev.proofs.clues.without_type.Given as goal

abbrev pub invariant-loop-variable : goal.invariant-loop-variable
invariant-loop-variable l = l.variables.items ++ filter (λ x. not (among (firsts l.level.links) x)) (drop l.variable-index l.level.vars) ≡ filter (λ x. not (among (firsts l.level.links) x)) l.level.vars
