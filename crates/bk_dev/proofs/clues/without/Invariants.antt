use Rattle.std.proofs.Common.{◌≡◌, ◌++◌, not, drop}
use Rattle.std.specs.List.{filter}
use Rattle.bk_gsl.specs.State.{among}
use Rattle.bk_dev.specs.Codes.ClueView.{spoken_list}
use Rattle.bk_dev.proofs.clues.without.Given as goal

abbrev pub invariant-loop-variable : goal.invariant-loop-variable
invariant-loop-variable l = l.left.items ++ filter (λ n. not (among (spoken_list l.gone) n)) (drop l.variable-index l.variables) ≡ filter (λ n. not (among (spoken_list l.gone) n)) l.variables
