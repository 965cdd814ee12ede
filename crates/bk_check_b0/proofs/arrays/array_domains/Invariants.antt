use Rattle.std.proofs.Common.{◌≡◌, ◌++◌, drop}
use Rattle.bk_dev.specs.Development.{Development}
use Rattle.bk_check_b0.specs.Arrays.{IsDeclaredBy}
use Rattle.bk_scope.specs.Shown.{above_shown}
use Rattle.bk_check_b0.proofs.Arraying.{domains_told}
use Rattle.bk_check_b0.proofs.arrays.array_domains.Given as goal

abbrev pub invariant-loop-variable : goal.invariant-loop-variable
invariant-loop-variable l = (dev : Development) → IsDeclaredBy dev l.typing (above_shown l.above) l.own l.values → l.found.items ++ domains_told dev (drop l.variable-index l.level.vars) ≡ domains_told dev l.level.vars
