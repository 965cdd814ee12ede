use Rattle.std.proofs.Common.{◌≡◌, drop}
use Rattle.bk_origins.specs.Concerns.{behind_dot}
use Rattle.bk_origins.proofs.concern.behind_dot.Given as goal

abbrev pub invariant-loop-index : goal.invariant-loop-index
invariant-loop-index l = behind_dot (drop l.index l.name) ≡ behind_dot l.name
