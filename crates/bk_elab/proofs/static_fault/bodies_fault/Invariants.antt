use Rattle.std.proofs.Common.{◌≡◌, map, drop}
use Rattle.bk_raw.specs.Errors.Blame.{blame, earlier}
use Rattle.bk_elab_terms.specs.Shown.{told}
use Rattle.bk_elab_terms.specs.Visible.{typing_of}
use Rattle.bk_dev.specs.Development.{Development}
use Rattle.bk_elab.specs.Answered.{WritesOwn, bodies_judged}
use Rattle.bk_scope.specs.Shown.{placed_shown}
use Rattle.bk_elab.proofs.static_fault.bodies_fault.Given as goal

abbrev pub invariant-loop-placed : goal.invariant-loop-placed
invariant-loop-placed l = (dev : Development) → WritesOwn l.plan dev → earlier (told l.fault) (blame (bodies_judged l.typing (typing_of l.typing.types.now) l.plan dev (map placed_shown (drop l.placed-index l.placed-items)))) ≡ blame (bodies_judged l.typing (typing_of l.typing.types.now) l.plan dev (map placed_shown l.placed-items))
