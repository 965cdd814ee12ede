use Rattle.std.proofs.Common.{◌≡◌, ◌+◌, drop, suc}
use Rattle.bk_raw.specs.Meaning.Printed.{wrong_bounds}
use Rattle.bk_raw.specs.Errors.Blame.{blame, earlier}
use Rattle.bk_elab_terms.specs.Shown.{told}
use Rattle.bk_elab_terms.proofs.binder.wrong_bounds.Given as goal

-- what is told so far and that of those that are left is that of all
abbrev pub invariant-loop-index : goal.invariant-loop-index
invariant-loop-index l = earlier (told l.fault) (blame (wrong_bounds (suc (l.standing + l.index)) (drop l.index l.bounds))) ≡ blame (wrong_bounds (suc l.standing) l.bounds)
