use Rattle.std.proofs.Common.{◌≡◌, drop}
use Rattle.bk_raw.specs.Meaning.Binders.{untyped_faults}
use Rattle.bk_raw.specs.Errors.Blame.{blame, earlier}
use Rattle.bk_elab_terms.specs.Shown.{told}
use Rattle.bk_elab_terms.specs.Sights.{bounds_of}
use Rattle.bk_elab_terms.proofs.binder.untyped.Given as goal

-- what is told so far and that of those that are left is that of all
abbrev pub invariant-loop-local : goal.invariant-loop-local
invariant-loop-local l = earlier (told l.fault) (blame (untyped_faults (bounds_of (drop l.local-index l.locals)))) ≡ blame (untyped_faults (bounds_of l.locals))
