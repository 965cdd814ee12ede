use Rattle.std.proofs.Common.{◌≡◌, drop}
use Rattle.bk_raw.specs.Meaning.Binders.{as_bound, untyped_faults}
use Rattle.bk_raw.specs.Errors.Blame.{blame, earlier}
use Rattle.bk_elab_terms.specs.Shown.{told}
use Rattle.bk_elab_terms.specs.Sights.{ranges_as}
use Rattle.bk_elab_terms.proofs.binder.unranged.Given as goal

-- what is told so far and that of those that are left is that of all
abbrev pub invariant-loop-name : goal.invariant-loop-name
invariant-loop-name l = earlier (told l.fault) (blame (untyped_faults (as_bound (ranges_as (drop l.name-index l.names))))) ≡ blame (untyped_faults (as_bound (ranges_as l.names)))
