use Rattle.std.proofs.Common.{◌≡◌, drop}
use Rattle.bk_raw.specs.Meaning.Binders.{is_used}
use Rattle.bk_elab_terms.specs.Sights.{ranges_as}
use Rattle.bk_elab_terms.proofs.binder.is_used.Given as goal

abbrev pub invariant-loop-name : goal.invariant-loop-name
invariant-loop-name l = is_used l.number (ranges_as (drop l.name-index l.names)) ≡ is_used l.number (ranges_as l.names)
