use Rattle.std.proofs.Common.{◌≡◌, take}
use Rattle.bk_raw.specs.Meaning.Binders.{unranged}
use Rattle.bk_elab_terms.specs.Sights.{ranges_as}
use Rattle.bk_elab_terms.proofs.binder.without_ranges.Given as goal

abbrev pub invariant-loop-name : goal.invariant-loop-name
invariant-loop-name l = ranges_as l.found.items ≡ unranged (take l.name-index l.names)
