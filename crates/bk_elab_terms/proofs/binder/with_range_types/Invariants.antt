use Rattle.std.proofs.Common.{◌≡◌, take}
use Rattle.bk_raw.specs.Meaning.Binders.{as_bound}
use Rattle.bk_elab_terms.specs.Sights.{bounds_of, ranges_as}
use Rattle.bk_elab_terms.proofs.binder.with_range_types.Given as goal

abbrev pub invariant-loop-name : goal.invariant-loop-name
invariant-loop-name l = bounds_of l.found.items ≡ as_bound (ranges_as (take l.name-index l.names))
