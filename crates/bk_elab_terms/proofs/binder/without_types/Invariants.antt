use Rattle.std.proofs.Common.{◌≡◌, take}
use Rattle.bk_raw.specs.Meaning.Binders.{bound_names}
use Rattle.bk_elab_terms.specs.Sights.{bounds_of}
use Rattle.bk_elab_terms.proofs.binder.without_types.Given as goal

abbrev pub invariant-loop-name : goal.invariant-loop-name
invariant-loop-name l = bounds_of l.found.items ≡ bound_names (take l.name-index l.names)
