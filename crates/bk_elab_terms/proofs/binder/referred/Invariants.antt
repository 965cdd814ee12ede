use Rattle.std.proofs.Common.{◌≡◌, take, map}
use Rattle.bk_raw.specs.Meaning.Binders.{bound_names}
use Rattle.bk_elab_terms.specs.Sights.{bounds_of}
use Rattle.bk_elab_terms.proofs.binder.referred.Given as goal

abbrev pub invariant-loop-name : goal.invariant-loop-name
invariant-loop-name l = bounds_of l.found.items ≡ bound_names (map (λ x. x.now) (take l.name-index l.names))
