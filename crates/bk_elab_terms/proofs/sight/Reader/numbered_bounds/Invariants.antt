use Rattle.std.proofs.Common.{◌≡◌, take}
use Rattle.bk_raw.specs.Meaning.Printed.{printed_bounds}
use Rattle.bk_elab_terms.specs.Sights.{bounds_of, names_of}
use Rattle.bk_elab_terms.proofs.sight.Reader.numbered_bounds.Given as goal

abbrev pub invariant-loop-bound : goal.invariant-loop-bound
invariant-loop-bound l = bounds_of l.found.items ≡ printed_bounds (names_of l.self) (take l.bound-index l.bounds)
