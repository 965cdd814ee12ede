use Rattle.std.proofs.Common.{◌≡◌, drop}
use Rattle.bk_elab_terms.specs.Kept.{names_untyped}
use Rattle.bk_elab_terms.specs.Sights.{bounds_of}
use Rattle.bk_elab_terms.proofs.kept.names_untyped.Given as goal

abbrev pub invariant-loop-local : goal.invariant-loop-local
invariant-loop-local l = names_untyped (bounds_of (drop l.local-index l.locals)) l.term ≡ names_untyped (bounds_of l.locals) l.term
