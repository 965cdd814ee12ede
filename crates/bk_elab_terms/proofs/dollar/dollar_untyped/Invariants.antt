use Rattle.std.proofs.Common.{◌≡◌, drop}
use Rattle.bk_elab_terms.specs.Kept.{dollar_untyped}
use Rattle.bk_elab_terms.specs.Sights.{bounds_of}
use Rattle.bk_elab_terms.proofs.dollar.dollar_untyped.Given as goal

abbrev pub invariant-loop-local : goal.invariant-loop-local
invariant-loop-local l = dollar_untyped (bounds_of (drop l.local-index l.locals)) ≡ dollar_untyped (bounds_of l.locals)
