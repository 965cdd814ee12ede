use Rattle.std.proofs.Common.{take}
use Rattle.std.specs.Prelude.{Some}
use Rattle.bk_elab_terms.specs.Sights.{bounds_of, TypesOf}
use Rattle.bk_elab_terms.proofs.binder.types_of.Given as goal

abbrev pub invariant-loop-local : goal.invariant-loop-local
invariant-loop-local l = TypesOf (Some l.types.items) (bounds_of (take l.local-index l.locals))
