use Rattle.std.proofs.Common.{◌≡◌, map}
use Rattle.bk_elab_terms.proofs.visible.told_types.Given as goal

abbrev pub invariant-loop-local : goal.invariant-loop-local
invariant-loop-local l = l.types.items ≡ map (λ x. x.ty) l.yielded
