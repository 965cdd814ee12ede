-- Whether two types are the same, as a test.
use Rattle.std.proofs.Common.{◌≡◌, subst, true}
use Rattle.bk_val.specs.ValueType.{ValueType}
use Rattle.bk_form.specs.Role.{same_type}
use Rattle.bk_form.proofs.Equations.{same_type-self}

pub same_type-if : (t u : ValueType) → t ≡ u → same_type t u ≡ true
same_type-if t u e = subst (λ x. same_type t x ≡ true) e (same_type-self t)
