-- A test of types that says when two are the same is the one by which they are compared.
use Rattle.std.proofs.Common.{◌≡◌, ◌↔◌, inl, inr, ◌⊎◌, Bool, true, false, IsTrue, refl, sym, subst}
use Rattle.bk_val.specs.ValueType.{ValueType}
use Rattle.bk_form.specs.Role.{same_type}
use Rattle.bk_form.proofs.Roles.{same_type-then}
use Rattle.bk_raw.proofs.Filled.{same_type-self}

either-bool : (b : Bool) → (b ≡ true) ⊎ (b ≡ false)
either-bool true = inl refl
either-bool false = inr refl

pub same-by : (b : Bool) (t u : ValueType) → IsTrue b ↔ (t ≡ u) → b ≡ same_type t u
same-by true t u h = sym (subst (λ x. same_type t x ≡ true) (h.0 refl) (same_type-self t))
same-by false t u h = elim (either-bool (same_type t u)) [ inl e ↦ let k : false ≡ true = h.1 (same_type-then t u e) in absurd (cc) | inr e ↦ sym e ]
