-- Equations of two variables of one type are predicates.
use Rattle.std.proofs.Common.{◌≡◌, ℕ, refl, ◌∙◌, ap, true, ◌&&◌}
use Rattle.std.specs.Prelude.{Some}
use Rattle.bk_val.specs.ValueType.{ValueType, int_type, bool_type, enum_type, pair_type, set_type}
use Rattle.bk_form.specs.Table.{Table, variable_type}
use Rattle.bk_form.specs.Role.{predicate, same_type, if_holds, equality_role, given_by}
use Rattle.bk_form.specs.Predicates.{IsPredicate, equation}
use Rattle.bk_form.proofs.Members.{nat_eq-self}

pub same_type-self : (t : ValueType) → same_type t t ≡ true
same_type-self int_type = refl
same_type-self bool_type = refl
same_type-self (enum_type n) = nat_eq-self n
same_type-self (pair_type t u) = λ i. same_type-self t i && same_type-self u i
same_type-self (set_type t) = same_type-self t

pub equation-predicate : (table : Table) (p : ℕ × ℕ) → ((t : ValueType) × (variable_type table p.0 ≡ Some t) × (variable_type table p.1 ≡ Some t)) → IsPredicate table (equation p)
equation-predicate table p h = (λ i. equality_role (given_by (h.1 i)) (given_by (h.2 i))) ∙ ap (λ b. if_holds b predicate) (same_type-self h.0)
