-- Lists whose numbers fit the program's, and one more.
use Rattle.std.proofs.Common.{◌≡◌, ◌+◌, ◌<◌, IsTrue, ℕ, zero, suc, List, [], ◌∷◌, length, get_or, take, arith}
use Rattle.std.proofs.lemmas.Grind.{common_steps}
use Rattle.bk_val.specs.ValueType.{ValueType}
use Rattle.bk_form.specs.Formula.{Formula, formulas_of}
use Rattle.bk_form.specs.Storable.{is_storable_type, are_storable_types, is_storable, are_storable}

-- one more type
pub types_storable_more : (ts : List ValueType) (i : ℕ) (d : ValueType) → i < length ts → IsTrue (are_storable_types (take i ts)) → IsTrue (is_storable_type (get_or ts i d)) → IsTrue (are_storable_types (take (i + 1) ts))
types_storable_more [] i d h p q = absurd (omega arith)
types_storable_more (t ∷ ts) zero d h p q = grind (arith, common_steps)
types_storable_more (t ∷ ts) (suc i) d h p q =
    let e : suc i + 1 ≡ suc (i + 1) = omega arith in rw e (grind (arith, common_steps, types_storable_more ts i d))

-- one more formula
pub storable_more : (fs : List Formula) (i : ℕ) (d : Formula) → i < length fs → IsTrue (are_storable (formulas_of (take i fs))) → IsTrue (is_storable (get_or fs i d)) → IsTrue (are_storable (formulas_of (take (i + 1) fs)))
storable_more [] i d h p q = absurd (omega arith)
storable_more (a ∷ fs) zero d h p q = grind (arith, common_steps)
storable_more (a ∷ fs) (suc i) d h p q =
    let e : suc i + 1 ≡ suc (i + 1) = omega arith in rw e (grind (arith, common_steps, storable_more fs i d))

pub ruleset one_more_storable = (types_storable_more, storable_more)
