use Rattle.std.proofs.Common.{◌≡◌, ℕ, ◌<◌, true, refl}
use Rattle.std.proofs.lemmas.Bool.{and_from, lt-ltb, eq-eqb}
use Rattle.bk_val.specs.ValueType.{ValueType, int_type, bool_type, enum_type, pair_type, set_type, base_of, is_value_of}
use Rattle.bk_val.proofs.laws.base_is_value.Goals as goal

base_is : (sizes : ℕ → ℕ) → ((n : ℕ) → 0 < sizes n) → (t : ValueType) → is_value_of sizes t (base_of t) ≡ true
base_is sizes h int_type = refl
base_is sizes h bool_type = refl
base_is sizes h (enum_type n) = and_from _ _ (eq-eqb n n refl) (lt-ltb 0 (sizes n) (h n))
base_is sizes h (pair_type s t) = and_from _ _ (base_is sizes h s) (base_is sizes h t)
base_is sizes h (set_type t) = refl

pub returns : goal.returns
returns c = base_is
