-- What a - b is, by the side that gives first.
use Rattle.std.proofs.Common.{◌≡◌, ℕ, refl, Bool, true, false}
use Rattle.std.specs.Prelude.{Option, None, Some, is_some}
use Rattle.bk_val.specs.ValueType.{ValueType, int_type, bool_type, enum_type, pair_type, set_type}
use Rattle.bk_raw.specs.Meaning.Outcome.{Partial, whole, hollow, single_of, pair_of, joint_of, whole_of, minus_joint, Reading, silently, no_type}
use Rattle.bk_raw.specs.Meaning.OperatorReadings.{minus, minus_by, joint}
use Rattle.bk_elab_terms.specs.Shapes.{gives_int}

-- where the left side gives a type of no numbers, sets are meant
pub minus-whole : (at x y : ℕ) (p q : Partial) → gives_int p ≡ false → is_some (whole_of p) ≡ true → minus at x y p q ≡ joint minus_joint at p q
minus-whole at x y (whole f int_type) q h k = let no : true ≡ false = h in cc
minus-whole at x y (whole f bool_type) q h k = refl
minus-whole at x y (whole f (enum_type e)) q h k = refl
minus-whole at x y (whole f (pair_type t u)) q h k = refl
minus-whole at x y (whole f (set_type t)) q h k = refl
minus-whole at x y hollow q h k = let no : false ≡ true = k in cc
minus-whole at x y (single_of p) q h k = let no : false ≡ true = k in cc
minus-whole at x y (pair_of p r) q h k = let no : false ≡ true = k in cc
minus-whole at x y (joint_of j p r) q h k = let no : false ≡ true = k in cc

by-right : (at x y : ℕ) (p q : Partial) → gives_int q ≡ false → minus_by at x y None (whole_of q) p q ≡ joint minus_joint at p q
by-right at x y p (whole g int_type) k = let no : true ≡ false = k in cc
by-right at x y p (whole g bool_type) k = refl
by-right at x y p (whole g (enum_type e)) k = refl
by-right at x y p (whole g (pair_type t u)) k = refl
by-right at x y p (whole g (set_type t)) k = refl
by-right at x y p hollow k = refl
by-right at x y p (single_of q) k = refl
by-right at x y p (pair_of q r) k = refl
by-right at x y p (joint_of j q r) k = refl

-- so they are where neither side gives a number
pub minus-other : (at x y : ℕ) (p q : Partial) → gives_int p ≡ false → gives_int q ≡ false → minus at x y p q ≡ joint minus_joint at p q
minus-other at x y (whole f int_type) q h k = let no : true ≡ false = h in cc
minus-other at x y (whole f bool_type) q h k = refl
minus-other at x y (whole f (enum_type e)) q h k = refl
minus-other at x y (whole f (pair_type t u)) q h k = refl
minus-other at x y (whole f (set_type t)) q h k = refl
minus-other at x y hollow q h k = by-right at x y hollow q k
minus-other at x y (single_of p) q h k = by-right at x y (single_of p) q k
minus-other at x y (pair_of p r) q h k = by-right at x y (pair_of p r) q k
minus-other at x y (joint_of j p r) q h k = by-right at x y (joint_of j p r) q k

by-number : (at x y : ℕ) (p q : Partial) → gives_int q ≡ true → minus_by at x y None (whole_of q) p q ≡ silently (no_type x)
by-number at x y p (whole g int_type) k = refl
by-number at x y p (whole g bool_type) k = let no : false ≡ true = k in cc
by-number at x y p (whole g (enum_type e)) k = let no : false ≡ true = k in cc
by-number at x y p (whole g (pair_type t u)) k = let no : false ≡ true = k in cc
by-number at x y p (whole g (set_type t)) k = let no : false ≡ true = k in cc
by-number at x y p hollow k = let no : false ≡ true = k in cc
by-number at x y p (single_of q) k = let no : false ≡ true = k in cc
by-number at x y p (pair_of q r) k = let no : false ≡ true = k in cc
by-number at x y p (joint_of j q r) k = let no : false ≡ true = k in cc

-- where only the right side gives, and a number, the left one is at fault
pub minus-number : (at x y : ℕ) (p q : Partial) → is_some (whole_of p) ≡ false → gives_int q ≡ true → minus at x y p q ≡ silently (no_type x)
minus-number at x y (whole f t) q h k = let no : true ≡ false = h in cc
minus-number at x y hollow q h k = by-number at x y hollow q k
minus-number at x y (single_of p) q h k = by-number at x y (single_of p) q k
minus-number at x y (pair_of p r) q h k = by-number at x y (pair_of p r) q k
minus-number at x y (joint_of j p r) q h k = by-number at x y (joint_of j p r) q k

pub ruleset differences = (minus-whole, minus-other, minus-number)
