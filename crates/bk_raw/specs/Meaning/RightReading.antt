-- What it means that an outcome is right: the formulas in it have the role that is told, in a table and under bound variables of
-- these types, and the types that are told are listed.
use Rattle.std.specs.Prelude.{◌≡◌, true, List, Option, None, Some}
use Rattle.bk_val.specs.ValueType.{ValueType}
use Rattle.bk_form.specs.Table.{Table, lists_type}
use Rattle.bk_form.specs.Formula.{Formula}
use Rattle.bk_form.specs.Role.{role, gives, ranges_over, predicate}
use Rattle.bk_raw.specs.Meaning.Outcome.{Partial, whole, hollow, single_of, pair_of, joint_of, Outcome, partial, ranging, holding, silent}

-- the property holds of what is there, if anything is
abbrev pub Whenever : {A : Type 0} → (A → Type 0) → Option A → Type 0
Whenever P None = Unit {0}
Whenever P (Some x) = P x

-- the formula gives this type, which the table lists
abbrev pub IsOfType : Table → List ValueType → Formula → ValueType → Type 0
IsOfType table around f t = (role table around f ≡ gives t) × (lists_type table t ≡ true)

-- the formula is a domain over this type, which the table lists, and no value
abbrev pub IsOver : Table → List ValueType → Formula → ValueType → Type 0
IsOver table around f t = (role table around f ≡ ranges_over t) × (lists_type table t ≡ true)

-- its parts that give types give these
abbrev pub IsRightPartial : Table → List ValueType → Partial → Type 0
IsRightPartial table around (whole f t) = IsOfType table around f t
IsRightPartial table around hollow = Unit {0}
IsRightPartial table around (single_of p) = IsRightPartial table around p
IsRightPartial table around (pair_of p q) = IsRightPartial table around p × IsRightPartial table around q
IsRightPartial table around (joint_of j p q) = IsRightPartial table around p × IsRightPartial table around q

-- an outcome is right: a predicate is one, a domain ranges over its type, and an expression is right by its parts
abbrev pub IsRight : Table → List ValueType → Outcome → Type 0
IsRight table around (partial p) = IsRightPartial table around p
IsRight table around (ranging f t there) = IsOver table around f t
IsRight table around (holding p) = role table around p ≡ predicate
IsRight table around silent = Unit {0}
