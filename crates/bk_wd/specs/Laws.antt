-- What WD and Chk say, as statements.
use Rattle.std.specs.Prelude.{◌≡◌, ◌↔◌, ℕ, true, [], Some}
use Rattle.bk_val.specs.ValueType.{ValueType, int_type, bool_type, enum_type, set_type, pair_type}
use Rattle.bk_form.specs.Table.{Table, variable_type, IsWellFormed}
use Rattle.bk_form.specs.ArrayTable.{ArrayTable, row_of}
use Rattle.bk_form.specs.Formula.{Formula}
use Rattle.bk_form.specs.Role.{role}
use Rattle.bk_form.specs.Search.{Finder, IsSearch}
use Rattle.bk_form.specs.Environment.{Environment, bound_types, IsTyped}
use Rattle.bk_form.specs.Meaning.{truth}
use Rattle.bk_form.specs.Defined.{Defined, Fits}
use Rattle.bk_form.specs.Predicates.{IsPredicate}
use Rattle.bk_form.specs.Wider.{IsTypedRole}
use Rattle.bk_form.specs.declared.arrays.ArrayRow.{ArrayRow}
use Rattle.bk_form.specs.declared.arrays.ArrayDomain.{ArrayDomain}
use Rattle.bk_form.specs.declared.arrays.ArrayDomain.TheVariants.{Interval, Bool as OfBooleans, Set as OfElements}
use Rattle.bk_wd.specs.WellDefined.{defined}
use Rattle.bk_wd.specs.Checked.{checked}

-- WD(F) is true exactly where F is defined, in every typed environment of a table in which F types
abbrev pub DefinedIsExact : Type 0
DefinedIsExact = (find : Finder) → IsSearch find → (e : Environment) → IsWellFormed e.table → IsTyped e → (f : Formula) →
    IsTypedRole (role e.table (bound_types e) f) → (truth find e (defined e.table (bound_types e) f) ≡ true) ↔ Defined find e f

-- Chk(E) is true exactly where E fits, in every environment
abbrev pub CheckedIsExact : Type 0
CheckedIsExact = (find : Finder) → IsSearch find → (arrays : ArrayTable) (e : Environment) (f : Formula) →
    (truth find e (checked arrays f) ≡ true) ↔ Fits find e arrays f

-- the type of the indices of an array
abbrev pub index_type : ArrayDomain → ValueType
index_type (Interval low high) = int_type
index_type OfBooleans = bool_type
index_type (OfElements n) = enum_type n

-- the variable of each array has the type of functions from its indices
abbrev pub AreTypedArrays : Table → ArrayTable → Type 0
AreTypedArrays table arrays = (x : ℕ) (row : ArrayRow) → row_of arrays x ≡ Some row →
    (u : ValueType) × (variable_type table x ≡ Some (set_type (pair_type (index_type row.domain) u)))

-- of a formula that types, WD and Chk are predicates
pub record ConditionsArePredicates : Type 0 where
  pub well_defined : (table : Table) → IsWellFormed table → (f : Formula) →
      IsTypedRole (role table [] f) → IsPredicate table (defined table [] f)
  pub executed : (table : Table) → IsWellFormed table → (arrays : ArrayTable) → AreTypedArrays table arrays →
      (f : Formula) → IsTypedRole (role table [] f) → IsPredicate table (checked arrays f)
