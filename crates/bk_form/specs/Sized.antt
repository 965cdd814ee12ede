-- Tables whose sets get sizes: a deferred set may be read with any number of elements, at least one.
use Rattle.std.specs.Prelude.{◌≡◌, ℕ, zero, suc, ◌<◌, cond, nat_eq, All, List, [], ◌∷◌, length, pos}
use Rattle.bk_val.specs.Value.{int}
use Rattle.bk_val.specs.ValueType.{ValueType}
use Rattle.bk_form.specs.Table.{Table, SetEntry, with_size, listed_size, set_size, element_texts, IsCounted, IsWellFormed}
use Rattle.bk_form.specs.Formula.{Formula, named, unary}
use Rattle.bk_form.specs.Search.{Finder}
use Rattle.bk_form.specs.Environment.{Environment}
use Rattle.bk_form.specs.Role.{role}
use Rattle.bk_form.specs.Meaning.{value}
use Rattle.bk_form.specs.Wider.{IsTypedRole, IsWider}
use Rattle.bk_form.specs.declared.operator.UnOp.TheVariants.{Card}
use Rattle.bk_form.specs.declared.operator.Domain.TheVariants.{Enum}

-- the first number, and the second where the first is 0
abbrev pub or_else : ℕ → ℕ → ℕ
or_else zero n = n
or_else (suc m) n = suc m

-- the sets from number n on, of which each without a size gets the one for its number
abbrev pub sized_from : (ℕ → ℕ) → ℕ → List SetEntry → List SetEntry
sized_from sizes n [] = []
sized_from sizes n (s ∷ ss) = record s { size = or_else s.size (sizes n) } ∷ sized_from sizes (suc n) ss

-- the table in which each set without a size has the one for its number
abbrev pub with_sizes : (ℕ → ℕ) → Table → Table
with_sizes sizes t = record t { sets = sized_from sizes 0 t.sets }

-- each set has a size
abbrev pub HasSizes : List SetEntry → Type 0
HasSizes ss = All (λ s. 0 < s.size) ss

-- a number of elements for each set, by the set's number: at least one
abbrev pub AreSizes : (ℕ → ℕ) → Type 0
AreSizes sizes = (n : ℕ) → 0 < sizes n

-- this size for one set, and none for the others
abbrev pub only_size : ℕ → ℕ → ℕ → ℕ
only_size n size m = cond (nat_eq m n) size 0

-- ---- laws
-- a formula that types has the same role with any sizes
abbrev pub SizesKeepRoles : Type 0
SizesKeepRoles = (sizes : ℕ → ℕ) (table : Table) (around : List ValueType) (f : Formula) →
    IsTypedRole (role table around f) → role (with_sizes sizes table) around f ≡ role table around f

-- what sizes change in tables
pub record SizesFit : Type 0 where
  pub well : (sizes : ℕ → ℕ) (table : Table) → IsWellFormed table → IsWellFormed (with_sizes sizes table)
  -- a wider table stays one
  pub wider : (sizes : ℕ → ℕ) (small large : Table) → IsWider small large → IsWider (with_sizes sizes small) (with_sizes sizes large)
  -- where each set has a size, nothing changes
  pub whole : (sizes : ℕ → ℕ) (table : Table) → HasSizes table.sets → with_sizes sizes table ≡ table
  -- with sizes each set has one
  pub each : (sizes : ℕ → ℕ) → AreSizes sizes → (table : Table) → HasSizes (with_sizes sizes table).sets

-- a size for one set that has none
abbrev pub OneSizeIsGiven : Type 0
OneSizeIsGiven = (table : Table) (n size : ℕ) → listed_size table n ≡ 0 → with_sizes (only_size n size) table ≡ with_size table n size

-- the number of elements of a set is its size
abbrev pub SetsAreCounted : Type 0
SetsAreCounted = (find : Finder) (e : Environment) (n : ℕ) → value find e (unary Card (named (Enum n))) ≡ int (pos (set_size e.table n))

-- there is a text for each element
abbrev pub ElementsHaveTexts : Type 0
ElementsHaveTexts = (s : SetEntry) → IsCounted s → length (element_texts s) ≡ s.size
