-- The flattened of a development is what the program keeps of it.
use Rattle.std.proofs.Common.{◌≡◌, ◌++◌, List, length, sym, ◌∙◌, ap, subst, Option}
use Rattle.bk_form.specs.Table.{Table}
use Rattle.bk_form.specs.Each.{Each}
use Rattle.bk_form.specs.ArrayTable.{ArrayTable}
use Rattle.bk_dev.specs.Claims.{arrays_at}
use Rattle.bk_dev.specs.Development.{Level, Development, last}
use Rattle.bk_dev.specs.Facts.{IsDevelopment}
use Rattle.bk_dev.specs.Flattened.{copied_in_levels, copy_homes, flat_levels, flattened}
use Rattle.bk_dev.proofs.FlatLevels.{flattened_lawful}
use Rattle.bk_po.specs.FlatFacts.{IsFlattened, IsApart, with_entries, AreBelow}
use Rattle.bk_po.proofs.FlatArrays.{flat_arrays}
use Rattle.bk_po.proofs.FlatEntries.{development_below}
use Rattle.bk_po.proofs.Overlapping.{lawful_apart}

pub flattened_stands : (dev : Development) → IsDevelopment dev → IsFlattened (flattened dev)
flattened_stands dev d = record { lawful = flattened_lawful.every dev d; only_last = flattened_lawful.only_last dev d.only_last; flat = flattened_lawful.flat dev; room = d.room }

-- ---- what the calls are asked
pub levels_apart : (dev : Development) → IsDevelopment dev → Each IsApart dev.levels
levels_apart dev d = lawful_apart dev d.lawful

pub levels_below : (dev : Development) (table : Table) → IsDevelopment dev → table ≡ dev.table → AreBelow (length table.variables) (copied_in_levels dev.levels)
levels_below dev table d same = subst (λ (t : Table). AreBelow (length t.variables) (copied_in_levels dev.levels)) (sym same) (development_below dev d)

-- ---- what they give
-- the development with this table and these levels
abbrev pub with_levels : Development → Table → List Level → Development
with_levels dev table levels = record dev { table = table; homes = dev.homes ++ copy_homes 0 dev.levels; levels = levels }

pub whole_is : (dev : Development) (first table : Table) (levels : List Level) → first ≡ dev.table → table ≡ with_entries first (copied_in_levels dev.levels) → levels ≡ flat_levels (length first.variables) dev.levels → with_levels dev table levels ≡ flattened dev
whole_is dev first table levels same tables made =
    let tables' : table ≡ with_entries dev.table (copied_in_levels dev.levels) = subst (λ t. table ≡ with_entries t (copied_in_levels dev.levels)) same tables in
    let made' : levels ≡ flat_levels (length dev.table.variables) dev.levels = subst (λ (t : Table). levels ≡ flat_levels (length t.variables) dev.levels) same made in
    λ i. with_levels dev (tables' i) (made' i)

pub whole_stands : (dev : Development) (first table : Table) (levels : List Level) → IsDevelopment dev → first ≡ dev.table → table ≡ with_entries first (copied_in_levels dev.levels) → levels ≡ flat_levels (length first.variables) dev.levels → IsFlattened (with_levels dev table levels)
whole_stands dev first table levels d same tables made = subst IsFlattened (sym (whole_is dev first table levels same tables made)) (flattened_stands dev d)

pub whole_arrays : (dev : Development) (first table : Table) (levels : List Level) (arrays : Option ArrayTable) → IsDevelopment dev → first ≡ dev.table → table ≡ with_entries first (copied_in_levels dev.levels) → levels ≡ flat_levels (length first.variables) dev.levels → arrays ≡ arrays_at dev (last dev) → arrays ≡ arrays_at (with_levels dev table levels) (last (with_levels dev table levels))
whole_arrays dev first table levels arrays d same tables made is =
    is ∙ (flat_arrays dev d.lawful ∙ ap (λ (x : Development). arrays_at x (last x)) (sym (whole_is dev first table levels same tables made)))

pub ruleset stands = (levels_apart, levels_below, whole_is, whole_stands, whole_arrays)
