-- How much of the table each level of a development sees.
use Rattle.std.specs.Prelude.{◌≡◌, ◌<◌, ◌≤◌, ℕ, suc, length}
use Rattle.bk_dev.specs.Development.{Development, extent_at, last}

-- A level sees the first sets and the first variables of the table, so many of each: those of the level and of the levels above it. A
-- script that closes one of its obligations may name what it sees.
pub record HasItsExtents (dev : Development) : Type 0 where
  pub one_each : length dev.extents ≡ length dev.levels
  -- the last level sees the whole table
  pub whole : extent_at dev (last dev) ≡ (length dev.table.sets, length dev.table.variables)
  -- each level sees what the level above it sees
  pub sets : (k : ℕ) → suc k < length dev.levels → (extent_at dev k).0 ≤ (extent_at dev (suc k)).0
  pub variables : (k : ℕ) → suc k < length dev.levels → (extent_at dev k).1 ≤ (extent_at dev (suc k)).1
