-- What the levels see of the table, where there are two of them.
use Rattle.std.proofs.Common.{◌≡◌, ◌≤◌, ◌<◌, ℕ, zero, suc, List, [], ◌∷◌, length, sym, ◌∙◌, ap, subst, arith}
use Rattle.std.specs.Prelude.{slice_index_or}
use Rattle.bk_dev.specs.Development.{Development, extent_at, last}
use Rattle.bk_dev.specs.Extents.{HasItsExtents}

pub two-extents : (dev : Development) (sets variables : ℕ) → length dev.levels ≡ 2 → dev.extents ≡ (sets, variables) ∷ (length dev.table.sets, length dev.table.variables) ∷ [] → sets ≤ length dev.table.sets → variables ≤ length dev.table.variables → HasItsExtents dev
two-extents dev sets variables many is few-sets few-variables =
    let ends : last dev ≡ 1 = omega (arith, many) in
    record {
      one_each = ap length is ∙ sym many;
      whole = ap (extent_at dev) ends ∙ ap (λ (es : List (ℕ × ℕ)). slice_index_or es 1 (0, 0)) is;
      sets = sets-grow;
      variables = variables-grow;
    }
  where
    sets-grow : (k : ℕ) → suc k < length dev.levels → (extent_at dev k).0 ≤ (extent_at dev (suc k)).0
    sets-grow zero h = subst (λ (es : List (ℕ × ℕ)). (slice_index_or es 0 (0, 0)).0 ≤ (slice_index_or es 1 (0, 0)).0) (sym is) few-sets
    sets-grow (suc k) h = absurd (omega (arith, many, h))

    variables-grow : (k : ℕ) → suc k < length dev.levels → (extent_at dev k).1 ≤ (extent_at dev (suc k)).1
    variables-grow zero h = subst (λ (es : List (ℕ × ℕ)). (slice_index_or es 0 (0, 0)).1 ≤ (slice_index_or es 1 (0, 0)).1) (sym is) few-variables
    variables-grow (suc k) h = absurd (omega (arith, many, h))
