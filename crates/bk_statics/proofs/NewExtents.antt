-- What the levels see of the table, with one level more.
use Rattle.std.proofs.Common.{◌≡◌, ◌<◌, ◌≤◌, ◌+◌, ℕ, suc, [], ◌∷◌, ◌++◌, length, refl, sym, ◌∙◌, ap, subst, arith}
use Rattle.std.specs.Prelude.{ℤ, slice_index_or}
use Rattle.bk_dev.specs.Development.{Level, Development, extent_at, last}
use Rattle.bk_dev.specs.Extents.{HasItsExtents}
use Rattle.bk_statics.specs.Components.{Component}
use Rattle.bk_statics.specs.Above.{no_development}
use Rattle.bk_statics.specs.Plan.{Plan, plan, entries_of}
use Rattle.bk_statics.specs.LevelOf.{types_at, new_texts, entries_from, level_made, made}
use Rattle.bk_statics.proofs.Counted.{length-join}
use Rattle.bk_statics.proofs.Stands.{split-at}
use Rattle.bk_statics.proofs.NewHomes.{index-left}
use Rattle.bk_statics.proofs.NewLevel.{index-last}

-- no more sets and no more variables
abbrev IsWithin : ℕ × ℕ → ℕ × ℕ → Type 0
IsWithin a b = (a.0 ≤ b.0) × (a.1 ≤ b.1)

-- ---- a machine sees the whole table
pub machine-extents : (int_max : ℤ) (comp : Component) → HasItsExtents (made int_max no_development comp (plan no_development comp))
machine-extents int_max comp = record {
  one_each = refl;
  whole = refl;
  sets = λ k h. (let m : suc k < 1 = h in absurd (omega arith));
  variables = λ k h. (let m : suc k < 1 = h in absurd (omega arith));
}

-- ---- a level below others sees what they see
module _ (int_max : ℤ) (higher : Development) (comp : Component) (there : HasItsExtents higher) (some : 0 < length higher.levels) where
  abbrev p : Plan
  p = plan higher comp

  abbrev new : Development
  new = made int_max higher comp (plan higher comp)

  abbrev l : Level
  l = level_made int_max (types_at int_max higher comp (plan higher comp)) (plan higher comp) comp

  -- what the new level sees
  abbrev all : ℕ × ℕ
  all = (length new.table.sets, length new.table.variables)

  long : length new.levels ≡ length higher.levels + 1
  long = length-join higher.levels (l ∷ [])

  old : (k : ℕ) → k < length higher.levels → extent_at new k ≡ extent_at higher k
  old k h = let one = there.one_each in index-left higher.extents (all ∷ []) k (0, 0) (omega (arith, one, h))

  last-extent : extent_at new (length higher.levels) ≡ all
  last-extent = ap (λ (n : ℕ). slice_index_or (higher.extents ++ all ∷ []) n (0, 0)) (sym there.one_each) ∙ index-last higher.extents all (0, 0)

  -- the last level above sees the table as it was
  table-grows : IsWithin (length higher.table.sets, length higher.table.variables) all
  table-grows =
      let sets : length new.table.sets ≡ length higher.table.sets + length (entries_of comp.sets) = length-join higher.table.sets (entries_of comp.sets) in
      let added = entries_from (types_at int_max higher comp p) p.constants_at (new_texts p comp) in
      let variables : length new.table.variables ≡ length higher.table.variables + length added = length-join higher.table.variables added in
      (omega (arith, sets), omega (arith, variables))

  grows : (k : ℕ) → suc k < length new.levels → IsWithin (extent_at new k) (extent_at new (suc k))
  grows k h =
      let low : k < length higher.levels = omega (arith, long, h) in
      split-at (IsWithin (extent_at new k) (extent_at new (suc k))) (suc k) (length higher.levels)
      (λ a. subst (λ (e : ℕ × ℕ). IsWithin e (extent_at new (suc k))) (sym (old k low))
      (subst (λ (e : ℕ × ℕ). IsWithin (extent_at higher k) e) (sym (old (suc k) a)) (there.sets k a, there.variables k a)))
      (λ a. (let next : suc k ≡ length higher.levels = omega (arith, low, a) in
      let ends : k ≡ last higher = omega (arith, next) in
      subst (λ (e : ℕ × ℕ). IsWithin e (extent_at new (suc k))) (sym (old k low ∙ (ap (extent_at higher) ends ∙ there.whole)))
      (subst (λ (e : ℕ × ℕ). IsWithin (length higher.table.sets, length higher.table.variables) e) (sym (ap (extent_at new) next ∙ last-extent)) table-grows)))

  pub lower-extents : HasItsExtents new
  lower-extents =
      let more : length new.extents ≡ length higher.extents + 1 = length-join higher.extents (all ∷ []) in
      let ends : last new ≡ length higher.levels = omega (arith, long) in
      record {
        one_each = more ∙ (ap (λ (n : ℕ). n + 1) there.one_each ∙ sym long);
        whole = ap (extent_at new) ends ∙ last-extent;
        sets = λ k h. (grows k h).0;
        variables = λ k h. (grows k h).1;
      }
