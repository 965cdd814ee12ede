-- The first fault of all the numbers of an image.
use Rattle.std.proofs.Common.{◌≡◌, ℕ, ◌+◌, ◌^◌, ◌<◌, ◌≤◌, ◌⊎◌, length, refl, sym, subst, arith, inl, inr, Option, Some, None, get_or}
use Rattle.std.specs.Prelude.{All, MatchOption, slice_get}
use Rattle.std.proofs.lemmas.Option.{get_or_from_slice_get, slice_get_within, slice_get-get_or}
use Rattle.bk_limits.specs.declared.TheConstants.{MOST_CELLS, MOST_SETS}
use Rattle.bk_code.specs.declared.image.Image.{Image}
use Rattle.bk_code.specs.declared.instruction.Inst.{Inst}
use Rattle.bk_code.specs.Numbers.{int_max}
use Rattle.bk_code.specs.Checks.{IsGoodEntry, IsNumbered}
use Rattle.bk_image.specs.declared.version.ImageVersion.{ImageVersion}
use Rattle.bk_image.specs.declared.fault.LoadFault.{LoadFault}
use Rattle.bk_image.specs.declared.fault.LoadFault.TheVariants.{BadJump, BadSlot}
use Rattle.bk_image.specs.Spelling.{set, entry, inst, FitsMax, HasFewElements}
use Rattle.bk_image.specs.Faults.{place, IsFirst, IsFaultIn, IsSetFault, IsEntryFault, IsOneInstFault, IsWrongMax, cells_place, sets_place, ops_place, count_place, IsNumberFault}
use Rattle.bk_image.specs.Soundness.{IsSound, AreSound, IsRightMax, HaveFewElements, AreRight}
use Rattle.bk_image.proofs.FaultLists.{none_in, within_in}
use Rattle.bk_image.proofs.Judged.{set_judges, entry_judges, inst_judges}
use Rattle.bk_image.proofs.Sizes.{cells_past, sets_end, ops_end}
use Rattle.bk_image.proofs.Versions.{not_wrong, own_right, right_range, right_version}

module _ (v : ImageVersion) (image : Image) where
  abbrev pub IsSetsFault : LoadFault → Type 0
  IsSetsFault e = IsFaultIn set (IsSetFault image) (sets_place v) image.sets e

  abbrev pub IsOpsFault : LoadFault → Type 0
  IsOpsFault e = IsFaultIn entry (IsEntryFault image) (ops_place v image) image.ops e

  abbrev pub IsCodeFault : LoadFault → Type 0
  IsCodeFault e = IsFaultIn inst (IsOneInstFault image) (count_place v image + 4) image.code e

  pub sets_within : (e : LoadFault) → IsSetsFault e → (sets_place v ≤ place e) × (place e < ops_place v image)
  sets_within e f =
      let h = within_in set (IsSetFault image) (λ k names. HasFewElements (int_max image) names) (set_judges image) (sets_place v) image.sets e f in
      (h.0, omega (arith, h.1, sets_end v image))

  pub ops_within : (e : LoadFault) → IsOpsFault e → (ops_place v image ≤ place e) × (place e < count_place v image)
  ops_within e f =
      let h = within_in entry (IsEntryFault image) (λ k op. IsGoodEntry image op) (entry_judges image) (ops_place v image) image.ops e f in
      (h.0, omega (arith, h.1, ops_end v image))

  pub code_within : (e : LoadFault) → IsCodeFault e → count_place v image + 4 ≤ place e
  code_within e f = (within_in inst (IsOneInstFault image) (IsSound image) (inst_judges image) (count_place v image + 4) image.code e f).0

  no_sets_fault : (e : LoadFault) → HaveFewElements image → IsSetsFault e → ⊥
  no_sets_fault e good f = none_in set (IsSetFault image) (λ k names. HasFewElements (int_max image) names) (set_judges image) (sets_place v) image.sets e good f

  no_ops_fault : (e : LoadFault) → All (IsGoodEntry image) image.ops → IsOpsFault e → ⊥
  no_ops_fault e good f = none_in entry (IsEntryFault image) (λ k op. IsGoodEntry image op) (entry_judges image) (ops_place v image) image.ops e good f

  -- ---- the first parts
  pub first_max : IsWrongMax v (int_max image) → IsFirst (IsNumberFault v image) (BadSlot 6)
  first_max wrong = record { is = inl (refl, wrong); least = later }
    where
      later : (other : LoadFault) → IsNumberFault v image other → 6 ≤ place other
      later other (inl f) = subst (λ o. 6 ≤ place o) (sym f.0) (omega arith)
      later other (inr (inl f)) = subst (λ o. 6 ≤ place o) (sym f.0) (cells_past v)
      later other (inr (inr (inl f))) = subst (λ o. 6 ≤ place o) (sym f.0) (omega (arith, cells_past v))
      later other (inr (inr (inr (inl f)))) = let h = sets_within other f in omega (arith, h.0)
      later other (inr (inr (inr (inr (inl f))))) = let h = ops_within other f in omega (arith, h.0)
      later other (inr (inr (inr (inr (inr (inl f)))))) = subst (λ o. 6 ≤ place o) (sym f.0) (omega (arith, cells_past v))
      later other (inr (inr (inr (inr (inr (inr f)))))) = omega (arith, cells_past v, code_within other f)

  pub first_cells : IsRightMax v (int_max image) → MOST_CELLS < image.cells → IsFirst (IsNumberFault v image) (BadSlot (cells_place v))
  first_cells right many = record { is = inr (inl (refl, many)); least = later }
    where
      later : (other : LoadFault) → IsNumberFault v image other → cells_place v ≤ place other
      later other (inl f) = absurd (not_wrong v (int_max image) right f.1)
      later other (inr (inl f)) = subst (λ o. cells_place v ≤ place o) (sym f.0) (omega arith)
      later other (inr (inr (inl f))) = subst (λ o. cells_place v ≤ place o) (sym f.0) (omega arith)
      later other (inr (inr (inr (inl f)))) = let h = sets_within other f in omega (arith, h.0)
      later other (inr (inr (inr (inr (inl f))))) = let h = ops_within other f in omega (arith, h.0)
      later other (inr (inr (inr (inr (inr (inl f)))))) = subst (λ o. cells_place v ≤ place o) (sym f.0) (omega arith)
      later other (inr (inr (inr (inr (inr (inr f)))))) = omega (arith, code_within other f)

  pub first_sets : IsRightMax v (int_max image) → image.cells ≤ MOST_CELLS → MOST_SETS < length image.sets → IsFirst (IsNumberFault v image) (BadSlot (cells_place v + 4))
  first_sets right small many = record { is = inr (inr (inl (refl, many))); least = later }
    where
      later : (other : LoadFault) → IsNumberFault v image other → cells_place v + 4 ≤ place other
      later other (inl f) = absurd (not_wrong v (int_max image) right f.1)
      later other (inr (inl f)) = absurd (omega (arith, small, f.1))
      later other (inr (inr (inl f))) = subst (λ o. cells_place v + 4 ≤ place o) (sym f.0) (omega arith)
      later other (inr (inr (inr (inl f)))) = let h = sets_within other f in omega (arith, h.0)
      later other (inr (inr (inr (inr (inl f))))) = let h = ops_within other f in omega (arith, h.0)
      later other (inr (inr (inr (inr (inr (inl f)))))) = subst (λ o. cells_place v + 4 ≤ place o) (sym f.0) (omega arith)
      later other (inr (inr (inr (inr (inr (inr f)))))) = omega (arith, code_within other f)

  pub first_set : (e : LoadFault) → IsRightMax v (int_max image) → image.cells ≤ MOST_CELLS → length image.sets ≤ MOST_SETS → IsFirst IsSetsFault e → IsFirst (IsNumberFault v image) e
  first_set e right small few first = record { is = inr (inr (inr (inl first.is))); least = later }
    where
      later : (other : LoadFault) → IsNumberFault v image other → place e ≤ place other
      later other (inl f) = absurd (not_wrong v (int_max image) right f.1)
      later other (inr (inl f)) = absurd (omega (arith, small, f.1))
      later other (inr (inr (inl f))) = absurd (omega (arith, few, f.1))
      later other (inr (inr (inr (inl f)))) = first.least other f
      later other (inr (inr (inr (inr (inl f))))) = let mine = sets_within e first.is in let h = ops_within other f in omega (arith, mine.1, h.0)
      later other (inr (inr (inr (inr (inr (inl f)))))) = let mine = sets_within e first.is in subst (λ o. place e ≤ place o) (sym f.0) (omega (arith, mine.1, ops_end v image))
      later other (inr (inr (inr (inr (inr (inr f)))))) = let mine = sets_within e first.is in omega (arith, mine.1, ops_end v image, code_within other f)

  -- ---- the parts behind the sets
  -- MAXINT, the numbers of cells and sets, and the sets are right
  pub record IsRightSoFar : Type 0 where
    pub max : IsRightMax v (int_max image)
    pub cells : image.cells ≤ MOST_CELLS
    pub few_sets : length image.sets ≤ MOST_SETS
    pub few_elements : HaveFewElements image

  -- a fault is behind the sets then
  abbrev Behind : LoadFault → Type 0
  Behind other = IsOpsFault other ⊎ ((other ≡ BadJump (count_place v image)) × (length image.code ≡ 0)) ⊎ IsCodeFault other

  behind : (other : LoadFault) → IsRightSoFar → IsNumberFault v image other → Behind other
  behind other so (inl f) = absurd (not_wrong v (int_max image) so.max f.1)
  behind other so (inr (inl f)) = let small : image.cells ≤ MOST_CELLS = so.cells in absurd (omega (arith, small, f.1))
  behind other so (inr (inr (inl f))) = let few : length image.sets ≤ MOST_SETS = so.few_sets in absurd (omega (arith, few, f.1))
  behind other so (inr (inr (inr (inl f)))) = absurd (no_sets_fault other so.few_elements f)
  behind other so (inr (inr (inr (inr f)))) = f

  pub first_ops : (e : LoadFault) → IsRightSoFar → IsFirst IsOpsFault e → IsFirst (IsNumberFault v image) e
  first_ops e so first = record { is = inr (inr (inr (inr (inl first.is)))); least = λ other f. later other (behind other so f) }
    where
      later : (other : LoadFault) → Behind other → place e ≤ place other
      later other (inl f) = first.least other f
      later other (inr (inl f)) = let mine = ops_within e first.is in subst (λ o. place e ≤ place o) (sym f.0) (omega (arith, mine.1))
      later other (inr (inr f)) = let mine = ops_within e first.is in omega (arith, mine.1, code_within other f)

  pub first_empty : IsRightSoFar → All (IsGoodEntry image) image.ops → length image.code ≡ 0 → IsFirst (IsNumberFault v image) (BadJump (count_place v image))
  first_empty so good none = record { is = inr (inr (inr (inr (inr (inl (refl, none)))))); least = λ other f. later other (behind other so f) }
    where
      later : (other : LoadFault) → Behind other → count_place v image ≤ place other
      later other (inl f) = absurd (no_ops_fault other good f)
      later other (inr (inl f)) = subst (λ o. count_place v image ≤ place o) (sym f.0) (omega arith)
      later other (inr (inr f)) = omega (arith, code_within other f)

  first_inst : (e : LoadFault) → IsRightSoFar → All (IsGoodEntry image) image.ops → 0 < length image.code → IsFirst IsCodeFault e → IsFirst (IsNumberFault v image) e
  first_inst e so good some first = record { is = inr (inr (inr (inr (inr (inr first.is))))); least = λ other f. later other (behind other so f) }
    where
      later : (other : LoadFault) → Behind other → place e ≤ place other
      later other (inl f) = absurd (no_ops_fault other good f)
      later other (inr (inl f)) = let h = f.1 in absurd (omega (arith, some, h))
      later other (inr (inr f)) = first.least other f

  sound_at : (k : ℕ) (i : Inst) → AreSound image image.code (length image.code) → slice_get image.code k ≡ Some i → IsSound image k i
  sound_at k i sound get = subst (IsSound image k) (get_or_from_slice_get image.code k i i get) (sound k i (slice_get_within image.code k i get))

  pub judged_code : (r : Option LoadFault) → FitsMax v (int_max image) → IsRightSoFar → All (IsGoodEntry image) image.ops → 0 < length image.code → length image.code < 2 ^ 32
      → MatchOption r (AreSound image image.code (length image.code)) (λ e. IsFirst IsCodeFault e) → MatchOption r (AreRight v image) (λ e. IsFirst (IsNumberFault v image) e)
  judged_code None fits so good some short h = record {
    numbered = record {
      range = right_range v (int_max image) fits so.max;
      cells = so.cells;
      ops = good;
      insts = λ k i get. (sound_at k i h get).good;
      last = λ k i get. (sound_at k i h get).last;
      some = some;
      countable = short;
    };
    version = right_version v image fits so.max;
    few_sets = so.few_sets;
    few_elements = so.few_elements;
  }
  judged_code (Some e) fits so good some short h = first_inst e so good some h

  -- where all numbers are right, none is at fault
  pub no_number_fault : (e : LoadFault) → AreRight v image → IsNumberFault v image e → ⊥
  no_number_fault e n f = none (behind e so f)
    where
      so : IsRightSoFar
      so = record {
        max = subst (λ w. IsRightMax w (int_max image)) (sym n.version) (own_right image n.numbered.range);
        cells = n.numbered.cells;
        few_sets = n.few_sets;
        few_elements = n.few_elements;
      }

      sound : AreSound image image.code (length image.code)
      sound k d lt = record { good = n.numbered.insts k (get_or image.code k d) (slice_get-get_or image.code k d lt); last = n.numbered.last k (get_or image.code k d) (slice_get-get_or image.code k d lt) }

      none : Behind e → ⊥
      none (inl f) = no_ops_fault e n.numbered.ops f
      none (inr (inl f)) = let some : 0 < length image.code = n.numbered.some in omega (arith, some, f.1)
      none (inr (inr f)) = none_in inst (IsOneInstFault image) (IsSound image) (inst_judges image) (count_place v image + 4) image.code e sound f
