-- The places whose depths follow from each other alone.
use Rattle.std.proofs.Common.{◌≡◌, ◌≢◌, ℕ, zero, suc, ◌+◌, ◌<◌, ◌≤◌, ◌⊎◌, List, [], length, Some, refl, sym, subst, arith, inl, inr, ℤ}
use Rattle.std.specs.Prelude.{slice_get, Contains}
use Rattle.std.proofs.lemmas.Bool.{cases_lt}
use Rattle.std.proofs.lemmas.Option.{slice_get_within}
use Rattle.bk_code.specs.declared.image.Image.{Image}
use Rattle.bk_code.specs.declared.instruction.Inst.{Inst}
use Rattle.bk_code.specs.Checks.{FlowsTo, Passes, LeadsThrough, IsRoot, IsOpen}
use Rattle.bk_image.specs.declared.depths.Depth.{Depth}
use Rattle.bk_image.specs.declared.depths.Depth.TheVariants.{Unknown, One, Many}
use Rattle.bk_image.specs.Progress.{Progress, IsProgress, IsKnown, HasDepthBelow, Covers, after, IsGrown, IsSettled, depth_at, AreRootsStarted}
use Rattle.bk_image.proofs.Starting.{Zero, grown_covers, roots_grown}

-- ---- a higher limit

below_more : (image : Image) (limit more n at : ℕ) (d : ℤ) → limit ≤ more → HasDepthBelow image limit n at d → HasDepthBelow image more n at d
below_more image limit more zero at d le (inl root, e) = (inl root, e)
below_more image limit more zero at d le (inr (alone, lt), e) = (inr (alone, omega arith), e)
below_more image limit more (suc n) to d le (at, before, i, h, get, flows, e) = (at, before, i, below_more image limit more n at before le h, get, flows, e)

known_more : (image : Image) (limit more at : ℕ) (d : Depth) → limit ≤ more → IsKnown image limit at d → IsKnown image more at d
known_more image limit more at Unknown le h = tt
known_more image limit more at (One d) le h = (h.0, below_more image limit more h.0 at d le h.1)
known_more image limit more at Many le (d, e, n, m, p, q, ne) = (d, e, n, m, below_more image limit more n at d le p, below_more image limit more m at e le q, ne)

pub progress_more : (image : Image) (limit more : ℕ) (p : Progress) → limit ≤ more → IsProgress image limit p → IsProgress image more p
progress_more image limit more p le h = record { long = h.long; so = λ at lt. known_more image limit more at (depth_at p.known at) le (h.so at lt); closed = h.closed; near = h.near; places = h.places }

-- ---- where nothing waits

pub closed_here : (image : Image) (limit at to : ℕ) (i : Inst) (p : Progress) → IsProgress image limit p → p.work ≡ [] → slice_get image.code at ≡ Some i → FlowsTo i at to → Covers (depth_at p.known to) (after i (depth_at p.known at))
closed_here image limit at to i p h still get flows =
    elim (h.closed at to i get flows) [
      | inl covers ↦ covers
      | inr waits ↦
          let none : Contains [] at = subst (λ work. Contains work at) still waits in
          absurd (omega (arith, none.1))
    ]

covers_some : (a b : Depth) → Covers a b → b ≢ Unknown → a ≢ Unknown
covers_some Unknown Unknown c ne e = ne refl
covers_some Unknown (One d) c ne e = c
covers_some Unknown Many c ne e = c
covers_some (One d) b c ne e = cc
covers_some Many b c ne e = cc

after_some : (i : Inst) (d : Depth) → d ≢ Unknown → after i d ≢ Unknown
after_some i Unknown ne e = ne refl
after_some i (One d) ne e = cc
after_some i Many ne e = cc

zero_some : Zero ≢ Unknown
zero_some e = cc

known_passes : (image : Image) (limit at to : ℕ) (p : Progress) → IsProgress image limit p → p.work ≡ [] → Passes image at to → depth_at p.known at ≢ Unknown → depth_at p.known to ≢ Unknown
known_passes image limit at to p h still passes ne =
    covers_some (depth_at p.known to) (after passes.0 (depth_at p.known at)) (closed_here image limit at to passes.0 p h still passes.1 passes.2) (after_some passes.0 (depth_at p.known at) ne)

known_leads : (image : Image) (limit n from to : ℕ) (p : Progress) → IsProgress image limit p → p.work ≡ [] → LeadsThrough image n from to → depth_at p.known from ≢ Unknown → depth_at p.known to ≢ Unknown
known_leads image limit zero from to p h still leads ne = known_passes image limit from to p h still leads ne
known_leads image limit (suc n) from to p h still (mid, leads, passes) ne = known_passes image limit mid to p h still passes (known_leads image limit n from mid p h still leads ne)

leads_within : (image : Image) (n from to : ℕ) → LeadsThrough image n from to → from < length image.code
leads_within image zero from to passes = slice_get_within image.code from passes.0 passes.1
leads_within image (suc n) from to (mid, leads, passes) = leads_within image n from mid leads

-- an unknown place, with no unknown one before it, is alone
pub unknown_open : (image : Image) (at : ℕ) (p : Progress) → IsSettled image at p → depth_at p.known at ≡ Unknown → IsOpen image at
unknown_open image at p h unknown from n start leads = known_leads image at n from at p h.progressing h.still leads (known start) unknown
  where
    known : IsRoot image from ⊎ (from < at) → depth_at p.known from ≢ Unknown
    known (inl root) = covers_some (depth_at p.known from) Zero (h.roots from (leads_within image n from at leads) root) zero_some
    known (inr before) = h.filled from before (leads_within image n from at leads)

-- where a depth comes from
abbrev Start : Image → ℕ → ℕ → Type 0
Start image limit from = IsRoot image from ⊎ (from < limit)

from_start : (image : Image) (limit n at : ℕ) (d : ℤ) → HasDepthBelow image limit n at d → Start image limit at ⊎ ((from : ℕ) × (m : ℕ) × Start image limit from × LeadsThrough image m from at)
from_start image limit zero at d (inl root, e) = inl (inl root)
from_start image limit zero at d (inr (alone, lt), e) = inl (inr lt)
from_start image limit (suc n) to d (at, before, i, h, get, flows, e) =
    elim (from_start image limit n at before h) [
      | inl start ↦ inr (at, zero, start, (i, get, flows))
      | inr (from, m, start, leads) ↦ inr (from, suc m, start, (at, leads, (i, get, flows)))
    ]

-- an alone place that is known has depth 0 by now
pub open_known : (image : Image) (at : ℕ) (p : Progress) → IsSettled image at p → at < length image.code → depth_at p.known at ≢ Unknown → IsOpen image at → Covers (depth_at p.known at) Zero
open_known image at p h lt ne alone = by_depth (depth_at p.known at) refl
  where
    by_depth : (d : Depth) → d ≡ depth_at p.known at → Covers (depth_at p.known at) Zero
    by_depth Unknown e = absurd (ne (sym e))
    by_depth Many e = subst (λ d. Covers d Zero) e tt
    by_depth (One d) e =
        let known : IsKnown image at at (One d) = subst (IsKnown image at at) (sym e) (h.progressing.so at lt) in
        elim (from_start image at known.0 at d known.1) [
          | inl (inl root) ↦ h.roots at lt root
          | inl (inr before) ↦ absurd (omega arith)
          | inr (from, m, start, leads) ↦ absurd (alone from m start leads)
        ]

-- ---- one more place

pub settled_known : (image : Image) (at : ℕ) (p : Progress) → IsSettled image at p → at < length image.code → depth_at p.known at ≢ Unknown → IsSettled image (at + 1) p
settled_known image at p h lt ne = record {
  progressing = progress_more image at (at + 1) p (omega arith) h.progressing;
  still = h.still;
  roots = h.roots;
  opened = λ q below within alone. elim (cases_lt q at) [
    | inl before ↦ h.opened q before within alone
    | inr after' ↦
        let same : at ≡ q = omega arith in
        subst (λ k. Covers (depth_at p.known k) Zero) same (open_known image at p h lt ne (subst (IsOpen image) (sym same) alone))
  ];
  filled = λ q below within. elim (cases_lt q at) [
    | inl before ↦ h.filled q before within
    | inr after' ↦
        let same : at ≡ q = omega arith in
        subst (λ k. depth_at p.known k ≢ Unknown) same ne
  ];
}

pub settled_unknown : (image : Image) (at : ℕ) (old new : Progress) → IsSettled image at old → IsProgress image (at + 1) new → new.work ≡ [] → IsGrown old.known new.known → Covers (depth_at new.known at) Zero → IsSettled image (at + 1) new
settled_unknown image at old new h progressing still grown here = record {
  progressing = progressing;
  still = still;
  roots = roots_grown image old.known new.known grown h.roots;
  opened = λ q below within alone. elim (cases_lt q at) [
    | inl before ↦ grown_covers old.known new.known q Zero grown (h.opened q before within alone)
    | inr after' ↦
        let same : at ≡ q = omega arith in
        subst (λ k. Covers (depth_at new.known k) Zero) same here
  ];
  filled = λ q below within. elim (cases_lt q at) [
    | inl before ↦ covers_some (depth_at new.known q) (depth_at old.known q) (grown q) (h.filled q before within)
    | inr after' ↦
        let same : at ≡ q = omega arith in
        subst (λ k. depth_at new.known k ≢ Unknown) same (covers_some (depth_at new.known at) Zero here zero_some)
  ];
}

pub settled_first : (image : Image) (old : List Depth) (new : Progress) → IsProgress image 0 new → new.work ≡ [] → IsGrown old new.known → AreRootsStarted image old → IsSettled image 0 new
settled_first image old new progressing still grown roots = record {
  progressing = progressing;
  still = still;
  roots = roots_grown image old new.known grown roots;
  opened = λ q below within alone. absurd (omega arith);
  filled = λ q below within. absurd (omega arith);
}

-- an alone place has depth 0 from the start
pub opened_known : (image : Image) (at : ℕ) → IsOpen image at → IsKnown image (at + 1) at Zero
opened_known image at alone = (zero, (inr (alone, omega arith), refl))
