-- The roots: where the depth is 0 from the start.
use Rattle.std.proofs.Common.{◌≡◌, ℕ, zero, ◌+◌, ◌<◌, ◌≤◌, ◌⊎◌, Bool, true, false, List, length, get_or, Option, Some, None, refl, sym, ap, subst, ◌∙◌, arith, inl, inr, pos}
use Rattle.std.specs.Prelude.{slice_get, slice_set, IfSome}
use Rattle.std.proofs.lemmas.Bool.{cases_lt, cases_eq, false≢true}
use Rattle.std.proofs.lemmas.List.{get_or_default, get_or-set_same, get_or-set_other, get_or_past, length-set}
use Rattle.bk_code.specs.declared.image.Image.{Image}
use Rattle.bk_code.specs.declared.image.OpEntry.{OpEntry}
use Rattle.bk_code.specs.declared.instruction.Inst.{Inst}
use Rattle.bk_code.specs.Checks.{FlowsTo, Passes, IsRoot}
use Rattle.std.proofs.lemmas.Option.{slice_get_within}
use Rattle.bk_image.specs.declared.depths.Depth.{Depth}
use Rattle.bk_image.specs.declared.depths.Depth.TheVariants.{One}
use Rattle.bk_image.specs.Progress.{Covers, IsKnown, IsGrown, depth_at, AreReached, AreStartedBelow, EntriesStartBelow, AreRootsStarted, marked, next_of, target_of, HasPlaceAsTarget}
use Rattle.bk_image.proofs.Flowing.{covers_through}
use Rattle.bk_image.proofs.Following.{IsInside, flows_go, next_flows, target_flows}

pub grown_covers : (old new : List Depth) (at : ℕ) (d : Depth) → IsGrown old new → Covers (depth_at old at) d → Covers (depth_at new at) d
grown_covers old new at d grown h = covers_through (depth_at new at) (depth_at old at) d (grown at) h

pub grown_through : (a b c : List Depth) → IsGrown a b → IsGrown b c → IsGrown a c
grown_through a b c p q at = covers_through (depth_at c at) (depth_at b at) (depth_at a at) (q at) (p at)

-- a root has depth 0
pub root_known : (image : Image) (limit at : ℕ) → IsRoot image at → IsKnown image limit at (One (pos 0))
root_known image limit at root = (zero, (inl root, refl))

flag_is : (reached : List Bool) (at : ℕ) → at < length reached → get_or reached at false ≡ true → get_or reached at true ≡ false → ⊥
flag_is reached at lt h k = let same = get_or_default reached at false true lt in cc

-- what nothing reaches is a root
pub unreached_root : (image : Image) (reached : List Bool) (at : ℕ) → AreReached image reached → at < length reached → get_or reached at true ≡ false → IsRoot image at
unreached_root image reached at r lt unmarked = inr (inr (λ from passes. flag_is reached at lt (r.all from at passes) unmarked))

-- one more place that was looked at
pub started_more : (reached : List Bool) (n : ℕ) (old new : List Depth) → AreStartedBelow reached n old → IsGrown old new → (get_or reached n true ≡ false → Covers (depth_at new n) (One (pos 0))) → AreStartedBelow reached (n + 1) new
started_more reached n old new h grown here at lt unmarked =
    elim (cases_lt at n) [
      | inl before ↦ grown_covers old new at (One (pos 0)) grown (h at before unmarked)
      | inr after ↦
          let same : n ≡ at = omega arith in
          subst (λ k. Covers (depth_at new k) (One (pos 0))) same (here (subst (λ k. get_or reached k true ≡ false) (sym same) unmarked))
    ]

entry_is : (a b : OpEntry) → Some a ≡ Some b → a ≡ b
entry_is a b e = cc

-- one more operation
pub entries_more : (image : Image) (n : ℕ) (entry : OpEntry) (old new : List Depth) → EntriesStartBelow image n old → IsGrown old new → slice_get image.ops n ≡ Some entry → Covers (depth_at new entry.start) (One (pos 0)) → EntriesStartBelow image (n + 1) new
entries_more image n entry old new h grown get here k other lt there =
    elim (cases_lt k n) [
      | inl before ↦ grown_covers old new other.start (One (pos 0)) grown (h k other before there)
      | inr after ↦
          let same : k ≡ n = omega arith in
          let e : entry ≡ other = entry_is entry other (sym get ∙ subst (λ j. slice_get image.ops j ≡ Some other) same there) in
          subst (λ x. Covers (depth_at new x.start) (One (pos 0))) e here
    ]

-- ---- marks

pub marked_before : (reached : List Bool) (o : Option ℕ) (to : ℕ) → get_or reached to false ≡ true → get_or (marked reached o) to false ≡ true
marked_before reached None to h = h
marked_before reached (Some n) to h =
    elim (cases_eq to n) [
      | inl same ↦ subst (λ k. get_or (slice_set reached n true) k false ≡ true) (sym same) (get_or-set_same reached n true false (within reached n (subst (λ k. get_or reached k false ≡ true) same h)))
      | inr ne ↦ get_or-set_other reached n to true false ne ∙ h
    ]
  where
    within : (flags : List Bool) (k : ℕ) → get_or flags k false ≡ true → k < length flags
    within flags k marked =
        elim (cases_lt k (length flags)) [
          | inl lt ↦ lt
          | inr past ↦ absurd (false≢true (sym (get_or_past flags k false past) ∙ marked))
        ]

pub marked_some : (reached : List Bool) (o : Option ℕ) (to : ℕ) → get_or (marked reached o) to false ≡ true → (get_or reached to false ≡ true) ⊎ (o ≡ Some to)
marked_some reached None to h = inl h
marked_some reached (Some n) to h =
    elim (cases_eq to n) [
      | inl same ↦ inr (ap (λ k. Some k) (sym same))
      | inr ne ↦ inl (sym (get_or-set_other reached n to true false ne) ∙ h)
    ]

pub marked_all : (reached : List Bool) (o : Option ℕ) (to : ℕ) → o ≡ Some to → to < length reached → get_or (marked reached o) to false ≡ true
marked_all reached None to e lt = absurd cc
marked_all reached (Some n) to e lt =
    let same : n ≡ to = cc in
    subst (λ k. get_or (slice_set reached k true) to false ≡ true) (sym same) (get_or-set_same reached to true false lt)

pub length-marked : (reached : List Bool) (o : Option ℕ) → length (marked reached o) ≡ length reached
length-marked reached None = refl
length-marked reached (Some n) = length-set reached n true

-- marking both ways on from an instruction
abbrev pub marked_from : List Bool → Inst → ℕ → List Bool
marked_from reached i at = marked (marked reached (next_of i at)) (target_of i at)

pub from_some : (image : Image) (reached : List Bool) (i : Inst) (at to : ℕ) → slice_get image.code at ≡ Some i → HasPlaceAsTarget i at → get_or (marked_from reached i at) to false ≡ true → (get_or reached to false ≡ true) ⊎ Passes image at to
from_some image reached i at to get low h =
    elim (marked_some (marked reached (next_of i at)) (target_of i at) to h) [
      | inr target ↦ inr (i, get, target_flows i at to low target)
      | inl before ↦ elim (marked_some reached (next_of i at) to before) [
        | inr next ↦ inr (i, get, next_flows i at to next)
        | inl old ↦ inl old
      ]
    ]

inst_is : (a b : Inst) → Some a ≡ Some b → a ≡ b
inst_is a b e = cc

pub in_range : (image : Image) (o : Option ℕ) (to : ℕ) → IfSome o (λ k. k < length image.code) → o ≡ Some to → to < length image.code
in_range image None to h e = absurd cc
in_range image (Some n) to h e = let same : n ≡ to = cc in subst (λ k. k < length image.code) same h

pub from_all : (image : Image) (reached : List Bool) (i : Inst) (at to : ℕ) → slice_get image.code at ≡ Some i → IsInside image at i → length reached ≡ length image.code → Passes image at to → get_or (marked_from reached i at) to false ≡ true
from_all image reached i at to get inside long passes =
    let same : i ≡ passes.0 = inst_is i passes.0 (sym get ∙ passes.1) in
    elim (flows_go i at to (subst (λ k. FlowsTo k at to) (sym same) passes.2)) [
      | inl next ↦ marked_before (marked reached (next_of i at)) (target_of i at) to (marked_all reached (next_of i at) to next (subst (λ n. to < n) (sym long) (in_range image (next_of i at) to inside.next next)))
      | inr target ↦ marked_all (marked reached (next_of i at)) (target_of i at) to target
          (subst (λ n. to < n) (sym (length-marked reached (next_of i at) ∙ long)) (in_range image (target_of i at) to inside.target target))
    ]

-- ---- the roots

abbrev pub Zero : Depth
Zero = One (pos 0)

pub roots_started : (image : Image) (reached : List Bool) (known : List Depth) → AreReached image reached → AreStartedBelow reached (length reached) known → EntriesStartBelow image (length image.ops) known
    → Covers (depth_at known 0) (One (pos 0)) → AreRootsStarted image known
roots_started image reached known r started entries first at lt (inl zero') = subst (λ k. Covers (depth_at known k) Zero) (sym zero') first
roots_started image reached known r started entries first at lt (inr (inl (k, entry, get, start))) =
    subst (λ p. Covers (depth_at known p) Zero) start (entries k entry (slice_get_within image.ops k entry get) get)
roots_started image reached known r started entries first at lt (inr (inr none)) =
    started at (subst (λ n. at < n) (sym r.long) lt) (unmarked (get_or reached at true) refl)
  where
    unmarked : (flag : Bool) → flag ≡ get_or reached at true → get_or reached at true ≡ false
    unmarked false e = sym e
    unmarked true e =
        let marked' = get_or_default reached at false true (subst (λ n. at < n) (sym r.long) lt) ∙ sym e in
        let p = r.some at marked' in
        absurd (none p.0 p.1)

pub roots_grown : (image : Image) (old new : List Depth) → IsGrown old new → AreRootsStarted image old → AreRootsStarted image new
roots_grown image old new grown h at lt root = grown_covers old new at Zero grown (h at lt root)

pub entries_grown : (image : Image) (old new : List Depth) → IsGrown old new → EntriesStartBelow image (length image.ops) old → EntriesStartBelow image (length image.ops) new
entries_grown image old new grown h k entry lt get = grown_covers old new entry.start Zero grown (h k entry lt get)

-- ---- the marks of all places

-- what is marked once so many places were looked at
pub record AreMarked (image : Image) (n : ℕ) (reached : List Bool) : Type 0 where
  pub long : length reached ≡ length image.code
  pub some : (to : ℕ) → get_or reached to false ≡ true → (from : ℕ) × Passes image from to
  pub all : (from to : ℕ) → from < n → Passes image from to → get_or reached to false ≡ true

pub marked_more : (image : Image) (n : ℕ) (old new : List Bool) → AreMarked image n old → length new ≡ length old → ((to : ℕ) → get_or old to false ≡ true → get_or new to false ≡ true)
    → ((to : ℕ) → get_or new to false ≡ true → (get_or old to false ≡ true) ⊎ Passes image n to) → ((to : ℕ) → Passes image n to → get_or new to false ≡ true) → AreMarked image (n + 1) new
marked_more image n old new h long before some all = record {
  long = long ∙ h.long;
  some = λ to marked'. elim (some to marked') [ inl earlier ↦ h.some to earlier | inr passes ↦ (n, passes) ];
  all = λ from to lt passes. elim (cases_lt from n) [
    | inl earlier ↦ before to (h.all from to earlier passes)
    | inr later ↦
        let same : from ≡ n = omega arith in
        all to (subst (λ k. Passes image k to) same passes)
  ];
}

pub all_marked : (image : Image) (n : ℕ) (reached : List Bool) → AreMarked image n reached → length image.code ≤ n → AreReached image reached
all_marked image n reached h le = record {
  long = h.long;
  some = h.some;
  all = λ from to passes. h.all from to (let lt = slice_get_within image.code from passes.0 passes.1 in omega arith) passes;
}
