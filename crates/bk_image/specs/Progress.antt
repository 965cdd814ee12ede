-- Only the contracts of private functions name what stands here.
-- How the depths are found: what is known of them so far, and the places from which control still has to be followed.
use Rattle.std.specs.Prelude.{Bool, true, false, ◌≡◌, ◌≢◌, ℕ, zero, suc, ◌+◌, ◌-◌, ◌*◌, ◌<◌, ◌≤◌, ◌⊎◌, ℤ, pos}
use Rattle.std.specs.Prelude.{unsigned_abs, ◌+ℤ◌, ◌≤ℤ◌, List, [], ◌∷◌, ◌++◌, length, All, Contains, Option}
use Rattle.std.specs.Prelude.{Some, None, slice_get, slice_set, slice_index_or, sum_by, if◌then◌else◌}
use Rattle.std.specs.Ordering.{int_eq}
use Rattle.bk_code.specs.declared.image.Image.{Image}
use Rattle.bk_code.specs.declared.image.OpEntry.{OpEntry}
use Rattle.bk_code.specs.declared.instruction.Inst.{Inst}
use Rattle.bk_code.specs.declared.instruction.Inst.TheVariants.{Jump, JumpZero, Ret}
use Rattle.bk_code.specs.Checks.{IsRoot, IsOpen, FlowsTo, Passes}
use Rattle.bk_image.specs.declared.depths.Depth.{Depth}
use Rattle.bk_image.specs.declared.depths.Depth.TheVariants.{Unknown, One, Many}
use Rattle.bk_image.specs.declared.depths.Depths.{Depths}
use Rattle.bk_image.specs.Stack.{depth_after, IsAllowed, BreaksRules}

-- what is known after an instruction, from what is known before it
abbrev pub after : Inst → Depth → Depth
after i Unknown = Unknown
after i (One d) = One (depth_after i d)
after i Many = Many

-- what is known once another depth came, if that is more than before
abbrev pub raised : Depth → Depth → Option Depth
raised Many new = None
raised have Unknown = None
raised Unknown new = Some new
raised (One d) (One e) = if int_eq d e then None else Some Many
raised (One d) Many = Some Many

-- what is known of the depth at a place
abbrev pub depth_at : List Depth → ℕ → Depth
depth_at known at = slice_index_or known at Unknown

-- what is known so far of the depth at each place, and the places from which control still has to be followed
pub record Progress : Type 0 where
  pub known : List Depth
  pub work : List ℕ

-- what the code's own record of this stands for
abbrev pub progress : Depths → Progress
progress d = record { known = d.known.items; work = d.work.items }

-- a raised depth is kept, and followed later
abbrev pub kept : Progress → ℕ → Option Depth → Progress
kept p to None = p
kept p to (Some depth) = record { known = slice_set p.known to depth; work = p.work ++ to ∷ [] }

-- a depth comes to a place
abbrev pub flowed : Progress → Depth → ℕ → Progress
flowed p new to = kept p to (raised (depth_at p.known to) new)

-- the next place, unless control leaves
abbrev pub next_of : Inst → ℕ → Option ℕ
next_of (Jump distance) at = None
next_of Ret at = None
next_of _ at = Some (at + 1)

-- the target of a jump
abbrev pub target_of : Inst → ℕ → Option ℕ
target_of (Jump distance) at = Some (unsigned_abs (pos at +ℤ distance))
target_of (JumpZero distance) at = Some (unsigned_abs (pos at +ℤ distance))
target_of _ at = None

-- a jump's target is no place before the first
abbrev pub HasPlaceAsTarget : Inst → ℕ → Type 0
HasPlaceAsTarget (Jump distance) at = pos 0 ≤ℤ (pos at +ℤ distance)
HasPlaceAsTarget (JumpZero distance) at = pos 0 ≤ℤ (pos at +ℤ distance)
HasPlaceAsTarget _ at = Unit {0}

-- a depth comes to a place, if control goes there at all
abbrev pub flowed_to : Progress → Depth → Option ℕ → Progress
flowed_to p new None = p
flowed_to p new (Some to) = flowed p new to

-- the instruction at a place was followed
abbrev pub followed : Progress → Inst → ℕ → Progress
followed p i at =
    let new = after i (depth_at p.known at) in
    flowed_to (flowed_to p new (next_of i at)) new (target_of i at)

-- ---- what holds on the way
-- as HasDepth; of the open places only those below a limit count
abbrev pub HasDepthBelow : Image → ℕ → ℕ → ℕ → ℤ → Type 0
HasDepthBelow image limit zero at d = (IsRoot image at ⊎ (IsOpen image at × (at < limit))) × (d ≡ pos 0)
HasDepthBelow image limit (suc n) to d =
    (at : ℕ) × (before : ℤ) × (i : Inst) × HasDepthBelow image limit n at before × (slice_get image.code at ≡ Some i) × FlowsTo i at to
    × (d ≡ depth_after i before)

-- what is known of a place is so
abbrev pub IsKnown : Image → ℕ → ℕ → Depth → Type 0
IsKnown image limit at Unknown = Unit {0}
IsKnown image limit at (One d) = (n : ℕ) × HasDepthBelow image limit n at d
IsKnown image limit at Many = (d e : ℤ) × (n m : ℕ) × HasDepthBelow image limit n at d × HasDepthBelow image limit m at e × (d ≢ e)

-- what is known takes another depth into account
abbrev pub Covers : Depth → Depth → Type 0
Covers Many new = Unit {0}
Covers have Unknown = Unit {0}
Covers (One d) (One e) = d ≡ e
Covers _ _ = ⊥

-- how much is known: nothing, that there is one depth, or that there are several
abbrev pub rank : Depth → ℕ
rank Unknown = 0
rank (One d) = 1
rank Many = 2

-- how much is known of all places together
abbrev pub rank_sum : List Depth → ℕ
rank_sum known = sum_by rank known

-- the work that is left at most
abbrev pub left : Progress → ℕ
left p = length p.work + (2 * length p.known - rank_sum p.known)

-- what is known is so, and each flow from a known place was followed or waits in the work
pub record IsProgress (image : Image) (limit : ℕ) (p : Progress) : Type 0 where
  pub long : length p.known ≡ length image.code
  pub so : (at : ℕ) → at < length image.code → IsKnown image limit at (depth_at p.known at)
  pub closed : (at to : ℕ) (i : Inst) → slice_get image.code at ≡ Some i → FlowsTo i at to →
      Covers (depth_at p.known to) (after i (depth_at p.known at)) ⊎ Contains p.work at
  pub near : (at : ℕ) (d : ℤ) → depth_at p.known at ≡ One d → unsigned_abs d ≤ 2 * rank_sum p.known
  pub places : All (λ at. at < length image.code) p.work

-- the same, but for flows from places that are just being followed
pub record IsProgressBut (image : Image) (limit : ℕ) (p : Progress) (Busy : ℕ → Type 0) : Type 0 where
  pub long : length p.known ≡ length image.code
  pub so : (at : ℕ) → at < length image.code → IsKnown image limit at (depth_at p.known at)
  pub closed : (at to : ℕ) (i : Inst) → slice_get image.code at ≡ Some i → FlowsTo i at to →
      Covers (depth_at p.known to) (after i (depth_at p.known at)) ⊎ Contains p.work at ⊎ Busy at
  pub near : (at : ℕ) (d : ℤ) → depth_at p.known at ≡ One d → unsigned_abs d ≤ 2 * rank_sum p.known
  pub places : All (λ at. at < length image.code) p.work

-- this place alone is
abbrev pub At : ℕ → ℕ → Type 0
At at place = place ≡ at

-- nothing that was known is lost
abbrev pub IsGrown : List Depth → List Depth → Type 0
IsGrown old new = (at : ℕ) → Covers (depth_at new at) (depth_at old at)

-- the places that control may go to are marked
pub record AreReached (image : Image) (reached : List Bool) : Type 0 where
  pub long : length reached ≡ length image.code
  pub some : (to : ℕ) → slice_index_or reached to false ≡ true → (at : ℕ) × Passes image at to
  pub all : (at to : ℕ) → Passes image at to → slice_index_or reached to false ≡ true

-- of the first n places those that nothing reaches have depth 0
abbrev pub AreStartedBelow : List Bool → ℕ → List Depth → Type 0
AreStartedBelow reached n known = (at : ℕ) → at < n → slice_index_or reached at true ≡ false → Covers (depth_at known at) (One (pos 0))

-- the starts of the first n operations have depth 0
abbrev pub EntriesStartBelow : Image → ℕ → List Depth → Type 0
EntriesStartBelow image n known = (k : ℕ) (entry : OpEntry) → k < n →
    slice_get image.ops k ≡ Some entry → Covers (depth_at known entry.start) (One (pos 0))

-- each root has depth 0
abbrev pub AreRootsStarted : Image → List Depth → Type 0
AreRootsStarted image known = (at : ℕ) → at < length image.code → IsRoot image at → Covers (depth_at known at) (One (pos 0))

-- the place that control goes to, if there is one, is marked
abbrev pub marked : List Bool → Option ℕ → List Bool
marked reached None = reached
marked reached (Some to) = slice_set reached to true

-- nothing waits; each root, and each open place below the limit, has depth 0; each place below the limit has a depth
pub record IsSettled (image : Image) (limit : ℕ) (p : Progress) : Type 0 where
  pub progressing : IsProgress image limit p
  pub still : p.work ≡ []
  pub roots : AreRootsStarted image p.known
  pub opened : (at : ℕ) → at < limit → at < length image.code → IsOpen image at → Covers (depth_at p.known at) (One (pos 0))
  pub filled : (at : ℕ) → at < limit → at < length image.code → depth_at p.known at ≢ Unknown

-- what is known at an instruction is one number, and breaks no rule
abbrev pub IsRight : Inst → Depth → Type 0
IsRight i (One d) = IsAllowed i d
IsRight i _ = ⊥

-- what is known at an instruction is one number that breaks a rule, or it is not one number
abbrev pub IsWrong : Inst → Depth → Type 0
IsWrong i (One d) = BreaksRules i d
IsWrong i _ = Unit {0}

-- the first n instructions are right
abbrev pub AreRight : List Inst → List Depth → ℕ → Type 0
AreRight code known n = (k : ℕ) (d : Inst) → k < n → IsRight (slice_index_or code k d) (depth_at known k)
