-- Following an instruction.
use Rattle.std.proofs.Common.{◌≡◌, ◌≢◌, ℕ, suc, ◌+◌, ◌*◌, ◌^◌, ◌<◌, ◌≤◌, ◌⊎◌, List, [], ◌∷◌, ◌++◌, length, Option, Some, None, refl, sym, ap, subst, ◌∙◌, arith, inl, inr, ℤ, pos}
use Rattle.std.specs.Prelude.{All, Contains, IfSome, slice_get, unsigned_abs, ◌+ℤ◌, ◌≤ℤ◌}
use Rattle.std.proofs.lemmas.Int.{ints}
use Rattle.std.proofs.lemmas.List.{length-append, get_or_append_left}
use Rattle.std.proofs.lemmas.List.Elements.{All-contains, Contains-push, Contains-push_cases}
use Rattle.bk_code.specs.Numbers.{IsWithin}
use Rattle.std.proofs.lemmas.Option.{slice_get_within}
use Rattle.bk_code.specs.declared.image.Image.{Image}
use Rattle.bk_code.specs.declared.instruction.Inst.{Inst}
use Rattle.bk_code.specs.declared.instruction.Inst.TheVariants.{Push, Load, Store, ALoad, AStore, Add, Sub, Mul, Div, Mod, Neg, Eq, Lt, Le, Not, Jump, JumpZero, Ret}
use Rattle.bk_code.specs.Checks.{FlowsTo, IsNumbered, IsLeaving, pops, pushes}
use Rattle.bk_image.specs.declared.depths.Depth.{Depth}
use Rattle.bk_image.specs.declared.depths.Depth.TheVariants.{Unknown, One, Many}
use Rattle.bk_image.specs.Stack.{depth_after}
use Rattle.bk_image.specs.Progress.{Progress, IsProgress, IsProgressBut, At, IsKnown, IsGrown, Covers, after, rank_sum, left, depth_at, flowed, flowed_to, followed, next_of, target_of, HasPlaceAsTarget}
use Rattle.bk_image.proofs.Flowing.{rank_sum_few, covers_itself, covers_through, flowed_progress, flowed_grown, flowed_covers, flowed_long, flowed_waits, flowed_still, flowed_left, flowed_sum}

-- ---- where control goes

-- the instruction's flows lead to places
pub record IsInside (image : Image) (at : ℕ) (i : Inst) : Type 0 where
  pub from_zero : HasPlaceAsTarget i at
  pub next : IfSome (next_of i at) (λ to. to < length image.code)
  pub target : IfSome (target_of i at) (λ to. to < length image.code)

abs_pos : (z : ℤ) (n : ℕ) → z ≡ pos n → unsigned_abs z ≡ n
abs_pos z n e = ap unsigned_abs e

-- an instruction behind which control goes on
goes_on : (image : Image) (at : ℕ) (i : Inst) → IsNumbered image → slice_get image.code at ≡ Some i → (IsLeaving i → ⊥) → at + 1 < length image.code
goes_on image at i numbered get stays =
    let lt = slice_get_within image.code at i get in
    let ne : at + 1 ≢ length image.code = λ e. stays (numbered.last at i get e) in
    omega arith

pub inside : (image : Image) (at : ℕ) (i : Inst) → IsNumbered image → slice_get image.code at ≡ Some i → IsInside image at i
inside image at (Jump distance) numbered get =
    let g = numbered.insts at (Jump distance) get in
    let is = g.is in
    let stands = g.stands in
    record { from_zero = omega (arith, ints); next = tt; target = omega (arith, abs_pos (pos at +ℤ distance) g.place is) }
inside image at (JumpZero distance) numbered get =
    let g = numbered.insts at (JumpZero distance) get in
    let is = g.is in
    let stands = g.stands in
    record { from_zero = omega (arith, ints); next = goes_on image at (JumpZero distance) numbered get (λ l. l); target = omega (arith, abs_pos (pos at +ℤ distance) g.place is) }
inside image at Ret numbered get = record { from_zero = tt; next = tt; target = tt }
inside image at (Push n) numbered get = record { from_zero = tt; next = goes_on image at (Push n) numbered get (λ l. l); target = tt }
inside image at (Load n) numbered get = record { from_zero = tt; next = goes_on image at (Load n) numbered get (λ l. l); target = tt }
inside image at (Store n) numbered get = record { from_zero = tt; next = goes_on image at (Store n) numbered get (λ l. l); target = tt }
inside image at (ALoad base low count) numbered get = record { from_zero = tt; next = goes_on image at (ALoad base low count) numbered get (λ l. l); target = tt }
inside image at (AStore base low count) numbered get = record { from_zero = tt; next = goes_on image at (AStore base low count) numbered get (λ l. l); target = tt }
inside image at Add numbered get = record { from_zero = tt; next = goes_on image at Add numbered get (λ l. l); target = tt }
inside image at Sub numbered get = record { from_zero = tt; next = goes_on image at Sub numbered get (λ l. l); target = tt }
inside image at Mul numbered get = record { from_zero = tt; next = goes_on image at Mul numbered get (λ l. l); target = tt }
inside image at Div numbered get = record { from_zero = tt; next = goes_on image at Div numbered get (λ l. l); target = tt }
inside image at Mod numbered get = record { from_zero = tt; next = goes_on image at Mod numbered get (λ l. l); target = tt }
inside image at Neg numbered get = record { from_zero = tt; next = goes_on image at Neg numbered get (λ l. l); target = tt }
inside image at Eq numbered get = record { from_zero = tt; next = goes_on image at Eq numbered get (λ l. l); target = tt }
inside image at Lt numbered get = record { from_zero = tt; next = goes_on image at Lt numbered get (λ l. l); target = tt }
inside image at Le numbered get = record { from_zero = tt; next = goes_on image at Le numbered get (λ l. l); target = tt }
inside image at Not numbered get = record { from_zero = tt; next = goes_on image at Not numbered get (λ l. l); target = tt }

-- the two ways on are all flows
abbrev pub GoesTo : Inst → ℕ → ℕ → Type 0
GoesTo i at to = (next_of i at ≡ Some to) ⊎ (target_of i at ≡ Some to)

pub flows_go : (i : Inst) (at to : ℕ) → FlowsTo i at to → GoesTo i at to
flows_go (Jump distance) at to h = inr (ap (λ n. Some n) (abs_pos (pos at +ℤ distance) to (sym h)))
flows_go (JumpZero distance) at to (inl h) = inl (ap (λ n. Some n) (sym h))
flows_go (JumpZero distance) at to (inr h) = inr (ap (λ n. Some n) (abs_pos (pos at +ℤ distance) to (sym h)))
flows_go Ret at to h = absurd h
flows_go _ at to h = inl (ap (λ n. Some n) (sym h))

some_is : (m n : ℕ) → Some m ≡ Some n → m ≡ n
some_is m n h = cc

abs_back : (z : ℤ) (n : ℕ) → pos 0 ≤ℤ z → unsigned_abs z ≡ n → pos n ≡ z
abs_back z n low e = omega (arith, ints)

pub next_flows : (i : Inst) (at to : ℕ) → next_of i at ≡ Some to → FlowsTo i at to
next_flows (Jump distance) at to h = absurd cc
next_flows (JumpZero distance) at to h = inl (sym (some_is (at + 1) to h))
next_flows Ret at to h = absurd cc
next_flows _ at to h = sym (some_is (at + 1) to h)

pub target_flows : (i : Inst) (at to : ℕ) → HasPlaceAsTarget i at → target_of i at ≡ Some to → FlowsTo i at to
target_flows (Jump distance) at to low h = abs_back (pos at +ℤ distance) to low (some_is (unsigned_abs (pos at +ℤ distance)) to h)
target_flows (JumpZero distance) at to low h = inr (abs_back (pos at +ℤ distance) to low (some_is (unsigned_abs (pos at +ℤ distance)) to h))
target_flows _ at to low h = absurd cc

-- ---- what comes through an instruction

pub after_known : (image : Image) (limit at to : ℕ) (i : Inst) (have : Depth) → slice_get image.code at ≡ Some i → FlowsTo i at to → IsKnown image limit at have → IsKnown image limit to (after i have)
after_known image limit at to i Unknown get flows h = tt
after_known image limit at to i (One d) get flows h = (suc h.0, (at, d, i, h.1, get, flows, refl))
after_known image limit at to i Many get flows (d, e, n, m, p, q, ne) =
    (depth_after i d, depth_after i e, suc n, suc m, (at, d, i, p, get, flows, refl), (at, e, i, q, get, flows, refl), λ same. ne (omega (arith, ints, same)))

few_pops : (i : Inst) → (pops i ≤ 2) × (pushes i ≤ 1)
few_pops (Push n) = (omega arith, omega arith)
few_pops (Load n) = (omega arith, omega arith)
few_pops (Store n) = (omega arith, omega arith)
few_pops (ALoad base low count) = (omega arith, omega arith)
few_pops (AStore base low count) = (omega arith, omega arith)
few_pops (Jump distance) = (omega arith, omega arith)
few_pops (JumpZero distance) = (omega arith, omega arith)
few_pops Neg = (omega arith, omega arith)
few_pops Not = (omega arith, omega arith)
few_pops Ret = (omega arith, omega arith)
few_pops _ = (omega arith, omega arith)

after_near : (i : Inst) (have : Depth) (bound : ℕ) → ((d : ℤ) → have ≡ One d → unsigned_abs d ≤ bound) → (d : ℤ) → after i have ≡ One d → unsigned_abs d ≤ bound + 2
after_near i Unknown bound near d e = absurd cc
after_near i (One f) bound near d e =
    let same : depth_after i f ≡ d = cc in
    let few = few_pops i in
    omega (arith, ints, near f refl, same, few.0, few.1)
after_near i Many bound near d e = absurd cc

-- ---- one of the two ways on

abbrev Stands : Image → Option ℕ → Type 0
Stands image o = IfSome o (λ to. to < length image.code)

abbrev KnownThere : Image → ℕ → Option ℕ → Depth → Type 0
KnownThere image limit o new = IfSome o (λ to. IsKnown image limit to new)

abbrev NearBy : List Depth → Depth → Type 0
NearBy known new = (d : ℤ) → new ≡ One d → unsigned_abs d ≤ 2 * rank_sum known + 2

way_progress : (image : Image) (limit : ℕ) (p : Progress) (Busy : ℕ → Type 0) (new : Depth) (o : Option ℕ) → IsProgressBut image limit p Busy → Stands image o
    → KnownThere image limit o new → NearBy p.known new → IsProgressBut image limit (flowed_to p new o) Busy
way_progress image limit p Busy new None h stands known near = h
way_progress image limit p Busy new (Some to) h stands known near = flowed_progress image limit p Busy new to h stands known near

way_near : (image : Image) (p : Progress) (new : Depth) (o : Option ℕ) → length p.known ≡ length image.code → Stands image o → NearBy p.known new → NearBy (flowed_to p new o).known new
way_near image p new None long stands near d e = near d e
way_near image p new (Some to) long stands near d e = omega (arith, near d e, flowed_sum p new to (omega arith))

way_grown : (image : Image) (p : Progress) (new : Depth) (o : Option ℕ) → length p.known ≡ length image.code → Stands image o → IsGrown p.known (flowed_to p new o).known
way_grown image p new None long stands at = covers_itself (depth_at p.known at)
way_grown image p new (Some to) long stands at = flowed_grown p new to (omega arith) at

way_covers : (image : Image) (p : Progress) (new : Depth) (o : Option ℕ) (to : ℕ) → length p.known ≡ length image.code → Stands image o → o ≡ Some to → Covers (depth_at (flowed_to p new o).known to) new
way_covers image p new None to long stands e = absurd cc
way_covers image p new (Some n) to long stands e =
    let same : n ≡ to = some_is n to e in
    subst (λ k. Covers (depth_at (flowed p new n).known k) new) same (flowed_covers p new n (omega arith))

way_long : (p : Progress) (new : Depth) (o : Option ℕ) → length (flowed_to p new o).known ≡ length p.known
way_long p new None = refl
way_long p new (Some to) = flowed_long p new to

way_waits : (p : Progress) (new : Depth) (o : Option ℕ) (at : ℕ) → (depth_at (flowed_to p new o).known at ≡ depth_at p.known at) ⊎ Contains (flowed_to p new o).work at
way_waits p new None at = inl refl
way_waits p new (Some to) at = flowed_waits p new to at

way_still : (p : Progress) (new : Depth) (o : Option ℕ) (at : ℕ) → Contains p.work at → Contains (flowed_to p new o).work at
way_still p new None at waits = waits
way_still p new (Some to) at waits = flowed_still p new to at waits

way_left : (image : Image) (p : Progress) (new : Depth) (o : Option ℕ) → length p.known ≡ length image.code → Stands image o → left (flowed_to p new o) ≤ left p
way_left image p new None long stands = omega arith
way_left image p new (Some to) long stands = flowed_left p new to (omega arith)

-- ---- both

pub followed_left : (image : Image) (p : Progress) (i : Inst) (at : ℕ) → length p.known ≡ length image.code → IsInside image at i → left (followed p i at) ≤ left p
followed_left image p i at long inside =
    let new = after i (depth_at p.known at) in
    omega (arith, way_left image p new (next_of i at) long inside.next, way_left image (flowed_to p new (next_of i at)) new (target_of i at) (way_long p new (next_of i at) ∙ long) inside.target)

pub followed_grown : (image : Image) (p : Progress) (i : Inst) (at : ℕ) → length p.known ≡ length image.code → IsInside image at i → IsGrown p.known (followed p i at).known
followed_grown image p i at long inside place =
    let new = after i (depth_at p.known at) in
    let q = flowed_to p new (next_of i at) in
    covers_through (depth_at (flowed_to q new (target_of i at)).known place) (depth_at q.known place) (depth_at p.known place)
    (way_grown image q new (target_of i at) (way_long p new (next_of i at) ∙ long) inside.target place) (way_grown image p new (next_of i at) long inside.next place)

-- a place is as before, or waits
followed_waits : (p : Progress) (i : Inst) (at place : ℕ) → (depth_at (followed p i at).known place ≡ depth_at p.known place) ⊎ Contains (followed p i at).work place
followed_waits p i at place =
    let new = after i (depth_at p.known at) in
    let q = flowed_to p new (next_of i at) in
    elim (way_waits q new (target_of i at) place) [
      | inr waits ↦ inr waits
      | inl same ↦ elim (way_waits p new (next_of i at) place) [
        | inl before ↦ inl (same ∙ before)
        | inr waits ↦ inr (way_still q new (target_of i at) place waits)
      ]
    ]

-- where the instruction leads to, what comes through it is taken into account
followed_covers : (image : Image) (p : Progress) (i : Inst) (at to : ℕ) → length p.known ≡ length image.code → IsInside image at i → GoesTo i at to → Covers (depth_at (followed p i at).known to) (after i (depth_at p.known at))
followed_covers image p i at to long inside (inl e) =
    let new = after i (depth_at p.known at) in
    let q = flowed_to p new (next_of i at) in
    covers_through (depth_at (flowed_to q new (target_of i at)).known to) (depth_at q.known to) new
    (way_grown image q new (target_of i at) (way_long p new (next_of i at) ∙ long) inside.target to) (way_covers image p new (next_of i at) to long inside.next e)
followed_covers image p i at to long inside (inr e) =
    let new = after i (depth_at p.known at) in
    way_covers image (flowed_to p new (next_of i at)) new (target_of i at) to (way_long p new (next_of i at) ∙ long) inside.target e

known_there : (image : Image) (limit : ℕ) (o : Option ℕ) (new : Depth) → ((to : ℕ) → o ≡ Some to → IsKnown image limit to new) → KnownThere image limit o new
known_there image limit None new h = tt
known_there image limit (Some to) new h = h to refl

pub followed_but : (image : Image) (limit : ℕ) (p : Progress) (i : Inst) (at : ℕ) → IsProgressBut image limit p (At at) → slice_get image.code at ≡ Some i → IsInside image at i → IsProgressBut image limit (followed p i at) (At at)
followed_but image limit p i at h get inside =
    let have = depth_at p.known at in
    let new = after i have in
    let known = h.so at (slice_get_within image.code at i get) in
    let near : NearBy p.known new = after_near i have (2 * rank_sum p.known) (h.near at) in
    let next = known_there image limit (next_of i at) new (λ to e. after_known image limit at to i have get (next_flows i at to e) known) in
    let target = known_there image limit (target_of i at) new (λ to e. after_known image limit at to i have get (target_flows i at to inside.from_zero e) known) in
    way_progress image limit (flowed_to p new (next_of i at)) (At at) new (target_of i at)
    (way_progress image limit p (At at) new (next_of i at) h inside.next next near) inside.target target (way_near image p new (next_of i at) h.long inside.next near)

inst_is : (a b : Inst) → Some a ≡ Some b → a ≡ b
inst_is a b e = cc

pub followed_progress : (image : Image) (limit : ℕ) (p : Progress) (i : Inst) (at : ℕ) → IsProgressBut image limit p (At at) → slice_get image.code at ≡ Some i → IsInside image at i → IsProgress image limit (followed p i at)
followed_progress image limit p i at h get inside =
    let q = followed p i at in
    let k = followed_but image limit p i at h get inside in
    record { long = k.long; so = k.so; closed = λ from to j getj flows. closed from to j getj flows (k.closed from to j getj flows); near = k.near; places = k.places }
  where
    closed : (from to : ℕ) (j : Inst) → slice_get image.code from ≡ Some j → FlowsTo j from to → Covers (depth_at (followed p i at).known to) (after j (depth_at (followed p i at).known from)) ⊎ Contains (followed p i at).work from ⊎ At at from
        → Covers (depth_at (followed p i at).known to) (after j (depth_at (followed p i at).known from)) ⊎ Contains (followed p i at).work from
    closed from to j getj flows (inl c) = inl c
    closed from to j getj flows (inr (inl w)) = inr w
    closed from to j getj flows (inr (inr same)) =
        let there : slice_get image.code at ≡ Some j = subst (λ a. slice_get image.code a ≡ Some j) same getj in
        let is : i ≡ j = inst_is i j (sym get ∙ there) in
        let goes : GoesTo i at to = flows_go i at to (subst (λ a. FlowsTo i a to) same (subst (λ k. FlowsTo k from to) (sym is) flows)) in
        let covers = followed_covers image p i at to h.long inside goes in
        elim (followed_waits p i at at) [
          | inl before ↦ inl (subst (λ a. Covers (depth_at (followed p i at).known to) (after j (depth_at (followed p i at).known a))) (sym same)
              (subst (λ k. Covers (depth_at (followed p i at).known to) (after k (depth_at (followed p i at).known at))) is
              (subst (λ d. Covers (depth_at (followed p i at).known to) (after i d)) (sym before) covers)))
          | inr waits ↦ inr (subst (Contains (followed p i at).work) (sym same) waits)
        ]

-- ---- the work

all_front : {A : Type 0} (P : A → Type 0) (xs ys : List A) → All P (xs ++ ys) → All P xs
all_front P xs ys h k d lt = subst P (get_or_append_left xs ys d k lt) (h k d (omega (arith, length-append xs ys)))

pub popped : (image : Image) (limit : ℕ) (known : List Depth) (work : List ℕ) (at : ℕ) → IsProgress image limit (record { known = known; work = work ++ at ∷ [] }) → IsProgressBut image limit (record { known = known; work = work }) (At at)
popped image limit known work at h = record { long = h.long; so = h.so; closed = λ from to i get flows. closed from (h.closed from to i get flows); near = h.near; places = all_front (λ a. a < length image.code) work (at ∷ []) h.places }
  where
    closed : {A : Type 0} (from : ℕ) → A ⊎ Contains (work ++ at ∷ []) from → A ⊎ Contains work from ⊎ At at from
    closed from (inl a) = inl a
    closed from (inr c) = elim (Contains-push_cases work at from c) [ inl before ↦ inr (inl before) | inr same ↦ inr (inr (sym same)) ]

pub popped_place : (image : Image) (limit : ℕ) (known : List Depth) (work : List ℕ) (at : ℕ) → IsProgress image limit (record { known = known; work = work ++ at ∷ [] }) → at < length image.code
popped_place image limit known work at h = All-contains (λ a. a < length image.code) (work ++ at ∷ []) at h.places (Contains-push work at)

-- all numbers are small
pub near_within : (image : Image) (limit : ℕ) (p : Progress) (Busy : ℕ → Type 0) → IsProgressBut image limit p Busy → length image.code < 2 ^ 32 → (at : ℕ) (d : ℤ) → depth_at p.known at ≡ One d → IsWithin (pos (2 ^ 40)) d
near_within image limit p Busy h short at d e =
    let l = h.long in
    (omega (arith, ints, h.near at d e, rank_sum_few p.known), omega (arith, ints, h.near at d e, rank_sum_few p.known))

-- a depth that comes to a place where nothing is followed
pub flowed_still_progress : (image : Image) (limit : ℕ) (p : Progress) (to : ℕ) → IsProgress image limit p → to < length image.code → IsKnown image limit to (One (pos 0)) → IsProgress image limit (flowed p (One (pos 0)) to)
flowed_still_progress image limit p to h stands known =
    let but : IsProgressBut image limit p (λ _. ⊥) = record { long = h.long; so = h.so; closed = λ from to i get flows. widen (h.closed from to i get flows); near = h.near; places = h.places } in
    let k = flowed_progress image limit p (λ _. ⊥) (One (pos 0)) to but stands known (λ d e. nothing d e) in
    record { long = k.long; so = k.so; closed = λ from to i get flows. narrow (k.closed from to i get flows); near = k.near; places = k.places }
  where
    widen : {A B : Type 0} → A ⊎ B → A ⊎ B ⊎ ⊥
    widen (inl a) = inl a
    widen (inr b) = inr (inl b)

    narrow : {A B : Type 0} → A ⊎ B ⊎ ⊥ → A ⊎ B
    narrow (inl a) = inl a
    narrow (inr (inl b)) = inr b
    narrow (inr (inr c)) = absurd c

    nothing : (d : ℤ) → One (pos 0) ≡ One d → unsigned_abs d ≤ 2 * rank_sum p.known + 2
    nothing d e =
        let same : pos 0 ≡ d = cc in
        omega (arith, ints, same)
