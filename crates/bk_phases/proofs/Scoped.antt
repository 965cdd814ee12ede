-- The scopes of a resolved substitution.
use Rattle.std.proofs.Common.{◌≡◌, ◌⊎◌, inl, inr, ℕ, suc, ◌+◌, ◌<◌, ◌≤◌, List, [], ◌∷◌, ◌++◌, length, map, refl, ap, subst, Bool, true, false, cond, ◌||◌, arith, nat_eq}
use Rattle.std.specs.Str.{bytes_eq}
use Rattle.std.proofs.lemmas.Bool.Decides.{nat_tests}
use Rattle.bk_gsl.specs.State.{among}
use Rattle.bk_dev.specs.Facts.{AreNew, AreDistinct}
use Rattle.bk_raw.specs.declared.term.RawName.{RawName}
use Rattle.bk_raw.specs.Trees.RawTree.{RawTrees, no_trees, tree_and}
use Rattle.bk_raw.specs.Trees.SubTree.{SubTree, sub, sub_skip, sub_assign, sub_assign_at, sub_member, sub_such, sub_call, sub_begin, sub_pre, sub_assert, sub_if, sub_choice, sub_select, sub_any, sub_let, sub_var, sub_while, sub_parallel, sub_sequence, Branches, no_branches, else_branch, branch_and, Choices, no_choices, choice_and}
use Rattle.bk_raw.specs.Meaning.Names.{Names, Meaning, local, global, set_name, element_name, nothing}
use Rattle.bk_statics.specs.Typings.{Target, target_in, target}
use Rattle.bk_phases.specs.Scope.{Local, with_numbers, numbers, in_scope, Written, written}
use Rattle.bk_phases.specs.Statement.{Statement, guard_at, choice_at, locals_of}
use Rattle.bk_phases.specs.Resolve.{Scope, declared, inside, after, holds, values_for, old_name, with_old, resolved, resolved_else, resolved_choices, resolved_branches}
use Rattle.bk_statics.specs.Settled.{IsSeen, AreSeen, IsBelow}
use Rattle.bk_phases.specs.Scoping.{IsTargetSeen, AreTargetsSeen, AreTermsSeen, seen_with, AreBound, IsScoped}

pub or-cases : (a b : Bool) → (a || b) ≡ true → (a ≡ true) ⊎ (b ≡ true)
or-cases true b h = inl refl
or-cases false b h = inr h

pub or-left : (a b : Bool) → a ≡ true → (a || b) ≡ true
or-left a b h = rw h refl

pub or-right : (a b : Bool) → b ≡ true → (a || b) ≡ true
or-right true b h = refl
or-right false b h = h

pub or-false : (a b : Bool) → a ≡ false → b ≡ false → (a || b) ≡ false
or-false a b h k = rw (h, k) refl

-- ---- numbers
range : (n : ℕ) (xs : List RawName) (m : ℕ) → among (numbers (with_numbers n xs)) m ≡ true → (n ≤ m) × (m < n + length xs)
range n [] m h = absurd (cc)
range n (x ∷ xs) m h = elim (or-cases (nat_eq m n) (among (numbers (with_numbers (suc n) xs)) m) h) [
  | inl e ↦ (let same : m ≡ n = grind (arith, nat_tests) in (omega arith, omega arith))
  | inr e ↦ (let next = range (suc n) xs m e in (omega arith, omega arith))
]

not-seen : (visible : ℕ → Bool) (n : ℕ) → IsBelow n visible → (c : Bool) → visible n ≡ c → visible n ≡ false
not-seen visible n h false e = e
not-seen visible n h true e = absurd (let l = h n e in omega arith)

new : (visible : ℕ → Bool) (n : ℕ) (xs : List RawName) → IsBelow n visible → AreNew visible (numbers (with_numbers n xs))
new visible n [] h = tt
new visible n (x ∷ xs) h = (not-seen visible n h (visible n) refl, new visible (suc n) xs (λ m e. let l = h m e in omega arith))

outside : (m n : ℕ) (xs : List RawName) → m < n → among (numbers (with_numbers n xs)) m ≡ false
outside m n [] h = refl
outside m n (x ∷ xs) h = or-false (nat_eq m n) (among (numbers (with_numbers (suc n) xs)) m) (grind (arith, nat_tests)) (outside m (suc n) xs (omega arith))

distinct : (n : ℕ) (xs : List RawName) → AreDistinct (numbers (with_numbers n xs))
distinct n [] = tt
distinct n (x ∷ xs) = (outside n (suc n) xs (omega arith), distinct (suc n) xs)

bound : (visible : ℕ → Bool) (n : ℕ) (xs : List RawName) → IsBelow n visible → AreBound visible (with_numbers n xs)
bound visible n xs h = record { new = new visible n xs h; distinct = distinct n xs }

with_numbers-length : (n : ℕ) (xs : List RawName) → length (with_numbers n xs) ≡ length xs
with_numbers-length n [] = refl
with_numbers-length n (x ∷ xs) = ap suc (with_numbers-length (suc n) xs)

below-more : (n k : ℕ) (visible : ℕ → Bool) → IsBelow n visible → IsBelow (n + k) visible
below-more n k visible h m e = let l = h m e in omega arith

below-inside : (n : ℕ) (xs : List RawName) (visible : ℕ → Bool) → IsBelow n visible → IsBelow (n + length (with_numbers n xs)) (seen_with (with_numbers n xs) visible)
below-inside n xs visible h m e = elim (or-cases (among (numbers (with_numbers n xs)) m) (visible m) e) [
  | inl a ↦ (let r = range n xs m a in let l = with_numbers-length n xs in omega (arith, r, l))
  | inr a ↦ (let l = h m a in omega arith)
]

-- ---- names
seen-one : (v w : ℕ → Bool) → ((n : ℕ) → v n ≡ true → w n ≡ true) → (m : Meaning) → IsSeen v m → IsSeen w m
seen-one v w f (local t) h = tt
seen-one v w f (global n t) h = f n h
seen-one v w f (set_name s) h = tt
seen-one v w f (element_name s e) h = tt
seen-one v w f nothing h = tt

seen-more : (v w : ℕ → Bool) → ((n : ℕ) → v n ≡ true → w n ≡ true) → (names : Names) → AreSeen v names → AreSeen w names
seen-more v w f [] h = tt
seen-more v w f (n ∷ ns) h = (seen-one v w f n.meaning h.0, seen-more v w f ns h.1)

seen-join : (v : ℕ → Bool) (xs ys : Names) → AreSeen v xs → AreSeen v ys → AreSeen v (xs ++ ys)
seen-join v [] ys h k = k
seen-join v (x ∷ xs) ys h k = (h.0, seen-join v xs ys h.1 k)

seen-locals : (w : ℕ → Bool) (zs : List Local) → ((n : ℕ) → among (numbers zs) n ≡ true → w n ≡ true) → AreSeen w (in_scope zs)
seen-locals w [] f = tt
seen-locals w (z ∷ zs) f = (
  f z.number (or-left (nat_eq z.number z.number) (among (numbers zs) z.number) (grind (arith, nat_tests))),
  seen-locals w zs (λ n e. f n (or-right (nat_eq n z.number) (among (numbers zs) n) e)),
)

inside-seen : (visible : ℕ → Bool) (zs : List Local) (names : Names) → AreSeen visible names → AreSeen (seen_with zs visible) (in_scope zs ++ names)
inside-seen visible zs names h =
    seen-join (seen_with zs visible) (in_scope zs) names
    (seen-locals (seen_with zs visible) zs (λ n e. or-left (among (numbers zs) n) (visible n) e))
    (seen-more visible (seen_with zs visible) (λ n e. or-right (among (numbers zs) n) (visible n) e) names h)

-- ---- what is written to
cond-seen : (v : ℕ → Bool) (b : Bool) (x y : Target) → IsTargetSeen v x → IsTargetSeen v y → IsTargetSeen v (cond b x y)
cond-seen v true x y h k = h
cond-seen v false x y h k = k

as-target : (v : ℕ → Bool) (m : Meaning) → IsSeen v m → IsTargetSeen v (target_in m)
as-target v (local t) h = tt
as-target v (global n t) h = h
as-target v (set_name s) h = tt
as-target v (element_name s e) h = tt
as-target v nothing h = tt

target-seen : (v : ℕ → Bool) (names : Names) (text : List ℕ) → AreSeen v names → IsTargetSeen v (target names text)
target-seen v [] text h = tt
target-seen v (n ∷ ns) text h = cond-seen v (bytes_eq n.text text) (target_in n.meaning) (target ns text) (as-target v n.meaning h.0) (target-seen v ns text h.1)

targets-seen : (v : ℕ → Bool) (names : Names) (xs : List RawName) → AreSeen v names → AreTargetsSeen v (map (written names) xs)
targets-seen v names [] h = tt
targets-seen v names (x ∷ xs) h = (target-seen v names x.text h, targets-seen v names xs h)

old-targets-seen : (v : ℕ → Bool) (names : Names) (n : ℕ) (xs : List RawName) → AreSeen v names → AreTargetsSeen v (map (λ (x : Written × Local). x.0) (with_old names n xs))
old-targets-seen v names n [] h = tt
old-targets-seen v names n (x ∷ xs) h = (target-seen v names x.text h, old-targets-seen v names (suc n) xs h)

-- what stands for old values
old-locals : (names : Names) (n : ℕ) (xs : List RawName) → with_numbers n (map old_name xs) ≡ map (λ (x : Written × Local). x.1) (with_old names n xs)
old-locals names n [] = refl
old-locals names n (x ∷ xs) = ap (λ l. record { name = old_name x; number = n } ∷ l) (old-locals names (suc n) xs)

values-seen : (v : ℕ → Bool) (names : Names) (xs : List RawName) (es : RawTrees) → AreSeen v names → AreTermsSeen v (values_for names xs es)
values-seen v names xs no_trees h = tt
values-seen v names [] (tree_and e es) h = (h, values-seen v names [] es h)
values-seen v names (x ∷ xs) (tree_and e es) h = (h, values-seen v names xs es h)

-- ---- substitutions
module _ (above : ℕ → Bool) where
  -- a scope's names may be seen, and have numbers below the next one
  record Admits (visible : ℕ → Bool) (c : Scope) : Type 0 where
    names : AreSeen visible c.names
    higher : AreSeen above c.above
    below : IsBelow c.next visible

  admits-inside : (visible : ℕ → Bool) (c : Scope) (xs : List RawName) → Admits visible c → Admits (seen_with (declared c xs) visible) (inside (declared c xs) c)
  admits-inside visible c xs a = record {
    names = inside-seen visible (declared c xs) c.names a.names;
    higher = a.higher;
    below = below-inside c.next xs visible a.below;
  }

  admits-after : (visible : ℕ → Bool) (c : Scope) (s : Statement) → Admits visible c → Admits visible (after s c)
  admits-after visible c s a = record { names = a.names; higher = a.higher; below = below-more c.next (length (locals_of s)) visible a.below }

  loop-seen : (visible : ℕ → Bool) (c : Scope) → Admits visible c → AreSeen (λ n. above n || visible n) (c.names ++ c.above)
  loop-seen visible c a =
      seen-join (λ n. above n || visible n) c.names c.above
      (seen-more visible (λ n. above n || visible n) (λ n e. or-right (above n) (visible n) e) c.names a.names)
      (seen-more above (λ n. above n || visible n) (λ n e. or-left (above n) (visible n) e) c.above a.higher)

  such-scoped : (visible : ℕ → Bool) (c : Scope) (xs : List RawName) → Admits visible c → AreBound visible (map (λ (x : Written × Local). x.1) (with_old c.names c.next xs)) × AreSeen (seen_with (map (λ (x : Written × Local). x.1) (with_old c.names c.next xs)) visible) (in_scope (declared c (map old_name xs)) ++ c.names)
  such-scoped visible c xs a =
      let e = old-locals c.names c.next xs in (
        subst (AreBound visible) e (bound visible c.next (map old_name xs) a.below),
        subst (λ zs. AreSeen (seen_with zs visible) (in_scope (declared c (map old_name xs)) ++ c.names)) e (inside-seen visible (declared c (map old_name xs)) c.names a.names),
      )

  mutual
    scoped : (s : SubTree) (c : Scope) (visible : ℕ → Bool) → Admits visible c → IsScoped visible above (resolved c s)
    scoped (sub at sub_skip) c visible a = tt
    scoped (sub at (sub_assign xs es)) c visible a = (targets-seen visible c.names xs a.names, values-seen visible c.names xs es a.names)
    scoped (sub at (sub_assign_at f e v)) c visible a = (target-seen visible c.names f.text a.names, a.names, a.names)
    scoped (sub at (sub_member x e)) c visible a = (target-seen visible c.names x.text a.names, bound visible c.next (x ∷ []) a.below, a.names)
    scoped (sub at (sub_such xs p)) c visible a = let r = such-scoped visible c xs a in (old-targets-seen visible c.names c.next xs a.names, r.0, r.1)
    scoped (sub at (sub_call xs o es)) c visible a = values-seen visible c.names [] es a.names
    scoped (sub at (sub_begin s)) c visible a = scoped s c visible a
    scoped (sub at (sub_pre p s)) c visible a = (a.names, scoped s c visible a)
    scoped (sub at (sub_assert p s)) c visible a = (a.names, scoped s c visible a)
    scoped (sub at (sub_if p s bs)) c visible a = (a.names, scoped s c visible a, else-scoped bs at (after (resolved c s) c) visible (admits-after visible c (resolved c s) a))
    scoped (sub at (sub_choice s cs)) c visible a = choices-scoped cs at (after (resolved c s) c) (resolved c s) visible (admits-after visible c (resolved c s) a) (scoped s c visible a)
    scoped (sub at (sub_select p s bs)) c visible a = branches-scoped bs at (after (resolved c s) c) (guard_at at (holds c p) (resolved c s)) visible (admits-after visible c (resolved c s) a) (a.names, scoped s c visible a)
    scoped (sub at (sub_any xs p s)) c visible a = let b = admits-inside visible c xs a in (bound visible c.next xs a.below, b.names, scoped s (inside (declared c xs) c) (seen_with (declared c xs) visible) b)
    scoped (sub at (sub_let xs p s)) c visible a = let b = admits-inside visible c xs a in (bound visible c.next xs a.below, b.names, scoped s (inside (declared c xs) c) (seen_with (declared c xs) visible) b)
    scoped (sub at (sub_var xs s)) c visible a = (bound visible c.next xs a.below, scoped s (inside (declared c xs) c) (seen_with (declared c xs) visible) (admits-inside visible c xs a))
    scoped (sub at (sub_while p s i v)) c visible a = (a.names, scoped s c visible a, loop-seen visible c a, loop-seen visible c a)
    scoped (sub at (sub_parallel s t)) c visible a = (scoped s c visible a, scoped t (after (resolved c s) c) visible (admits-after visible c (resolved c s) a))
    scoped (sub at (sub_sequence s t)) c visible a = (scoped s c visible a, scoped t (after (resolved c s) c) visible (admits-after visible c (resolved c s) a))

    else-scoped : (bs : Branches) (at : ℕ) (c : Scope) (visible : ℕ → Bool) → Admits visible c → IsScoped visible above (resolved_else at c bs)
    else-scoped no_branches at c visible a = tt
    else-scoped (else_branch s) at c visible a = scoped s c visible a
    else-scoped (branch_and p s bs) at c visible a = (a.names, scoped s c visible a, else-scoped bs at (after (resolved c s) c) visible (admits-after visible c (resolved c s) a))

    choices-scoped : (cs : Choices) (at : ℕ) (c : Scope) (before : Statement) (visible : ℕ → Bool) → Admits visible c → IsScoped visible above before → IsScoped visible above (resolved_choices at c before cs)
    choices-scoped no_choices at c before visible a b = b
    choices-scoped (choice_and s cs) at c before visible a b =
        choices-scoped cs at (after (resolved c s) c) (choice_at at before (resolved c s)) visible (admits-after visible c (resolved c s) a) (b, scoped s c visible a)

    branches-scoped : (bs : Branches) (at : ℕ) (c : Scope) (before : Statement) (visible : ℕ → Bool) → Admits visible c → IsScoped visible above before → IsScoped visible above (resolved_branches at c before bs)
    branches-scoped no_branches at c before visible a b = b
    branches-scoped (else_branch s) at c before visible a b = (b, scoped s c visible a)
    branches-scoped (branch_and p s bs) at c before visible a b =
        branches-scoped bs at (after (resolved c s) c) (choice_at at before (guard_at at (holds c p) (resolved c s))) visible (admits-after visible c (resolved c s) a) (b, (a.names, scoped s c visible a))

pub scopes-right : (visible above : ℕ → Bool) (c : Scope) → AreSeen visible c.names → AreSeen above c.above → IsBelow c.next visible → (s : SubTree) → IsScoped visible above (resolved c s)
scopes-right visible above c h k b s = scoped above s c visible (record { names = h; higher = k; below = b })
