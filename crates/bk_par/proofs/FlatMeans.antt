-- The rewriting of || by copies keeps the runs and where they end.
use Rattle.std.proofs.Common.{◌≡◌, ◌⊎◌, inl, inr, ◌<◌, ◌≤◌, ℕ, zero, suc, ◌+◌, List, [], ◌∷◌, ◌++◌, length, length-append, refl, sym, ◌∙◌, ap, subst, Bool, true, false, cond, ◌||◌, nat_eq, arith}
use Rattle.bk_val.specs.Value.{MathValue}
use Rattle.bk_form.specs.Table.{Table, IsWellFormed}
use Rattle.bk_form.specs.Search.{Finder}
use Rattle.bk_form.specs.Environment.{State, IsTypedState}
use Rattle.bk_form.specs.Wider.{IsWider}
use Rattle.bk_form.proofs.Members.{or-cases}
use Rattle.bk_gsl.specs.Substitution.{Substitution, skip, assign, pre, guard, choice, if_else, any, seq, par, assert, becomes_such, loop}
use Rattle.bk_gsl.specs.State.{holds, are_values_for, with_values, among, firsts}
use Rattle.bk_gsl.specs.Writes.{written, writes}
use Rattle.bk_gsl.specs.Run.{Turns, Bounded, Runs, Ends}
use Rattle.bk_gsl.specs.Clean.{Reached}
use Rattle.bk_gsl.specs.Typed.{IsListed, AreListed, Types}
use Rattle.bk_gsl.specs.Avoids.{Avoids}
use Rattle.bk_gsl.specs.Flat.{copies_from, copied, flat_from, flat_table}
use Rattle.bk_gsl.proofs.States.{cases, clash, or-false, nat_eq-same, among-both, among-in_order, with_values-typed}
use Rattle.bk_gsl.proofs.Runs.{run-typed}
use Rattle.bk_gsl.proofs.Outside.{avoids}
use Rattle.bk_gsl.proofs.Listed.{written-listed}
use Rattle.bk_gsl.proofs.WiderRuns.{holds-wider, values-for, runs-wider, runs_wider, ends_wider}
use Rattle.bk_par.specs.Overlaps.{shared, overlaps}
use Rattle.bk_par.specs.Bindings.{bound_in, BindsApart}
use Rattle.bk_par.specs.Lefts.{LeftsRun}
use Rattle.bk_par.specs.Laws.{DoesTheSame, FlatDoesTheSame}
use Rattle.bk_par.proofs.OtherNames.{false-of, flat-flat, flat-written, leaves}
use Rattle.bk_par.proofs.Numbers.{seconds-copies, first-between, firsts-distinct, CopiesAt, copies-left, copies-right, listed-below, bound-listed, flat-bound, from, from-at, from-then, avoids-fewer, flat-avoids}
use Rattle.bk_par.proofs.FlatTypes.{flat-wider, flat-copies}
use Rattle.bk_par.proofs.Sides.{Copies, par-runs, par-back, par-ends, par-ends-back}

-- ---- sides that write different variables
shared-none : (xs ys : List ℕ) (n : ℕ) → among (shared xs ys) n ≡ false → among xs n ≡ true → among ys n ≡ false
shared-none [] ys n h k = absurd (cc)
shared-none (x ∷ xs) ys n h k = by_test (λ l m. shared-none xs ys n l m) (among ys x) refl h (or-cases (nat_eq n x) (among xs n) k)
  where
    same : nat_eq n x ≡ true → n ≡ x
    same e = nat_eq-same n x e

    by_test : (among (shared xs ys) n ≡ false → among xs n ≡ true → among ys n ≡ false) → (b : Bool) → among ys x ≡ b → among (cond b (x ∷ shared xs ys) (shared xs ys)) n ≡ false → (nat_eq n x ≡ true) ⊎ (among xs n ≡ true) → among ys n ≡ false
    by_test on true q l (inl m) = clash (nat_eq n x) m (or-false (nat_eq n x) (among (shared xs ys) n) l).0
    by_test on true q l (inr m) = on (or-false (nat_eq n x) (among (shared xs ys) n) l).1 m
    by_test on false q l (inl m) = ap (among ys) (same m) ∙ q
    by_test on false q l (inr m) = on l m

-- none of the variables is written by both sides of some ||
abbrev pub SidesDiffer : Substitution → Type 0
SidesDiffer s = (n : ℕ) → among (overlaps s) n ≡ false

differ-left : (xs ys : List ℕ) → ((n : ℕ) → among (xs ++ ys) n ≡ false) → (n : ℕ) → among xs n ≡ false
differ-left xs ys h n = (among-both xs ys n (h n)).0

differ-right : (xs ys : List ℕ) → ((n : ℕ) → among (xs ++ ys) n ≡ false) → (n : ℕ) → among ys n ≡ false
differ-right xs ys h n = (among-both xs ys n (h n)).1

-- the three parts of ||
par-left : (s t : Substitution) → SidesDiffer (par s t) → SidesDiffer s
par-left s t h = differ-left (overlaps s) (overlaps t) (differ-left (overlaps s ++ overlaps t) (shared (writes s) (writes t)) h)

par-right : (s t : Substitution) → SidesDiffer (par s t) → SidesDiffer t
par-right s t h = differ-right (overlaps s) (overlaps t) (differ-left (overlaps s ++ overlaps t) (shared (writes s) (writes t)) h)

par-apart : (s t : Substitution) → SidesDiffer (par s t) → (n : ℕ) → among (written s) n ≡ true → among (written t) n ≡ false
par-apart s t h n k = sym (among-in_order (written t) n) ∙ shared-none (writes s) (writes t) n (differ-right (overlaps s ++ overlaps t) (shared (writes s) (writes t)) h n) (among-in_order (written s) n ∙ k)

-- ---- loops
turns-map : (typed : State → Type 0) (run see : State → State → Type 0) (test : State → Bool) → ((e f : State) → typed e → run e f → see e f × typed f) → (n : ℕ) (e f : State) → typed e → Turns run test n e f → Turns see test n e f
turns-map typed run see test h zero e f o q = q
turns-map typed run see test h (suc n) e f o q = let w = h e q.1.0 o q.1.1 in (q.0, (q.1.0, w.0, turns-map typed run see test h n q.1.0 f w.1 q.1.2))

turns-back : (run see : State → State → Type 0) (test : State → Bool) → ((e f : State) → run e f → see e f) → (n : ℕ) (e f : State) → Turns run test n e f → Turns see test n e f
turns-back run see test h zero e f q = q
turns-back run see test h (suc n) e f q = (q.0, (q.1.0, h e q.1.0 q.1.1, turns-back run see test h n q.1.0 f q.1.2))

bounded-map : (run see : State → State → Type 0) (end ending : State → Type 0) (test : State → Bool) → ((e f : State) → see e f → run e f) → ((e : State) → end e → ending e) → (n : ℕ) (e : State) → Bounded run end test n e → Bounded see ending test n e
bounded-map run see end ending test h m zero e q = q
bounded-map run see end ending test h m (suc n) e q = elim q [
  | inl x ↦ inl x
  | inr x ↦ inr (m e x.0, λ f y. bounded-map run see end ending test h m n f (x.1 f (h e f y)))
]

bounded-back : (typed : State → Type 0) (run see : State → State → Type 0) (end ending : State → Type 0) (test : State → Bool) (L : State → Type 0) → ((e f : State) → typed e → run e f → see e f × typed f) → ((e f : State) → L e → test e ≡ true → run e f → L f) → ((e : State) → typed e → L e → test e ≡ true → ending e → end e) → (n : ℕ) (e : State) → typed e → L e → Bounded see ending test n e → Bounded run end test n e
bounded-back typed run see end ending test L h c m zero e o l q = q
bounded-back typed run see end ending test L h c m (suc n) e o l q = elim (cases (test e)) [
  | inr x ↦ inl x
  | inl x ↦ elim q [
    | inl y ↦ clash (test e) x y
    | inr y ↦ inr (m e o l x y.0, λ f r. let w = h e f o r in bounded-back typed run see end ending test L h c m n f w.1 (c e f l x r) (y.1 f w.0))
  ]
]

-- ---- over the table with all copies
module _ (find : Finder) (small wide : Table) (well : IsWellFormed small) (wider : IsWider small wide) where
  abbrev limit : ℕ
  limit = length small.variables

  -- what the small table does not list has no smaller number
  unlisted : (n : ℕ) → from limit n ≡ true → IsListed small n → ⊥
  unlisted n o l = let below : n < limit = listed-below small n l in let above : limit ≤ n = from-then limit n o in omega (arith, below, above)

  old : (s : Substitution) → Types small s → Avoids (from limit) s
  old s w = avoids small (from limit) unlisted s w

  written-below : (s : Substitution) → Types small s → (n : ℕ) → among (written s) n ≡ true → n < limit
  written-below s w n h = listed-below small n (written-listed small s w n h)

  keeps : (s : Substitution) → Types small s → (e g : State) → IsTypedState small e → Runs find wide s e g → IsTypedState small g
  keeps s w e g o q = run-typed find small well s w e g o ((runs_wider small wide well wider find s w e g).0 q)

  sets : (zs : List ℕ) → AreListed small zs → (vs : List MathValue) → are_values_for wide zs vs ≡ true → (e : State) → IsTypedState small e → IsTypedState small (with_values e zs vs)
  sets zs l vs d e o = with_values-typed small e o zs vs (sym (values-for small wide well wider find zs l vs) ∙ d)

  -- what the sides of a || and its copies are
  module _ (k : ℕ) (m : limit ≤ k) (s t : Substitution) (w : Types small (par s t)) (d : SidesDiffer (par s t)) (b : BindsApart (par s t)) where
    abbrev j : ℕ
    j = k + length (copied s) + length (copied t)

    abbrev isc : ℕ → Bool
    isc n = among (firsts (copies_from j (writes s))) n

    abbrev off : ℕ → Bool
    off n = among (written s) n || isc n

    places : k + length (copied s ++ copied t) ≡ j
    places = omega (arith, length-append (copied s) (copied t))

    -- an old number is no copy
    unlike : (n : ℕ) → n < limit → isc n ≡ false
    unlike n h = false-of (isc n) (λ q. let l : j ≤ n = first-between j (writes s) n q in omega (arith, l, h, m))

    keeps_written : (n : ℕ) → off n ≡ true → among (written (flat_from (k + length (copied s)) t)) n ≡ false
    keeps_written n o = false-of (among (written (flat_from (k + length (copied s)) t)) n) (λ q. elim (or-cases (among (written s) n) (isc n) o) [
      | inl y ↦ clash (among (written t) n) (flat-written (k + length (copied s)) t n q) (par-apart s t d n y)
      | inr y ↦ clash (isc n) y (unlike n (written-below t w.1 n (flat-written (k + length (copied s)) t n q)))
    ])

    keeps_bound : (n : ℕ) → off n ≡ true → among (bound_in (flat_from (k + length (copied s)) t)) n ≡ false
    keeps_bound n o = false-of (among (bound_in (flat_from (k + length (copied s)) t)) n) (λ q. elim (flat-bound (k + length (copied s)) t n q) [
      | inl p ↦ elim (or-cases (among (written s) n) (isc n) o) [
        | inl y ↦ clash (among (bound_in t) n) p (b.2 n y)
        | inr y ↦ clash (isc n) y (unlike n (listed-below small n (bound-listed small t w.1 n p)))
      ]
      | inr p ↦ elim (or-cases (among (written s) n) (isc n) o) [
        | inl y ↦ let l : n < limit = written-below s w.0 n y in omega (arith, l, p.0, m)
        | inr y ↦ let l : j ≤ n = first-between j (writes s) n y in omega (arith, l, p.1)
      ]
    ])

    copies-of : CopiesAt wide k (copied (par s t)) → Copies small wide (copies_from (k + length (copied s) + length (copied t)) (writes s)) (flat_from k s) (flat_from (k + length (copied s)) t) (λ n. among (written s) n)
    copies-of c = record {
      of_writes = λ n. ap (λ xs. among xs n) (seconds-copies j (writes s)) ∙ among-in_order (written s) n;
      distinct = firsts-distinct j (writes s);
      apart = λ n h. unlike n (written-below s w.0 n h);
      typed = subst (λ x. CopiesAt wide x (writes s)) places (copies-right wide k (copied s ++ copied t) (writes s) c);
      listed = λ n h. written-listed small s w.0 n h;
      fresh_left = avoids-fewer (from (k + length (copied s))) isc (λ n h. from-at (k + length (copied s)) n (let l : j ≤ n = first-between j (writes s) n h in omega (arith, l))) (flat_from k s) (flat-avoids limit k m s (old s w.0));
      fresh_right = avoids-fewer (from j) isc (λ n h. from-at j n (first-between j (writes s) n h)) (flat_from (k + length (copied s)) t) (flat-avoids limit (k + length (copied s)) (omega (arith, m)) t (old t w.1));
      writes_left = λ n h. false-of (among (written (flat_from k s)) n) (λ q. clash (among (written s) n) (flat-written k s n q) h);
      leaves_right = leaves off (flat_from (k + length (copied s)) t) keeps_written keeps_bound;
      keeps_right = keeps_written;
    }

  abbrev left-copies : (k : ℕ) (s t : Substitution) → CopiesAt wide k (copied (par s t)) → CopiesAt wide k (copied s)
  left-copies k s t c = copies-left wide k (copied s) (copied t) (copies-left wide k (copied s ++ copied t) (writes s) c)

  abbrev right-copies : (k : ℕ) (s t : Substitution) → CopiesAt wide k (copied (par s t)) → CopiesAt wide (k + length (copied s)) (copied t)
  right-copies k s t c = copies-right wide k (copied s) (copied t) (copies-left wide k (copied s ++ copied t) (writes s) c)

  -- ---- runs
  pub runs-back : (k : ℕ) → limit ≤ k → (s : Substitution) → Types small s → SidesDiffer s → BindsApart s → CopiesAt wide k (copied s) → (e f : State) → Runs find wide (flat_from k s) e f → Runs find wide s e f
  runs-back k m skip w d b c e f q = q
  runs-back k m (assign ps) w d b c e f q = q
  runs-back k m (pre p s) w d b c e f q = runs-back k m s w.1 d b c e f q
  runs-back k m (guard p s) w d b c e f q = (q.0, runs-back k m s w.1 d b c e f q.1)
  runs-back k m (choice s t) w d b c e f q = elim q [
    | inl x ↦ inl (runs-back k m s w.0 (differ-left (overlaps s) (overlaps t) d) b.0 (copies-left wide k (copied s) (copied t) c) e f x)
    | inr x ↦ inr (runs-back (k + length (copied s)) (omega (arith, m)) t w.1 (differ-right (overlaps s) (overlaps t) d) b.1 (copies-right wide k (copied s) (copied t) c) e f x)
  ]
  runs-back k m (if_else p s t) w d b c e f q = elim q [
    | inl x ↦ inl (x.0, runs-back k m s w.1 (differ-left (overlaps s) (overlaps t) d) b.0 (copies-left wide k (copied s) (copied t) c) e f x.1)
    | inr x ↦ inr (x.0, runs-back (k + length (copied s)) (omega (arith, m)) t w.2 (differ-right (overlaps s) (overlaps t) d) b.1 (copies-right wide k (copied s) (copied t) c) e f x.1)
  ]
  runs-back k m (any zs s) w d b c e f q = (q.0, q.1, (q.2.0, runs-back k m s w.1 d b c (with_values e zs q.0) q.2.0 q.2.1, q.2.2))
  runs-back k m (seq s t) w d b c e f q = (
    q.0,
    runs-back k m s w.0 (differ-left (overlaps s) (overlaps t) d) b.0 (copies-left wide k (copied s) (copied t) c) e q.0 q.1,
    runs-back (k + length (copied s)) (omega (arith, m)) t w.1 (differ-right (overlaps s) (overlaps t) d) b.1 (copies-right wide k (copied s) (copied t) c) q.0 f q.2,
  )
  runs-back k m (par s t) w d b c e f q =
      let r = par-back find small wide well wider (λ n. among (written s) n) (copies_from (k + length (copied s) + length (copied t)) (writes s)) (flat_from k s) (flat_from (k + length (copied s)) t) (flat-flat (k + length (copied s)) t) (copies-of k m s t w d b c) e f q in (
        r.0,
        r.1,
        runs-back k m s w.0 (par-left s t d) b.0 (left-copies k s t c) e r.0 r.2,
        runs-back (k + length (copied s)) (omega (arith, m)) t w.1 (par-right s t d) b.1 (right-copies k s t c) e r.1 r.3,
        r.4,
      )
  runs-back k m (assert p s) w d b c e f q = runs-back k m s w.1 d b c e f q
  runs-back k m (becomes_such xs p) w d b c e f q = q
  runs-back k m (loop p s i v) w d b c e f q = (q.0, turns-back (Runs find wide (flat_from k s)) (Runs find wide s) (λ x. holds find wide x p) (λ x y r. runs-back k m s w.1 d b c x y r) q.0 e f q.1)

  pub runs-flat : (k : ℕ) → limit ≤ k → (s : Substitution) → Types small s → SidesDiffer s → BindsApart s → CopiesAt wide k (copied s) → (e f : State) → IsTypedState small e → Runs find wide s e f → Runs find wide (flat_from k s) e f
  runs-flat k m skip w d b c e f o q = q
  runs-flat k m (assign ps) w d b c e f o q = q
  runs-flat k m (pre p s) w d b c e f o q = runs-flat k m s w.1 d b c e f o q
  runs-flat k m (guard p s) w d b c e f o q = (q.0, runs-flat k m s w.1 d b c e f o q.1)
  runs-flat k m (choice s t) w d b c e f o q = elim q [
    | inl x ↦ inl (runs-flat k m s w.0 (differ-left (overlaps s) (overlaps t) d) b.0 (copies-left wide k (copied s) (copied t) c) e f o x)
    | inr x ↦ inr (runs-flat (k + length (copied s)) (omega (arith, m)) t w.1 (differ-right (overlaps s) (overlaps t) d) b.1 (copies-right wide k (copied s) (copied t) c) e f o x)
  ]
  runs-flat k m (if_else p s t) w d b c e f o q = elim q [
    | inl x ↦ inl (x.0, runs-flat k m s w.1 (differ-left (overlaps s) (overlaps t) d) b.0 (copies-left wide k (copied s) (copied t) c) e f o x.1)
    | inr x ↦ inr (x.0, runs-flat (k + length (copied s)) (omega (arith, m)) t w.2 (differ-right (overlaps s) (overlaps t) d) b.1 (copies-right wide k (copied s) (copied t) c) e f o x.1)
  ]
  runs-flat k m (any zs s) w d b c e f o q = (q.0, q.1, (q.2.0, runs-flat k m s w.1 d b c (with_values e zs q.0) q.2.0 (sets zs w.0 q.0 q.1 e o) q.2.1, q.2.2))
  runs-flat k m (seq s t) w d b c e f o q = (
    q.0,
    runs-flat k m s w.0 (differ-left (overlaps s) (overlaps t) d) b.0 (copies-left wide k (copied s) (copied t) c) e q.0 o q.1,
    runs-flat (k + length (copied s)) (omega (arith, m)) t w.1 (differ-right (overlaps s) (overlaps t) d) b.1 (copies-right wide k (copied s) (copied t) c) q.0 f (keeps s w.0 e q.0 o q.1) q.2,
  )
  runs-flat k m (par s t) w d b c e f o q =
      par-runs find small wide well wider (λ n. among (written s) n) (copies_from (k + length (copied s) + length (copied t)) (writes s)) (flat_from k s) (flat_from (k + length (copied s)) t) (flat-flat (k + length (copied s)) t) (copies-of k m s t w d b c) e o q.0 q.1 f
      (runs-flat k m s w.0 (par-left s t d) b.0 (left-copies k s t c) e q.0 o q.2)
      (runs-flat (k + length (copied s)) (omega (arith, m)) t w.1 (par-right s t d) b.1 (right-copies k s t c) e q.1 o q.3)
      q.4
  runs-flat k m (assert p s) w d b c e f o q = runs-flat k m s w.1 d b c e f o q
  runs-flat k m (becomes_such xs p) w d b c e f o q = q
  runs-flat k m (loop p s i v) w d b c e f o q = (q.0, turns-map (IsTypedState small) (Runs find wide s) (Runs find wide (flat_from k s)) (λ x. holds find wide x p) (λ x y n r. (runs-flat k m s w.1 d b c x y n r, keeps s w.1 x y n r)) q.0 e f o q.1)

  -- ---- where it ends
  pub ends-flat : (k : ℕ) → limit ≤ k → (s : Substitution) → Types small s → SidesDiffer s → BindsApart s → CopiesAt wide k (copied s) → (e : State) → Ends find wide s e → Ends find wide (flat_from k s) e
  ends-flat k m skip w d b c e q = q
  ends-flat k m (assign ps) w d b c e q = q
  ends-flat k m (pre p s) w d b c e q = (q.0, ends-flat k m s w.1 d b c e q.1)
  ends-flat k m (guard p s) w d b c e q = λ h. ends-flat k m s w.1 d b c e (q h)
  ends-flat k m (choice s t) w d b c e q = (
    ends-flat k m s w.0 (differ-left (overlaps s) (overlaps t) d) b.0 (copies-left wide k (copied s) (copied t) c) e q.0,
    ends-flat (k + length (copied s)) (omega (arith, m)) t w.1 (differ-right (overlaps s) (overlaps t) d) b.1 (copies-right wide k (copied s) (copied t) c) e q.1,
  )
  ends-flat k m (if_else p s t) w d b c e q = (
    (λ h. ends-flat k m s w.1 (differ-left (overlaps s) (overlaps t) d) b.0 (copies-left wide k (copied s) (copied t) c) e (q.0 h)),
    (λ h. ends-flat (k + length (copied s)) (omega (arith, m)) t w.2 (differ-right (overlaps s) (overlaps t) d) b.1 (copies-right wide k (copied s) (copied t) c) e (q.1 h)),
  )
  ends-flat k m (any zs s) w d b c e q = λ vs x. ends-flat k m s w.1 d b c (with_values e zs vs) (q vs x)
  ends-flat k m (seq s t) w d b c e q = (
    ends-flat k m s w.0 (differ-left (overlaps s) (overlaps t) d) b.0 (copies-left wide k (copied s) (copied t) c) e q.0,
    λ g r. ends-flat (k + length (copied s)) (omega (arith, m)) t w.1 (differ-right (overlaps s) (overlaps t) d) b.1 (copies-right wide k (copied s) (copied t) c) g
        (q.1 g (runs-back k m s w.0 (differ-left (overlaps s) (overlaps t) d) b.0 (copies-left wide k (copied s) (copied t) c) e g r)),
  )
  ends-flat k m (par s t) w d b c e q =
      par-ends find small wide well wider (λ n. among (written s) n) (copies_from (k + length (copied s) + length (copied t)) (writes s)) (flat_from k s) (flat_from (k + length (copied s)) t) (flat-flat (k + length (copied s)) t) (copies-of k m s t w d b c) e
      (ends-flat k m s w.0 (par-left s t d) b.0 (left-copies k s t c) e q.0)
      (ends-flat (k + length (copied s)) (omega (arith, m)) t w.1 (par-right s t d) b.1 (right-copies k s t c) e q.1)
  ends-flat k m (assert p s) w d b c e q = (q.0, ends-flat k m s w.1 d b c e q.1)
  ends-flat k m (becomes_such xs p) w d b c e q = q
  ends-flat k m (loop p s i v) w d b c e q = (q.0, bounded-map (Runs find wide s) (Runs find wide (flat_from k s)) (Ends find wide s) (Ends find wide (flat_from k s)) (λ x. holds find wide x p) (λ x y r. runs-back k m s w.1 d b c x y r) (λ x r. ends-flat k m s w.1 d b c x r) q.0 e q.1)

  pub ends-back : (k : ℕ) → limit ≤ k → (s : Substitution) → Types small s → SidesDiffer s → BindsApart s → CopiesAt wide k (copied s) → (e : State) → IsTypedState small e → LeftsRun find wide s e → Ends find wide (flat_from k s) e → Ends find wide s e
  ends-back k m skip w d b c e o l q = q
  ends-back k m (assign ps) w d b c e o l q = q
  ends-back k m (pre p s) w d b c e o l q = (q.0, ends-back k m s w.1 d b c e o (l q.0) q.1)
  ends-back k m (guard p s) w d b c e o l q = λ h. ends-back k m s w.1 d b c e o (l h) (q h)
  ends-back k m (choice s t) w d b c e o l q = (
    ends-back k m s w.0 (differ-left (overlaps s) (overlaps t) d) b.0 (copies-left wide k (copied s) (copied t) c) e o l.0 q.0,
    ends-back (k + length (copied s)) (omega (arith, m)) t w.1 (differ-right (overlaps s) (overlaps t) d) b.1 (copies-right wide k (copied s) (copied t) c) e o l.1 q.1,
  )
  ends-back k m (if_else p s t) w d b c e o l q = (
    (λ h. ends-back k m s w.1 (differ-left (overlaps s) (overlaps t) d) b.0 (copies-left wide k (copied s) (copied t) c) e o (l.0 h) (q.0 h)),
    (λ h. ends-back (k + length (copied s)) (omega (arith, m)) t w.2 (differ-right (overlaps s) (overlaps t) d) b.1 (copies-right wide k (copied s) (copied t) c) e o (l.1 h) (q.1 h)),
  )
  ends-back k m (any zs s) w d b c e o l q = λ vs x. ends-back k m s w.1 d b c (with_values e zs vs) (sets zs w.0 vs x e o) (l vs x) (q vs x)
  ends-back k m (seq s t) w d b c e o l q = (
    ends-back k m s w.0 (differ-left (overlaps s) (overlaps t) d) b.0 (copies-left wide k (copied s) (copied t) c) e o l.0 q.0,
    λ g r. ends-back (k + length (copied s)) (omega (arith, m)) t w.1 (differ-right (overlaps s) (overlaps t) d) b.1 (copies-right wide k (copied s) (copied t) c) g (keeps s w.0 e g o r) (l.1 g r)
        (q.1 g (runs-flat k m s w.0 (differ-left (overlaps s) (overlaps t) d) b.0 (copies-left wide k (copied s) (copied t) c) e g o r)),
  )
  ends-back k m (par s t) w d b c e o l q =
      let z = par-ends-back find small wide well wider (λ n. among (written s) n) (copies_from (k + length (copied s) + length (copied t)) (writes s)) (flat_from k s) (flat_from (k + length (copied s)) t) (flat-flat (k + length (copied s)) t) (copies-of k m s t w d b c) e l.2.0 o
      (runs-flat k m s w.0 (par-left s t d) b.0 (left-copies k s t c) e l.2.0 o l.2.1) q in (
        ends-back k m s w.0 (par-left s t d) b.0 (left-copies k s t c) e o l.0 z.0,
        ends-back (k + length (copied s)) (omega (arith, m)) t w.1 (par-right s t d) b.1 (right-copies k s t c) e o l.1 z.1,
      )
  ends-back k m (assert p s) w d b c e o l q = (q.0, ends-back k m s w.1 d b c e o (l q.0) q.1)
  ends-back k m (becomes_such xs p) w d b c e o l q = q
  ends-back k m (loop p s i v) w d b c e o l q =
      let test : State → Bool = λ x. holds find wide x p in
      let L : State → Type 0 = λ x. (n : ℕ) (f : State) → Reached (Runs find wide s) test n x f → test f ≡ true → LeftsRun find wide s f in (
        q.0,
        bounded-back (IsTypedState small) (Runs find wide s) (Runs find wide (flat_from k s)) (Ends find wide s) (Ends find wide (flat_from k s)) test L
            (λ x y n r. (runs-flat k m s w.1 d b c x y n r, keeps s w.1 x y n r))
            (λ x y z h r n f a u. z (suc n) f (h, (y, r, a)) u)
            (λ x n z h r. ends-back k m s w.1 d b c x n (z 0 x refl h) r) q.0 e o l q.1,
      )

  -- ---- the left sides have results over the one table where they have over the other
  lefts-wider : (s : Substitution) → Types small s → (e : State) → LeftsRun find wide s e ≡ LeftsRun find small s e
  lefts-wider skip w e = refl
  lefts-wider (assign ps) w e = refl
  lefts-wider (pre p s) w e = λ i. holds-wider small wide well wider find e p w.0 i ≡ true → lefts-wider s w.1 e i
  lefts-wider (guard p s) w e = λ i. holds-wider small wide well wider find e p w.0 i ≡ true → lefts-wider s w.1 e i
  lefts-wider (choice s t) w e = λ i. lefts-wider s w.0 e i × lefts-wider t w.1 e i
  lefts-wider (if_else p s t) w e = λ i. (holds-wider small wide well wider find e p w.0 i ≡ true → lefts-wider s w.1 e i) × (holds-wider small wide well wider find e p w.0 i ≡ false → lefts-wider t w.2 e i)
  lefts-wider (any zs s) w e = λ i. (vs : List MathValue) → values-for small wide well wider find zs w.0 vs i ≡ true → lefts-wider s w.1 (with_values e zs vs) i
  lefts-wider (seq s t) w e = λ i. lefts-wider s w.0 e i × ((g : State) → runs-wider small wide well wider find s w.0 e g i → lefts-wider t w.1 g i)
  lefts-wider (par s t) w e = λ i. lefts-wider s w.0 e i × lefts-wider t w.1 e i × ((g : State) × runs-wider small wide well wider find s w.0 e g i)
  lefts-wider (assert p s) w e = λ i. holds-wider small wide well wider find e p w.0 i ≡ true → lefts-wider s w.1 e i
  lefts-wider (becomes_such xs p) w e = refl
  lefts-wider (loop p s j v) w e = λ i. (n : ℕ) (f : State) → Reached (λ x y. runs-wider small wide well wider find s w.1 x y i) (λ x. holds-wider small wide well wider find x p w.0 i) n e f → holds-wider small wide well wider find f p w.0 i ≡ true → lefts-wider s w.1 f i

moved : {A B : Type 0} → A ≡ B → B → A
moved {A} {B} p b = subst (λ X. X) (sym p) b

-- ---- the whole
module _ (table : Table) (well : IsWellFormed table) (s : Substitution) (w : Types table s) (b : BindsApart s) (none : overlaps s ≡ []) where
  abbrev wide : Table
  wide = flat_table table s

  abbrev first : ℕ
  first = length table.variables

  differ : SidesDiffer s
  differ n = ap (λ xs. among xs n) none

  copies : CopiesAt wide first (copied s)
  copies = flat-copies table well s w

  wider : IsWider table wide
  wider = flat-wider table s

  here : first ≤ first
  here = omega arith

  pub does-the-same : DoesTheSame table s
  does-the-same = record {
    runs = λ find e f o q. runs-flat find table wide well wider first here s w differ b copies e f o ((runs_wider table wide well wider find s w e f).1 q);
    no_more = λ find e f q. (runs_wider table wide well wider find s w e f).0 (runs-back find table wide well wider first here s w differ b copies e f q);
    ends = λ find e q. ends-flat find table wide well wider first here s w differ b copies e ((ends_wider table wide well wider find s w e).1 q);
    ends_back = λ find e o l q. (ends_wider table wide well wider find s w e).0 (ends-back find table wide well wider first here s w differ b copies e o (moved (lefts-wider find table wide well wider s w e) l) q);
  }

pub flat_does_the_same : FlatDoesTheSame
flat_does_the_same table well s w b none = does-the-same table well s w b none
