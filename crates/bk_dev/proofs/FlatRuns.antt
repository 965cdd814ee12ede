-- What the rewritten substitution runs, the substitution runs: from every state, whatever the copies hold.
use Rattle.std.proofs.Common.{◌≡◌, inl, inr, ◌<◌, ◌≤◌, ℕ, zero, suc, ◌+◌, List, [], ◌∷◌, ◌++◌, length, length-append, refl, sym, ◌∙◌, ap, subst, Bool, true, false, not, cond, ◌||◌, nat_eq, nat_lt, arith}
use Rattle.std.specs.List.{filter}
use Rattle.std.proofs.lemmas.Bool.Decides.{nat_tests}
use Rattle.bk_val.specs.Value.{MathValue}
use Rattle.bk_val.specs.CmpLaws.{same_value}
use Rattle.bk_form.specs.Table.{Table}
use Rattle.bk_form.specs.Formula.{Formula, variable, binary}
use Rattle.bk_form.specs.Search.{Finder}
use Rattle.bk_form.specs.Environment.{State, at_state}
use Rattle.bk_form.specs.Replacement.{looked_up, IsReplacement, renamed}
use Rattle.bk_form.specs.declared.operator.BinOp.TheVariants.{And}
use Rattle.bk_form.proofs.Members.{or-cases, or-left, or-right, and-both}
use Rattle.bk_form.proofs.Replaced.{meaning-replaced}
use Rattle.bk_gsl.specs.Substitution.{Substitution, skip, assign, pre, guard, choice, if_else, any, seq, par, assert, becomes_such, loop}
use Rattle.bk_gsl.specs.State.{holds, value_at, with_values, among, over, firsts}
use Rattle.bk_gsl.specs.Writes.{written, writes}
use Rattle.bk_gsl.specs.Run.{assigned, old_of, with_old, Turns, Runs}
use Rattle.bk_gsl.specs.Typed.{AreTypedPairs}
use Rattle.bk_form.specs.Predicates.{equation}
use Rattle.bk_gsl.specs.Flat.{renamed_terms, reading, copies_from, copy_of, equations_onto, by_copies, copied, flat_from, IsFlat}
use Rattle.bk_gsl.proofs.States.{cases, clash, or-false, nat_eq-same, nat_eq-self, over-at, over-off, with_values-out, with_values-same, among-both, among-without, among-in_order}
use Rattle.bk_gsl.proofs.Runs.{looked_up-out, outside}
use Rattle.bk_dev.specs.Facts.{StaysIn, seconds, binders}
use Rattle.bk_gsl.proofs.Outside.{runs-over}
use Rattle.bk_gsl.specs.Avoids.{NoneIn, Avoids}
use Rattle.bk_dev.proofs.Agree.{not-written}
use Rattle.bk_dev.proofs.Staying.{false-of, not-both, old-cases, all-at, Within, within-more, binders-new, stays-avoids}
use Rattle.bk_gsl.proofs.Reading.{among-cases, among-left, among-right, outside-then, among-outside}
use Rattle.bk_dev.proofs.Flattening.{flat-flat, flat-binders, flat-stays, CopiesAt, copies-left, copies-right, copies-replace, first-between, seconds-copies, all-from, below-new}

-- ---- what it writes
reading-written : (by : ℕ → ℕ) (s : Substitution) → written (reading by s) ≡ written s
reading-written by skip = refl
reading-written by (assign ps) = Rattle.bk_dev.proofs.Flattening.firsts-renamed by ps
reading-written by (pre p s) = reading-written by s
reading-written by (guard p s) = reading-written by s
reading-written by (choice s t) = λ i. reading-written by s i ++ reading-written by t i
reading-written by (if_else p s t) = λ i. reading-written by s i ++ reading-written by t i
reading-written by (any zs s) = ap (filter (λ n. not (among zs n))) (reading-written by s)
reading-written by (seq s t) = λ i. reading-written by s i ++ reading-written by t i
reading-written by (par s t) = λ i. reading-written by s i ++ reading-written by t i
reading-written by (assert p s) = reading-written by s
reading-written by (becomes_such xs p) = refl
reading-written by (loop p s i v) = reading-written by s

either : (xs ys zs ws : List ℕ) (n : ℕ) → (among xs n ≡ true → among zs n ≡ true) → (among ys n ≡ true → among ws n ≡ true) → among (xs ++ ys) n ≡ true → among (zs ++ ws) n ≡ true
either xs ys zs ws n f g h = elim (among-cases xs ys n h) [ inl q ↦ among-left zs ws n (f q) | inr q ↦ among-right zs ws n (g q) ]

filter-more : (zs xs ys : List ℕ) (n : ℕ) → (among xs n ≡ true → among ys n ≡ true) → among (filter (λ m. not (among zs m)) xs) n ≡ true → among (filter (λ m. not (among zs m)) ys) n ≡ true
filter-more zs xs ys n f h = let k = outside-then zs xs n h in among-outside zs ys n (f k.0) k.1

copies-written : (ps : List (ℕ × ℕ)) (s t : Substitution) (n : ℕ) → among (written (by_copies ps s t)) n ≡ true → among (written s ++ written t) n ≡ true
copies-written [] s t n h = h
copies-written (p ∷ ps) s t n h = subst (λ x. among (written s ++ x) n ≡ true) (reading-written (copy_of (p ∷ ps)) t) (outside-then (firsts (p ∷ ps)) (written s ++ written (reading (copy_of (p ∷ ps)) t)) n h).0

pub flat-written : (k : ℕ) (s : Substitution) (n : ℕ) → among (written (flat_from k s)) n ≡ true → among (written s) n ≡ true
flat-written k skip n h = h
flat-written k (assign ps) n h = h
flat-written k (pre p s) n h = flat-written k s n h
flat-written k (guard p s) n h = flat-written k s n h
flat-written k (choice s t) n h = either (written (flat_from k s)) (written (flat_from (k + length (copied s)) t)) (written s) (written t) n (flat-written k s n) (flat-written (k + length (copied s)) t n) h
flat-written k (if_else p s t) n h = either (written (flat_from k s)) (written (flat_from (k + length (copied s)) t)) (written s) (written t) n (flat-written k s n) (flat-written (k + length (copied s)) t n) h
flat-written k (any zs s) n h = filter-more zs (written (flat_from k s)) (written s) n (flat-written k s n) h
flat-written k (seq s t) n h = either (written (flat_from k s)) (written (flat_from (k + length (copied s)) t)) (written s) (written t) n (flat-written k s n) (flat-written (k + length (copied s)) t n) h
flat-written k (par s t) n h = either (written (flat_from k s)) (written (flat_from (k + length (copied s)) t)) (written s) (written t) n (flat-written k s n) (flat-written (k + length (copied s)) t n)
    (copies-written (copies_from (k + length (copied s) + length (copied t)) (writes s)) (flat_from k s) (flat_from (k + length (copied s)) t) n h)
flat-written k (assert p s) n h = flat-written k s n h
flat-written k (becomes_such xs p) n h = h
flat-written k (loop p s i v) n h = flat-written k s n h

-- ---- it neither writes nor binds what passes the test
abbrev pub Leaves : (ℕ → Bool) → Substitution → Type 0
Leaves off (assign ps) = NoneIn off (firsts ps)
Leaves off (pre p s) = Leaves off s
Leaves off (guard p s) = Leaves off s
Leaves off (choice s t) = Leaves off s × Leaves off t
Leaves off (if_else p s t) = Leaves off s × Leaves off t
Leaves off (any zs s) = NoneIn off zs × Leaves off s
Leaves off (seq s t) = Leaves off s × Leaves off t
Leaves off (par s t) = Leaves off s × Leaves off t
Leaves off (assert p s) = Leaves off s
Leaves off (becomes_such xs p) = NoneIn off (firsts xs) × ((n : ℕ) → off n ≡ true → old_of xs n ≡ n) × ((n : ℕ) → off n ≡ false → off (old_of xs n) ≡ false)
Leaves off (loop p s i v) = Leaves off s
Leaves off skip = Unit {0}

none-parts : (off : ℕ → Bool) (xs ys : List ℕ) → NoneIn off (xs ++ ys) → NoneIn off xs × NoneIn off ys
none-parts off xs ys h = ((λ n o. (among-both xs ys n (h n o)).0), (λ n o. (among-both xs ys n (h n o)).1))

old-out : (xs : List (ℕ × ℕ)) (n : ℕ) → among (seconds xs) n ≡ false → old_of xs n ≡ n
old-out [] n h = refl
old-out (x ∷ xs) n h = let k = or-false (nat_eq n x.1) (among (seconds xs) n) h in ap (λ b. cond b x.0 (old_of xs n)) k.0 ∙ old-out xs n k.1

pub leaves : (off : ℕ → Bool) (s : Substitution) → NoneIn off (written s) → NoneIn off (binders s) → Leaves off s
leaves off skip w b = tt
leaves off (assign ps) w b = w
leaves off (pre p s) w b = leaves off s w b
leaves off (guard p s) w b = leaves off s w b
leaves off (choice s t) w b = let k = none-parts off (written s) (written t) w in let m = none-parts off (binders s) (binders t) b in (leaves off s k.0 m.0, leaves off t k.1 m.1)
leaves off (if_else p s t) w b = let k = none-parts off (written s) (written t) w in let m = none-parts off (binders s) (binders t) b in (leaves off s k.0 m.0, leaves off t k.1 m.1)
leaves off (any zs s) w b = let m = none-parts off zs (binders s) b in (m.0, leaves off s (λ n o. among-without zs (written s) n (w n o) (m.0 n o)) m.1)
leaves off (seq s t) w b = let k = none-parts off (written s) (written t) w in let m = none-parts off (binders s) (binders t) b in (leaves off s k.0 m.0, leaves off t k.1 m.1)
leaves off (par s t) w b = let k = none-parts off (written s) (written t) w in let m = none-parts off (binders s) (binders t) b in (leaves off s k.0 m.0, leaves off t k.1 m.1)
leaves off (assert p s) w b = leaves off s w b
leaves off (becomes_such xs p) w b = (w, (λ n o. old-out xs n (b n o)), (λ n o. elim (old-cases xs n) [ inl q ↦ ap off q.1 ∙ o | inr q ↦ false-of (off (old_of xs n)) (λ k. not-both (among (firsts xs) (old_of xs n)) q (w (old_of xs n) k)) ]))
leaves off (loop p s i v) w b = leaves off s w b

-- ---- reading other names
looked_up-renamed : (by : ℕ → ℕ) (ps : List (ℕ × Formula)) (n : ℕ) → by n ≡ n → looked_up (renamed_terms by ps) n ≡ renamed by (looked_up ps n)
looked_up-renamed by [] n h = ap variable (sym h)
looked_up-renamed by (p ∷ ps) n h = by_test (nat_eq n p.0) (looked_up-renamed by ps n h)
  where
    by_test : (b : Bool) → looked_up (renamed_terms by ps) n ≡ renamed by (looked_up ps n) → cond b (renamed by p.1) (looked_up (renamed_terms by ps) n) ≡ renamed by (cond b p.1 (looked_up ps n))
    by_test true k = refl
    by_test false k = k

module _ (find : Finder) (table : Table) (off : ℕ → Bool) (by : ℕ → ℕ) (kept : IsReplacement table (λ n. variable (by n))) (stay : (n : ℕ) → off n ≡ false → by n ≡ n) (move : (n : ℕ) → off n ≡ true → off (by n) ≡ true) where
  abbrev seen : State → State
  seen e n = e (by n)

  holds-seen : (e : State) (p : Formula) → holds find table e (renamed by p) ≡ holds find table (seen e) p
  holds-seen e p = ap (λ m. m.truth) (meaning-replaced find (λ n. variable (by n)) (at_state table e) kept p)

  value-seen : (e : State) (p : Formula) → value_at find table e (renamed by p) ≡ value_at find table (seen e) p
  value-seen e p = ap (λ m. m.value) (meaning-replaced find (λ n. variable (by n)) (at_state table e) kept p)

  seen-assigned : (ps : List (ℕ × Formula)) → NoneIn off (firsts ps) → (e : State) → seen (assigned find table (renamed_terms by ps) e) ≡ assigned find table ps (seen e)
  seen-assigned ps l e = λ i n. at n i
    where
      at : (n : ℕ) → assigned find table (renamed_terms by ps) e (by n) ≡ assigned find table ps (seen e) n
      at n = elim (cases (off n)) [
        | inl h ↦ ap (value_at find table e) (looked_up-out (renamed_terms by ps) (by n) (ap (λ z. among z (by n)) (Rattle.bk_dev.proofs.Flattening.firsts-renamed by ps) ∙ l (by n) (move n h))) ∙ sym (ap (value_at find table (seen e)) (looked_up-out ps n (l n h)))
        | inr h ↦ ap (assigned find table (renamed_terms by ps) e) (stay n h) ∙ ap (value_at find table e) (looked_up-renamed by ps n (stay n h)) ∙ value-seen e (looked_up ps n)
      ]

  seen-set : (e : State) (zs : List ℕ) (vs : List MathValue) → NoneIn off zs → seen (with_values e zs vs) ≡ with_values (seen e) zs vs
  seen-set e zs vs l = λ i n. at n i
    where
      at : (n : ℕ) → with_values e zs vs (by n) ≡ with_values (seen e) zs vs n
      at n = elim (cases (off n)) [
        | inl h ↦ with_values-out e zs vs (by n) (l (by n) (move n h)) ∙ sym (with_values-out (seen e) zs vs n (l n h))
        | inr h ↦ ap (with_values e zs vs) (stay n h) ∙ with_values-same e (seen e) zs vs n (ap e (sym (stay n h)))
      ]

  seen-over : (zs : List ℕ) (d e : State) → NoneIn off zs → seen (over (among zs) d e) ≡ over (among zs) (seen d) (seen e)
  seen-over zs d e l = λ i n. at n i
    where
      at : (n : ℕ) → over (among zs) d e (by n) ≡ over (among zs) (seen d) (seen e) n
      at n = elim (cases (off n)) [
        | inl h ↦ over-off (among zs) d e (by n) (l (by n) (move n h)) ∙ sym (over-off (among zs) (seen d) (seen e) n (l n h))
        | inr h ↦ ap (λ m. cond (among zs m) (d (by n)) (e (by n))) (stay n h)
      ]

  seen-become : (xs : List (ℕ × ℕ)) (p : Formula) → NoneIn off (firsts xs) → ((n : ℕ) → off n ≡ true → old_of xs n ≡ n) → ((n : ℕ) → off n ≡ false → off (old_of xs n) ≡ false) → (e : State) (vs : List MathValue) → holds find table (with_old xs e vs) (renamed by p) ≡ holds find table (with_old xs (seen e) vs) p
  seen-become xs p l a b e vs =
      holds-seen (with_old xs e vs) p
      ∙ ap (λ x. holds find table x p) (seen-set (λ n. e (old_of xs n)) (firsts xs) vs l ∙ (λ i n. with_values-same (λ n. e (old_of xs (by n))) (λ n. seen e (old_of xs n)) (firsts xs) vs n (at n) i))
    where
      at : (n : ℕ) → e (old_of xs (by n)) ≡ e (by (old_of xs n))
      at n = elim (cases (off n)) [
        | inl h ↦ ap e (a (by n) (move n h)) ∙ sym (ap (λ m. e (by m)) (a n h))
        | inr h ↦ ap (λ m. e (old_of xs m)) (stay n h) ∙ sym (ap e (stay (old_of xs n) (b n h)))
      ]

  turns-seen : (run see : State → State → Type 0) (test seeing : State → Bool) → ((e : State) → test e ≡ seeing (seen e)) → ((e g : State) → run e g → see (seen e) (seen g)) → (n : ℕ) (e g : State) → Turns run test n e g → Turns see seeing n (seen e) (seen g)
  turns-seen run see test seeing h r zero e g q = (sym (h e) ∙ q.0, ap seen q.1)
  turns-seen run see test seeing h r (suc n) e g q = (sym (h e) ∙ q.0, (seen q.1.0, r e q.1.0 q.1.1, turns-seen run see test seeing h r n q.1.0 g q.1.2))

  pub runs-seen : (s : Substitution) → IsFlat s → Leaves off s → (e g : State) → Runs find table (reading by s) e g → Runs find table s (seen e) (seen g)
  runs-seen skip c l e g q = ap seen q
  runs-seen (assign ps) c l e g q = ap seen q ∙ seen-assigned ps l e
  runs-seen (pre p s) c l e g q = runs-seen s c l e g q
  runs-seen (guard p s) c l e g q = (sym (holds-seen e p) ∙ q.0, runs-seen s c l e g q.1)
  runs-seen (choice s t) c l e g q = elim q [ inl x ↦ inl (runs-seen s c.0 l.0 e g x) | inr x ↦ inr (runs-seen t c.1 l.1 e g x) ]
  runs-seen (if_else p s t) c l e g q = elim q [ inl x ↦ inl (sym (holds-seen e p) ∙ x.0, runs-seen s c.0 l.0 e g x.1) | inr x ↦ inr (sym (holds-seen e p) ∙ x.0, runs-seen t c.1 l.1 e g x.1) ]
  runs-seen (any zs s) c l e g q = (q.0, q.1, (seen q.2.0, subst (λ x. Runs find table s x (seen q.2.0)) (seen-set e zs q.0 l.0) (runs-seen s c l.1 (with_values e zs q.0) q.2.0 q.2.1), ap seen q.2.2 ∙ seen-over zs e q.2.0 l.0))
  runs-seen (seq s t) c l e g q = (seen q.0, runs-seen s c.0 l.0 e q.0 q.1, runs-seen t c.1 l.1 q.0 g q.2)
  runs-seen (par s t) c l e g q = absurd c
  runs-seen (assert p s) c l e g q = runs-seen s c l e g q
  runs-seen (becomes_such xs p) c l e g q = (q.0, q.1, sym (seen-become xs p l.0 l.1 l.2 e q.0) ∙ q.2, ap seen q.3 ∙ seen-set e (firsts xs) q.0 l.0)
  runs-seen (loop p s i v) c l e g q = (q.0, turns-seen (Runs find table (reading by s)) (Runs find table s) (λ x. holds find table x (renamed by p)) (λ x. holds find table x p) (λ x. holds-seen x p) (λ x y r. runs-seen s c l x y r) q.0 e g q.1)

-- ---- copies
abbrev EqualPairs : State → List (ℕ × ℕ) → Type 0
EqualPairs e [] = Unit {0}
EqualPairs e (p ∷ ps) = (e p.0 ≡ e p.1) × EqualPairs e ps

copied-at : (ps : List (ℕ × ℕ)) (e : State) → EqualPairs e ps → (n : ℕ) → e (copy_of ps n) ≡ e n
copied-at [] e h n = refl
copied-at (p ∷ ps) e h n = by_test (nat_eq n p.1) refl (copied-at ps e h.1 n)
  where
    by_test : (b : Bool) → nat_eq n p.1 ≡ b → e (copy_of ps n) ≡ e n → e (cond b p.0 (copy_of ps n)) ≡ e n
    by_test true k l = h.0 ∙ ap e (sym (nat_eq-same n p.1 k))
    by_test false k l = l

copy-out : (ps : List (ℕ × ℕ)) (n : ℕ) → among (seconds ps) n ≡ false → copy_of ps n ≡ n
copy-out [] n h = refl
copy-out (p ∷ ps) n h = let k = or-false (nat_eq n p.1) (among (seconds ps) n) h in ap (λ b. cond b p.0 (copy_of ps n)) k.0 ∙ copy-out ps n k.1

copy-in : (ps : List (ℕ × ℕ)) (n : ℕ) → among (seconds ps) n ≡ true → among (firsts ps) (copy_of ps n) ≡ true
copy-in [] n h = absurd (cc)
copy-in (p ∷ ps) n h = by_test (λ l. copy-in ps n l) (nat_eq n p.1) h
  where
    by_test : (among (seconds ps) n ≡ true → among (firsts ps) (copy_of ps n) ≡ true) → (b : Bool) → (b || among (seconds ps) n) ≡ true → (nat_eq (cond b p.0 (copy_of ps n)) p.0 || among (firsts ps) (cond b p.0 (copy_of ps n))) ≡ true
    by_test on true l = or-left (nat_eq p.0 p.0) (among (firsts ps) p.0) (nat_eq-self p.0)
    by_test on false l = or-right (nat_eq (copy_of ps n) p.0) (among (firsts ps) (copy_of ps n)) (on l)

equations-then : (find : Finder) (table : Table) (e : State) (ps : List (ℕ × ℕ)) (f : Formula) → holds find table e (equations_onto f ps) ≡ true → (holds find table e f ≡ true) × EqualPairs e ps
equations-then find table e [] f h = (h, tt)
equations-then find table e (p ∷ ps) f h =
    let k = equations-then find table e ps (binary And f (equation p)) h in
    let w = and-both (holds find table e f) (holds find table e (equation p)) k.0 in
    (w.0, (same_value (e p.0) (e p.1) w.1, k.1))

-- the copies are new, of the types of the variables that s writes; t neither writes nor binds those
pub record Copies (table : Table) (ps : List (ℕ × ℕ)) (s t : Substitution) (isx : ℕ → Bool) : Type 0 where
  pub of_writes : (n : ℕ) → among (seconds ps) n ≡ isx n
  pub apart : (n : ℕ) → isx n ≡ true → among (firsts ps) n ≡ false
  pub typed : AreTypedPairs table ps
  pub fresh_left : Avoids (λ n. among (firsts ps) n) s
  pub fresh_right : Avoids (λ n. among (firsts ps) n) t
  pub kept_left : NoneIn (λ n. among (firsts ps) n) (written s)
  pub kept_right : NoneIn (λ n. among (firsts ps) n) (written t)
  pub writes_left : (n : ℕ) → isx n ≡ false → among (written s) n ≡ false
  pub leaves_right : Leaves (λ n. isx n || among (firsts ps) n) t
  pub keeps_right : NoneIn (λ n. isx n || among (firsts ps) n) (written t)

module _ (find : Finder) (table : Table) (ps : List (ℕ × ℕ)) (s t : Substitution) (isx : ℕ → Bool) (flat : IsFlat t) (g : Copies table ps s t isx) where
  abbrev isc : ℕ → Bool
  isc n = among (firsts ps) n

  abbrev off : ℕ → Bool
  off n = isx n || isc n

  abbrev by : ℕ → ℕ
  by n = copy_of ps n

  by-out : (n : ℕ) → isx n ≡ false → by n ≡ n
  by-out n h = copy-out ps n (g.of_writes n ∙ h)

  by-in : (n : ℕ) → isx n ≡ true → isc (by n) ≡ true
  by-in n h = copy-in ps n (g.of_writes n ∙ h)

  stays : (n : ℕ) → off n ≡ false → by n ≡ n
  stays n h = by-out n (or-false (isx n) (isc n) h).0

  moves : (n : ℕ) → off n ≡ true → off (by n) ≡ true
  moves n h = elim (cases (isx n)) [
    | inl k ↦ or-right (isx (by n)) (isc (by n)) (by-in n k)
    | inr k ↦ subst (λ m. off m ≡ true) (sym (by-out n k)) h
  ]

  module _ (e d : State) (at : (n : ℕ) → isc n ≡ false → d n ≡ e n) (h : (n : ℕ) → d (by n) ≡ d n) where
    -- where s has run from d, the right side reads what d has
    seen-left : (a : State) → Runs find table s d a → (λ n. a (by n)) ≡ d
    seen-left a r = λ i n. here n i
      where
        here : (n : ℕ) → a (by n) ≡ d n
        here n = elim (cases (isx n)) [
          | inl k ↦ outside find table s d a r (by n) (g.kept_left (by n) (by-in n k)) ∙ h n
          | inr k ↦ ap a (by-out n k) ∙ outside find table s d a r n (g.writes_left n k)
        ]

    from-copy : over isc e d ≡ e
    from-copy = λ i n. here n i
      where
        here : (n : ℕ) → over isc e d n ≡ e n
        here n = elim (cases (isc n)) [ inl k ↦ over-at isc e d n k | inr k ↦ over-off isc e d n k ∙ at n k ]

    join-runs : (a c : State) → Runs find table s d a → Runs find table (reading (copy_of ps) t) a c → Runs find table s e (over isc e a) × Runs find table t e (over isc e (λ n. c (by n))) × (over isc e c ≡ over isx (over isc e a) (over isc e (λ n. c (by n))))
    join-runs a c p q =
        let pa = subst (λ x. Runs find table s x (over isc e a)) from-copy (runs-over find table isc s g.fresh_left e d a p) in
        let r = subst (λ x. Runs find table t x (λ n. c (by n))) (seen-left a p) (runs-seen find table off (copy_of ps) (copies-replace table ps g.typed) stays moves t flat g.leaves_right a c q) in
        let pb = subst (λ x. Runs find table t x (over isc e (λ n. c (by n)))) from-copy (runs-over find table isc t g.fresh_right e d (λ n. c (by n)) r) in
        (pa, pb, λ i n. join n i)
      where
        join : (n : ℕ) → over isc e c n ≡ over isx (over isc e a) (over isc e (λ n. c (by n))) n
        join n = elim (cases (isx n)) [
          | inl l ↦ over-off isc e c n (g.apart n l) ∙ outside find table (reading (copy_of ps) t) a c q n (ap (λ z. among z n) (reading-written (copy_of ps) t) ∙ g.keeps_right n (or-left (isx n) (isc n) l)) ∙ sym (over-at isx (over isc e a) (over isc e (λ n. c (by n))) n l ∙ over-off isc e a n (g.apart n l))
          | inr l ↦ ap (cond (isc n) (e n)) (ap c (sym (by-out n l))) ∙ sym (over-off isx (over isc e a) (over isc e (λ n. c (by n))) n l)
        ]

-- || by copies runs as both sides from one state
par-back : (find : Finder) (table : Table) (ps : List (ℕ × ℕ)) (s t : Substitution) (isx : ℕ → Bool) → IsFlat t → Copies table ps s t isx → (e x : State) → Runs find table (by_copies ps s t) e x → (a b : State) × Runs find table s e a × Runs find table t e b × (x ≡ over isx a b)
par-back find table [] s t isx flat g e x q =
    let same : q.0 ≡ e = λ i n. outside find table s e q.0 q.1 n (g.writes_left n (sym (g.of_writes n))) i in
    (q.0, x, q.1, subst (λ z. Runs find table t z x) same q.2, λ i n. sym (over-off isx q.0 x n (sym (g.of_writes n))) i)
par-back find table (p ∷ ps) s t isx flat g e x q =
    let qs : List (ℕ × ℕ) = p ∷ ps in
    let d = with_values e (firsts qs) q.0 in
    let r = q.2.1 in
    let k = equations-then find table d ps (equation p) r.0 in
    let pairs : EqualPairs d qs = (same_value (d p.0) (d p.1) k.0, k.1) in
    let w = join-runs find table qs s t isx flat g e d (λ n k. with_values-out e (firsts qs) q.0 n k) (copied-at qs d pairs) r.1.0 q.2.0 r.1.1 r.1.2 in
    (over (among (firsts qs)) e r.1.0, over (among (firsts qs)) e (λ n. q.2.0 (copy_of qs n)), w.0, w.1, q.2.2 ∙ w.2)

-- ---- the rewriting
turns-map : (run see : State → State → Type 0) (test : State → Bool) → ((e f : State) → run e f → see e f) → (n : ℕ) (e f : State) → Turns run test n e f → Turns see test n e f
turns-map run see test h zero e f q = q
turns-map run see test h (suc n) e f q = (q.0, (q.1.0, h e q.1.0 q.1.1, turns-map run see test h n q.1.0 f q.1.2))

module _ (find : Finder) (table : Table) (limit : ℕ) where
  -- of a substitution that stays in what is visible and above, all with numbers below the limit
  pub record Below (visible above : ℕ → Bool) : Type 0 where
    pub visible_below : (n : ℕ) → visible n ≡ true → n < limit
    pub above_below : (n : ℕ) → above n ≡ true → n < limit

  copies-of : (visible above writable : ℕ → Bool) → Within writable visible → Below visible above → (k : ℕ) → limit ≤ k → (s t : Substitution) → StaysIn visible above writable (par s t) → ((n : ℕ) → among (binders (par s t)) n ≡ true → n < limit) → CopiesAt table k (copied (par s t)) →
      Copies table (copies_from (k + length (copied s) + length (copied t)) (writes s)) (flat_from k s) (flat_from (k + length (copied s)) t) (among (written s))
  copies-of visible above writable w v k m s t a b c =
      let j = k + length (copied s) + length (copied t) in
      let ps = copies_from j (writes s) in
      let isc : ℕ → Bool = λ n. among (firsts ps) n in
      let P : ℕ → Bool = λ n. nat_lt n j in
      let bs = flat-binders P k s (all-from P (binders s) (λ n q. low n j (let l = b n (among-left (binders s) (binders t) n q) in omega (arith, l, m)))) (λ n x y. low n j (omega (arith, y))) in
      let bt = flat-binders P (k + length (copied s)) t (all-from P (binders t) (λ n q. low n j (let l = b n (among-right (binders s) (binders t) n q) in omega (arith, l, m)))) (λ n x y. low n j (omega (arith, y))) in
      let hidden : (n : ℕ) → isc n ≡ true → visible n ≡ false = λ n q. below-new limit visible v.visible_below n (let l : j ≤ n = first-between j (writes s) n q in omega (arith, l, m)) in
      let hidden_above : (n : ℕ) → isc n ≡ true → above n ≡ false = λ n q. below-new limit above v.above_below n (let l : j ≤ n = first-between j (writes s) n q in omega (arith, l, m)) in
      let S = flat_from k s in
      let T = flat_from (k + length (copied s)) t in
      let stay_s = flat-stays limit visible above writable w v.visible_below k m s a.0 (λ n q. b n (among-left (binders s) (binders t) n q)) in
      let stay_t = flat-stays limit visible above writable w v.visible_below (k + length (copied s)) (omega (arith, m)) t a.1 (λ n q. b n (among-right (binders s) (binders t) n q)) in
      let apart_s : (n : ℕ) → isc n ≡ true → among (binders S) n ≡ false = λ n q. false-of (among (binders S) n) (λ y. apart n (all-at P (binders S) bs n y) q) in
      let apart_t : (n : ℕ) → isc n ≡ true → among (binders T) n ≡ false = λ n q. false-of (among (binders T) n) (λ y. apart n (all-at P (binders T) bt n y) q) in
      let unwritten : (n : ℕ) → isc n ≡ true → writable n ≡ false = λ n q. false-of (writable n) (λ y. not-both (visible n) (w n y) (hidden n q)) in
      let two = copies-right table k (copied s ++ copied t) (writes s) c in
      let e : k + length (copied s ++ copied t) ≡ j = omega (arith, length-append (copied s) (copied t)) in
      let keeps : NoneIn (λ n. among (written s) n || isc n) (written T) = λ n o. elim (or-cases (among (written s) n) (isc n) o) [
        | inl q ↦ false-of (among (written T) n) (λ y. not-both (not (among (written t) n)) (all-at (λ n. not (among (written t) n)) (written s) a.2 n q) (ap not (flat-written (k + length (copied s)) t n y)))
        | inr q ↦ not-written visible above writable T stay_t n (unwritten n q)
      ] in
      let binds : NoneIn (λ n. among (written s) n || isc n) (binders T) = λ n o. elim (or-cases (among (written s) n) (isc n) o) [
        | inl q ↦ false-of (among (binders T) n) (λ y. not-both (visible n) (w n (written-writable n q)) (binders-new visible above writable T stay_t n y))
        | inr q ↦ apart_t n q
      ] in
      record {
        of_writes = λ n. ap (λ ys. among ys n) (seconds-copies j (writes s)) ∙ among-in_order (written s) n;
        apart = λ n h. false-of (isc n) (λ q. not-both (visible n) (w n (written-writable n h)) (hidden n q));
        typed = subst (λ x. CopiesAt table x (writes s)) e two;
        fresh_left = stays-avoids isc visible above writable w S stay_s hidden hidden_above apart_s;
        fresh_right = stays-avoids isc visible above writable w T stay_t hidden hidden_above apart_t;
        kept_left = λ n q. not-written visible above writable S stay_s n (unwritten n q);
        kept_right = λ n q. not-written visible above writable T stay_t n (unwritten n q);
        writes_left = λ n h. false-of (among (written S) n) (λ y. not-both (among (written s) n) (flat-written k s n y) h);
        leaves_right = leaves (λ n. among (written s) n || isc n) T keeps binds;
        keeps_right = keeps;
      }
    where
      low : (n j : ℕ) → n < j → nat_lt n j ≡ true
      low n j h = grind (arith, nat_tests)

      high : (n j : ℕ) → nat_lt n j ≡ true → n < j
      high n j h = grind (arith, nat_tests)

      apart : (n : ℕ) → nat_lt n (k + length (copied s) + length (copied t)) ≡ true → among (firsts (copies_from (k + length (copied s) + length (copied t)) (writes s))) n ≡ true → ⊥
      apart n h q =
          let l : k + length (copied s) + length (copied t) ≤ n = first-between (k + length (copied s) + length (copied t)) (writes s) n q in
          let r : n < k + length (copied s) + length (copied t) = high n (k + length (copied s) + length (copied t)) h in
          omega (arith, l, r)

      written-writable : (n : ℕ) → among (written s) n ≡ true → writable n ≡ true
      written-writable n q = elim (cases (writable n)) [ inl y ↦ y | inr y ↦ clash (among (written s) n) q (not-written visible above writable s a.0 n y) ]

  below-more : (visible above : ℕ → Bool) (zs : List ℕ) → ((n : ℕ) → among zs n ≡ true → n < limit) → Below visible above → Below (λ n. among zs n || visible n) above
  below-more visible above zs b v = record { visible_below = λ n h. elim (or-cases (among zs n) (visible n) h) [ inl q ↦ b n q | inr q ↦ v.visible_below n q ]; above_below = v.above_below }

  -- each run of the rewritten is one of the substitution
  pub runs-flat-back : (visible above writable : ℕ → Bool) → Within writable visible → Below visible above → (k : ℕ) → limit ≤ k → (s : Substitution) → StaysIn visible above writable s → ((n : ℕ) → among (binders s) n ≡ true → n < limit) → CopiesAt table k (copied s) → (e f : State) → Runs find table (flat_from k s) e f → Runs find table s e f
  runs-flat-back visible above writable w v k m skip a b c e f q = q
  runs-flat-back visible above writable w v k m (assign ps) a b c e f q = q
  runs-flat-back visible above writable w v k m (pre p s) a b c e f q = runs-flat-back visible above writable w v k m s a.1 b c e f q
  runs-flat-back visible above writable w v k m (guard p s) a b c e f q = (q.0, runs-flat-back visible above writable w v k m s a.1 b c e f q.1)
  runs-flat-back visible above writable w v k m (choice s t) a b c e f q = elim q [
    | inl x ↦ inl (runs-flat-back visible above writable w v k m s a.0 (λ n y. b n (among-left (binders s) (binders t) n y)) (copies-left table k (copied s) (copied t) c) e f x)
    | inr x ↦ inr (runs-flat-back visible above writable w v (k + length (copied s)) (omega (arith, m)) t a.1 (λ n y. b n (among-right (binders s) (binders t) n y)) (copies-right table k (copied s) (copied t) c) e f x)
  ]
  runs-flat-back visible above writable w v k m (if_else p s t) a b c e f q = elim q [
    | inl x ↦ inl (x.0, runs-flat-back visible above writable w v k m s a.1 (λ n y. b n (among-left (binders s) (binders t) n y)) (copies-left table k (copied s) (copied t) c) e f x.1)
    | inr x ↦ inr (x.0, runs-flat-back visible above writable w v (k + length (copied s)) (omega (arith, m)) t a.2 (λ n y. b n (among-right (binders s) (binders t) n y)) (copies-right table k (copied s) (copied t) c) e f x.1)
  ]
  runs-flat-back visible above writable w v k m (any zs s) a b c e f q =
      (q.0, q.1, (q.2.0, runs-flat-back (λ n. among zs n || visible n) above (λ n. among zs n || writable n) (within-more zs writable visible w) (below-more visible above zs (λ n y. b n (among-left zs (binders s) n y)) v) k m s a.2 (λ n y. b n (among-right zs (binders s) n y)) c (with_values e zs q.0) q.2.0 q.2.1, q.2.2))
  runs-flat-back visible above writable w v k m (seq s t) a b c e f q = (
    q.0,
    runs-flat-back visible above writable w v k m s a.0 (λ n y. b n (among-left (binders s) (binders t) n y)) (copies-left table k (copied s) (copied t) c) e q.0 q.1,
    runs-flat-back visible above writable w v (k + length (copied s)) (omega (arith, m)) t a.1 (λ n y. b n (among-right (binders s) (binders t) n y)) (copies-right table k (copied s) (copied t) c) q.0 f q.2,
  )
  runs-flat-back visible above writable w v k m (par s t) a b c e f q =
      let two = copies-left table k (copied s ++ copied t) (writes s) c in
      let r = par-back find table (copies_from (k + length (copied s) + length (copied t)) (writes s)) (flat_from k s) (flat_from (k + length (copied s)) t) (among (written s)) (flat-flat (k + length (copied s)) t) (copies-of visible above writable w v k m s t a b c) e f q in (
        r.0,
        r.1,
        runs-flat-back visible above writable w v k m s a.0 (λ n y. b n (among-left (binders s) (binders t) n y)) (copies-left table k (copied s) (copied t) two) e r.0 r.2,
        runs-flat-back visible above writable w v (k + length (copied s)) (omega (arith, m)) t a.1 (λ n y. b n (among-right (binders s) (binders t) n y)) (copies-right table k (copied s) (copied t) two) e r.1 r.3,
        r.4,
      )
  runs-flat-back visible above writable w v k m (assert p s) a b c e f q = runs-flat-back visible above writable w v k m s a.1 b c e f q
  runs-flat-back visible above writable w v k m (becomes_such xs p) a b c e f q = q
  runs-flat-back visible above writable w v k m (loop p s i u) a b c e f q = (q.0, turns-map (Runs find table (flat_from k s)) (Runs find table s) (λ x. holds find table x p) (λ x y r. runs-flat-back visible above writable w v k m s a.1 b c x y r) q.0 e f q.1)
