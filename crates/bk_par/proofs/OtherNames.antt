-- What a substitution does once it reads other variables, and what its rewriting writes.
use Rattle.std.proofs.Common.{◌≡◌, ◌⊎◌, inl, inr, ℕ, zero, suc, ◌+◌, List, [], ◌∷◌, ◌++◌, length, refl, sym, ◌∙◌, ap, subst, Bool, true, false, not, cond, ◌||◌, nat_eq}
use Rattle.std.specs.List.{filter}
use Rattle.bk_val.specs.Value.{MathValue}
use Rattle.bk_form.specs.Table.{Table}
use Rattle.bk_form.specs.Formula.{Formula, variable}
use Rattle.bk_form.specs.Search.{Finder}
use Rattle.bk_form.specs.Environment.{State, at_state}
use Rattle.bk_form.specs.Replacement.{looked_up, IsReplacement, renamed}
use Rattle.bk_form.proofs.Members.{or-left, or-right}
use Rattle.bk_form.proofs.Replaced.{meaning-replaced}
use Rattle.bk_gsl.specs.Substitution.{Substitution, skip, assign, pre, guard, choice, if_else, any, seq, par, assert, becomes_such, loop}
use Rattle.bk_gsl.specs.State.{holds, value_at, with_values, among, over, firsts}
use Rattle.bk_gsl.specs.Writes.{written, writes}
use Rattle.bk_gsl.specs.Run.{assigned, old_of, with_old, Turns, Bounded, Runs, Ends}
use Rattle.bk_gsl.specs.Avoids.{NoneIn}
use Rattle.bk_gsl.specs.Flat.{renamed_terms, reading, copies_from, copy_of, by_copies, copied, flat_from, IsFlat}
use Rattle.bk_gsl.proofs.States.{cases, clash, or-false, nat_eq-self, over-off, with_values-out, with_values-same, among-both, among-without}
use Rattle.bk_gsl.proofs.Runs.{looked_up-out}
use Rattle.bk_gsl.proofs.Reading.{among-cases, among-left, among-right, outside-then, among-outside}
use Rattle.bk_par.specs.Bindings.{seconds, bound_in}

pub false-of : (b : Bool) → (b ≡ true → ⊥) → b ≡ false
false-of true h = absurd (h refl)
false-of false h = refl

pub not-both : (b : Bool) → b ≡ true → b ≡ false → ⊥
not-both b h k = clash b h k

-- ---- no || is left
pub reading-flat : (by : ℕ → ℕ) (s : Substitution) → IsFlat s → IsFlat (reading by s)
reading-flat by skip f = tt
reading-flat by (assign ps) f = tt
reading-flat by (pre p s) f = reading-flat by s f
reading-flat by (guard p s) f = reading-flat by s f
reading-flat by (choice s t) f = (reading-flat by s f.0, reading-flat by t f.1)
reading-flat by (if_else p s t) f = (reading-flat by s f.0, reading-flat by t f.1)
reading-flat by (any zs s) f = reading-flat by s f
reading-flat by (seq s t) f = (reading-flat by s f.0, reading-flat by t f.1)
reading-flat by (par s t) f = absurd f
reading-flat by (assert p s) f = reading-flat by s f
reading-flat by (becomes_such xs p) f = tt
reading-flat by (loop p s i v) f = reading-flat by s f

copies-flat : (ps : List (ℕ × ℕ)) (s t : Substitution) → IsFlat s → IsFlat t → IsFlat (by_copies ps s t)
copies-flat [] s t f g = (f, g)
copies-flat (p ∷ ps) s t f g = (f, reading-flat (copy_of (p ∷ ps)) t g)

pub flat-flat : (k : ℕ) (s : Substitution) → IsFlat (flat_from k s)
flat-flat k skip = tt
flat-flat k (assign ps) = tt
flat-flat k (pre p s) = flat-flat k s
flat-flat k (guard p s) = flat-flat k s
flat-flat k (choice s t) = (flat-flat k s, flat-flat (k + length (copied s)) t)
flat-flat k (if_else p s t) = (flat-flat k s, flat-flat (k + length (copied s)) t)
flat-flat k (any zs s) = flat-flat k s
flat-flat k (seq s t) = (flat-flat k s, flat-flat (k + length (copied s)) t)
flat-flat k (par s t) = copies-flat (copies_from (k + length (copied s) + length (copied t)) (writes s)) (flat_from k s) (flat_from (k + length (copied s)) t) (flat-flat k s) (flat-flat (k + length (copied s)) t)
flat-flat k (assert p s) = flat-flat k s
flat-flat k (becomes_such xs p) = tt
flat-flat k (loop p s i v) = flat-flat k s

pub firsts-renamed : (by : ℕ → ℕ) (ps : List (ℕ × Formula)) → firsts (renamed_terms by ps) ≡ firsts ps
firsts-renamed by [] = refl
firsts-renamed by (p ∷ ps) = ap (λ x. p.0 ∷ x) (firsts-renamed by ps)

-- ---- what it writes
pub reading-written : (by : ℕ → ℕ) (s : Substitution) → written (reading by s) ≡ written s
reading-written by skip = refl
reading-written by (assign ps) = firsts-renamed by ps
reading-written by (pre p s) = reading-written by s
reading-written by (guard p s) = reading-written by s
reading-written by (choice s t) = λ i. reading-written by s i ++ reading-written by t i
reading-written by (if_else p s t) = λ i. reading-written by s i ++ reading-written by t i
reading-written by (any zs s) = ap (filter (λ n. not (among zs n))) (reading-written by s)
reading-written by (seq s t) = λ i. reading-written by s i ++ reading-written by t i
reading-written by (par s t) = λ i. reading-written by s i ++ reading-written by t i
reading-written by (assert p s) = reading-written by s
reading-written by (becomes_such xs p) = refl
reading-written by (loop p s i v) = reading-written by s

either : (xs ys zs ws : List ℕ) (n : ℕ) → (among xs n ≡ true → among zs n ≡ true) → (among ys n ≡ true → among ws n ≡ true) → among (xs ++ ys) n ≡ true → among (zs ++ ws) n ≡ true
either xs ys zs ws n f g h = elim (among-cases xs ys n h) [ inl q ↦ among-left zs ws n (f q) | inr q ↦ among-right zs ws n (g q) ]

filter-more : (zs xs ys : List ℕ) (n : ℕ) → (among xs n ≡ true → among ys n ≡ true) → among (filter (λ m. not (among zs m)) xs) n ≡ true → among (filter (λ m. not (among zs m)) ys) n ≡ true
filter-more zs xs ys n f h = let k = outside-then zs xs n h in among-outside zs ys n (f k.0) k.1

copies-written : (ps : List (ℕ × ℕ)) (s t : Substitution) (n : ℕ) → among (written (by_copies ps s t)) n ≡ true → among (written s ++ written t) n ≡ true
copies-written [] s t n h = h
copies-written (p ∷ ps) s t n h = subst (λ x. among (written s ++ x) n ≡ true) (reading-written (copy_of (p ∷ ps)) t) (outside-then (firsts (p ∷ ps)) (written s ++ written (reading (copy_of (p ∷ ps)) t)) n h).0

pub flat-written : (k : ℕ) (s : Substitution) (n : ℕ) → among (written (flat_from k s)) n ≡ true → among (written s) n ≡ true
flat-written k skip n h = h
flat-written k (assign ps) n h = h
flat-written k (pre p s) n h = flat-written k s n h
flat-written k (guard p s) n h = flat-written k s n h
flat-written k (choice s t) n h = either (written (flat_from k s)) (written (flat_from (k + length (copied s)) t)) (written s) (written t) n (flat-written k s n) (flat-written (k + length (copied s)) t n) h
flat-written k (if_else p s t) n h = either (written (flat_from k s)) (written (flat_from (k + length (copied s)) t)) (written s) (written t) n (flat-written k s n) (flat-written (k + length (copied s)) t n) h
flat-written k (any zs s) n h = filter-more zs (written (flat_from k s)) (written s) n (flat-written k s n) h
flat-written k (seq s t) n h = either (written (flat_from k s)) (written (flat_from (k + length (copied s)) t)) (written s) (written t) n (flat-written k s n) (flat-written (k + length (copied s)) t n) h
flat-written k (par s t) n h = either (written (flat_from k s)) (written (flat_from (k + length (copied s)) t)) (written s) (written t) n (flat-written k s n) (flat-written (k + length (copied s)) t n)
    (copies-written (copies_from (k + length (copied s) + length (copied t)) (writes s)) (flat_from k s) (flat_from (k + length (copied s)) t) n h)
flat-written k (assert p s) n h = flat-written k s n h
flat-written k (becomes_such xs p) n h = h
flat-written k (loop p s i v) n h = flat-written k s n h

-- the variable whose old value a number stands for is written, or the number stands for none
pub old-cases : (xs : List (ℕ × ℕ)) (m : ℕ) → ((among (seconds xs) m ≡ false) × (old_of xs m ≡ m)) ⊎ (among (firsts xs) (old_of xs m) ≡ true)
old-cases [] m = inl (refl, refl)
old-cases (x ∷ xs) m = by_test (old-cases xs m) (nat_eq m x.1) refl
  where
    by_test : ((among (seconds xs) m ≡ false) × (old_of xs m ≡ m)) ⊎ (among (firsts xs) (old_of xs m) ≡ true) → (b : Bool) → nat_eq m x.1 ≡ b → (((b || among (seconds xs) m) ≡ false) × (cond b x.0 (old_of xs m) ≡ m)) ⊎ ((nat_eq (cond b x.0 (old_of xs m)) x.0 || among (firsts xs) (cond b x.0 (old_of xs m))) ≡ true)
    by_test on true q = inr (or-left (nat_eq x.0 x.0) (among (firsts xs) x.0) (nat_eq-self x.0))
    by_test (inl k) false q = inl k
    by_test (inr k) false q = inr (or-right (nat_eq (old_of xs m) x.0) (among (firsts xs) (old_of xs m)) k)

-- ---- it neither writes nor binds what passes the test
abbrev pub Leaves : (ℕ → Bool) → Substitution → Type 0
Leaves off (assign ps) = NoneIn off (firsts ps)
Leaves off (pre p s) = Leaves off s
Leaves off (guard p s) = Leaves off s
Leaves off (choice s t) = Leaves off s × Leaves off t
Leaves off (if_else p s t) = Leaves off s × Leaves off t
Leaves off (any zs s) = NoneIn off zs × Leaves off s
Leaves off (seq s t) = Leaves off s × Leaves off t
Leaves off (par s t) = Leaves off s × Leaves off t
Leaves off (assert p s) = Leaves off s
Leaves off (becomes_such xs p) = NoneIn off (firsts xs) × ((n : ℕ) → off n ≡ true → old_of xs n ≡ n) × ((n : ℕ) → off n ≡ false → off (old_of xs n) ≡ false)
Leaves off (loop p s i v) = Leaves off s
Leaves off skip = Unit {0}

none-parts : (off : ℕ → Bool) (xs ys : List ℕ) → NoneIn off (xs ++ ys) → NoneIn off xs × NoneIn off ys
none-parts off xs ys h = ((λ n o. (among-both xs ys n (h n o)).0), (λ n o. (among-both xs ys n (h n o)).1))

old-out : (xs : List (ℕ × ℕ)) (n : ℕ) → among (seconds xs) n ≡ false → old_of xs n ≡ n
old-out [] n h = refl
old-out (x ∷ xs) n h = let k = or-false (nat_eq n x.1) (among (seconds xs) n) h in ap (λ b. cond b x.0 (old_of xs n)) k.0 ∙ old-out xs n k.1

pub leaves : (off : ℕ → Bool) (s : Substitution) → NoneIn off (written s) → NoneIn off (bound_in s) → Leaves off s
leaves off skip w b = tt
leaves off (assign ps) w b = w
leaves off (pre p s) w b = leaves off s w b
leaves off (guard p s) w b = leaves off s w b
leaves off (choice s t) w b = let k = none-parts off (written s) (written t) w in let m = none-parts off (bound_in s) (bound_in t) b in (leaves off s k.0 m.0, leaves off t k.1 m.1)
leaves off (if_else p s t) w b = let k = none-parts off (written s) (written t) w in let m = none-parts off (bound_in s) (bound_in t) b in (leaves off s k.0 m.0, leaves off t k.1 m.1)
leaves off (any zs s) w b = let m = none-parts off zs (bound_in s) b in (m.0, leaves off s (λ n o. among-without zs (written s) n (w n o) (m.0 n o)) m.1)
leaves off (seq s t) w b = let k = none-parts off (written s) (written t) w in let m = none-parts off (bound_in s) (bound_in t) b in (leaves off s k.0 m.0, leaves off t k.1 m.1)
leaves off (par s t) w b = let k = none-parts off (written s) (written t) w in let m = none-parts off (bound_in s) (bound_in t) b in (leaves off s k.0 m.0, leaves off t k.1 m.1)
leaves off (assert p s) w b = leaves off s w b
leaves off (becomes_such xs p) w b = (w, (λ n o. old-out xs n (b n o)), (λ n o. elim (old-cases xs n) [ inl q ↦ ap off q.1 ∙ o | inr q ↦ false-of (off (old_of xs n)) (λ k. not-both (among (firsts xs) (old_of xs n)) q (w (old_of xs n) k)) ]))
leaves off (loop p s i v) w b = leaves off s w b

-- ---- reading other names
looked_up-renamed : (by : ℕ → ℕ) (ps : List (ℕ × Formula)) (n : ℕ) → by n ≡ n → looked_up (renamed_terms by ps) n ≡ renamed by (looked_up ps n)
looked_up-renamed by [] n h = ap variable (sym h)
looked_up-renamed by (p ∷ ps) n h = by_test (nat_eq n p.0) (looked_up-renamed by ps n h)
  where
    by_test : (b : Bool) → looked_up (renamed_terms by ps) n ≡ renamed by (looked_up ps n) → cond b (renamed by p.1) (looked_up (renamed_terms by ps) n) ≡ renamed by (cond b p.1 (looked_up ps n))
    by_test true k = refl
    by_test false k = k

module _ (find : Finder) (table : Table) (off : ℕ → Bool) (by : ℕ → ℕ) (kept : IsReplacement table (λ n. variable (by n))) (stay : (n : ℕ) → off n ≡ false → by n ≡ n) (move : (n : ℕ) → off n ≡ true → off (by n) ≡ true) where
  abbrev pub seen : State → State
  seen e n = e (by n)

  holds-seen : (e : State) (p : Formula) → holds find table e (renamed by p) ≡ holds find table (seen e) p
  holds-seen e p = ap (λ m. m.truth) (meaning-replaced find (λ n. variable (by n)) (at_state table e) kept p)

  value-seen : (e : State) (p : Formula) → value_at find table e (renamed by p) ≡ value_at find table (seen e) p
  value-seen e p = ap (λ m. m.value) (meaning-replaced find (λ n. variable (by n)) (at_state table e) kept p)

  seen-assigned : (ps : List (ℕ × Formula)) → NoneIn off (firsts ps) → (e : State) → seen (assigned find table (renamed_terms by ps) e) ≡ assigned find table ps (seen e)
  seen-assigned ps l e = λ i n. at n i
    where
      at : (n : ℕ) → assigned find table (renamed_terms by ps) e (by n) ≡ assigned find table ps (seen e) n
      at n = elim (cases (off n)) [
        | inl h ↦ ap (value_at find table e) (looked_up-out (renamed_terms by ps) (by n) (ap (λ z. among z (by n)) (firsts-renamed by ps) ∙ l (by n) (move n h))) ∙ sym (ap (value_at find table (seen e)) (looked_up-out ps n (l n h)))
        | inr h ↦ ap (assigned find table (renamed_terms by ps) e) (stay n h) ∙ ap (value_at find table e) (looked_up-renamed by ps n (stay n h)) ∙ value-seen e (looked_up ps n)
      ]

  seen-set : (e : State) (zs : List ℕ) (vs : List MathValue) → NoneIn off zs → seen (with_values e zs vs) ≡ with_values (seen e) zs vs
  seen-set e zs vs l = λ i n. at n i
    where
      at : (n : ℕ) → with_values e zs vs (by n) ≡ with_values (seen e) zs vs n
      at n = elim (cases (off n)) [
        | inl h ↦ with_values-out e zs vs (by n) (l (by n) (move n h)) ∙ sym (with_values-out (seen e) zs vs n (l n h))
        | inr h ↦ ap (with_values e zs vs) (stay n h) ∙ with_values-same e (seen e) zs vs n (ap e (sym (stay n h)))
      ]

  seen-over : (zs : List ℕ) (d e : State) → NoneIn off zs → seen (over (among zs) d e) ≡ over (among zs) (seen d) (seen e)
  seen-over zs d e l = λ i n. at n i
    where
      at : (n : ℕ) → over (among zs) d e (by n) ≡ over (among zs) (seen d) (seen e) n
      at n = elim (cases (off n)) [
        | inl h ↦ over-off (among zs) d e (by n) (l (by n) (move n h)) ∙ sym (over-off (among zs) (seen d) (seen e) n (l n h))
        | inr h ↦ ap (λ m. cond (among zs m) (d (by n)) (e (by n))) (stay n h)
      ]

  seen-become : (xs : List (ℕ × ℕ)) (p : Formula) → NoneIn off (firsts xs) → ((n : ℕ) → off n ≡ true → old_of xs n ≡ n) → ((n : ℕ) → off n ≡ false → off (old_of xs n) ≡ false) → (e : State) (vs : List MathValue) → holds find table (with_old xs e vs) (renamed by p) ≡ holds find table (with_old xs (seen e) vs) p
  seen-become xs p l a b e vs =
      holds-seen (with_old xs e vs) p
      ∙ ap (λ x. holds find table x p) (seen-set (λ n. e (old_of xs n)) (firsts xs) vs l ∙ (λ i n. with_values-same (λ n. e (old_of xs (by n))) (λ n. seen e (old_of xs n)) (firsts xs) vs n (at n) i))
    where
      at : (n : ℕ) → e (old_of xs (by n)) ≡ e (by (old_of xs n))
      at n = elim (cases (off n)) [
        | inl h ↦ ap e (a (by n) (move n h)) ∙ sym (ap (λ m. e (by m)) (a n h))
        | inr h ↦ ap (λ m. e (old_of xs m)) (stay n h) ∙ sym (ap e (stay (old_of xs n) (b n h)))
      ]

  turns-seen : (run see : State → State → Type 0) (test seeing : State → Bool) → ((e : State) → test e ≡ seeing (seen e)) → ((e g : State) → run e g → see (seen e) (seen g)) → (n : ℕ) (e g : State) → Turns run test n e g → Turns see seeing n (seen e) (seen g)
  turns-seen run see test seeing h r zero e g q = (sym (h e) ∙ q.0, ap seen q.1)
  turns-seen run see test seeing h r (suc n) e g q = (sym (h e) ∙ q.0, (seen q.1.0, r e q.1.0 q.1.1, turns-seen run see test seeing h r n q.1.0 g q.1.2))

  pub runs-seen : (s : Substitution) → IsFlat s → Leaves off s → (e g : State) → Runs find table (reading by s) e g → Runs find table s (seen e) (seen g)
  runs-seen skip c l e g q = ap seen q
  runs-seen (assign ps) c l e g q = ap seen q ∙ seen-assigned ps l e
  runs-seen (pre p s) c l e g q = runs-seen s c l e g q
  runs-seen (guard p s) c l e g q = (sym (holds-seen e p) ∙ q.0, runs-seen s c l e g q.1)
  runs-seen (choice s t) c l e g q = elim q [ inl x ↦ inl (runs-seen s c.0 l.0 e g x) | inr x ↦ inr (runs-seen t c.1 l.1 e g x) ]
  runs-seen (if_else p s t) c l e g q = elim q [ inl x ↦ inl (sym (holds-seen e p) ∙ x.0, runs-seen s c.0 l.0 e g x.1) | inr x ↦ inr (sym (holds-seen e p) ∙ x.0, runs-seen t c.1 l.1 e g x.1) ]
  runs-seen (any zs s) c l e g q = (q.0, q.1, (seen q.2.0, subst (λ x. Runs find table s x (seen q.2.0)) (seen-set e zs q.0 l.0) (runs-seen s c l.1 (with_values e zs q.0) q.2.0 q.2.1), ap seen q.2.2 ∙ seen-over zs e q.2.0 l.0))
  runs-seen (seq s t) c l e g q = (seen q.0, runs-seen s c.0 l.0 e q.0 q.1, runs-seen t c.1 l.1 q.0 g q.2)
  runs-seen (par s t) c l e g q = absurd c
  runs-seen (assert p s) c l e g q = runs-seen s c l e g q
  runs-seen (becomes_such xs p) c l e g q = (q.0, q.1, sym (seen-become xs p l.0 l.1 l.2 e q.0) ∙ q.2, ap seen q.3 ∙ seen-set e (firsts xs) q.0 l.0)
  runs-seen (loop p s i v) c l e g q = (q.0, turns-seen (Runs find table (reading by s)) (Runs find table s) (λ x. holds find table x (renamed by p)) (λ x. holds find table x p) (λ x. holds-seen x p) (λ x y r. runs-seen s c l x y r) q.0 e g q.1)

  -- and back: each run that reads as before is one under the other names
  turns-unseen : (run see : State → State → Type 0) (test seeing : State → Bool) → ((e : State) → test e ≡ seeing (seen e)) → ((e h : State) → see (seen e) h → (g : State) × run e g × (seen g ≡ h)) → (n : ℕ) (e h : State) → Turns see seeing n (seen e) h → (g : State) × Turns run test n e g × (seen g ≡ h)
  turns-unseen run see test seeing t r zero e h q = (e, (t e ∙ q.0, refl), sym q.1)
  turns-unseen run see test seeing t r (suc n) e h q =
      let w = r e q.1.0 q.1.1 in
      let z = turns-unseen run see test seeing t r n w.0 h (subst (λ x. Turns see seeing n x h) (sym w.2) q.1.2) in
      (z.0, (t e ∙ q.0, (w.0, w.1, z.1)), z.2)

  pub runs-unseen : (s : Substitution) → IsFlat s → Leaves off s → (e h : State) → Runs find table s (seen e) h → (g : State) × Runs find table (reading by s) e g × (seen g ≡ h)
  runs-unseen skip c l e h q = (e, refl, sym q)
  runs-unseen (assign ps) c l e h q = (assigned find table (renamed_terms by ps) e, refl, seen-assigned ps l e ∙ sym q)
  runs-unseen (pre p s) c l e h q = runs-unseen s c l e h q
  runs-unseen (guard p s) c l e h q = let w = runs-unseen s c l e h q.1 in (w.0, (holds-seen e p ∙ q.0, w.1), w.2)
  runs-unseen (choice s t) c l e h q = elim q [
    | inl x ↦ let w = runs-unseen s c.0 l.0 e h x in (w.0, inl w.1, w.2)
    | inr x ↦ let w = runs-unseen t c.1 l.1 e h x in (w.0, inr w.1, w.2)
  ]
  runs-unseen (if_else p s t) c l e h q = elim q [
    | inl x ↦ let w = runs-unseen s c.0 l.0 e h x.1 in (w.0, inl (holds-seen e p ∙ x.0, w.1), w.2)
    | inr x ↦ let w = runs-unseen t c.1 l.1 e h x.1 in (w.0, inr (holds-seen e p ∙ x.0, w.1), w.2)
  ]
  runs-unseen (any zs s) c l e h q =
      let w = runs-unseen s c l.1 (with_values e zs q.0) q.2.0 (subst (λ x. Runs find table s x q.2.0) (sym (seen-set e zs q.0 l.0)) q.2.1) in
      (over (among zs) e w.0, (q.0, q.1, (w.0, w.1, refl)), seen-over zs e w.0 l.0 ∙ ap (over (among zs) (seen e)) w.2 ∙ sym q.2.2)
  runs-unseen (seq s t) c l e h q =
      let w = runs-unseen s c.0 l.0 e q.0 q.1 in
      let z = runs-unseen t c.1 l.1 w.0 h (subst (λ x. Runs find table t x h) (sym w.2) q.2) in
      (z.0, (w.0, w.1, z.1), z.2)
  runs-unseen (par s t) c l e h q = absurd c
  runs-unseen (assert p s) c l e h q = runs-unseen s c l e h q
  runs-unseen (becomes_such xs p) c l e h q = (with_values e (firsts xs) q.0, (q.0, q.1, seen-become xs p l.0 l.1 l.2 e q.0 ∙ q.2, refl), seen-set e (firsts xs) q.0 l.0 ∙ sym q.3)
  runs-unseen (loop p s i v) c l e h q =
      let w = turns-unseen (Runs find table (reading by s)) (Runs find table s) (λ x. holds find table x (renamed by p)) (λ x. holds find table x p) (λ x. holds-seen x p) (λ x y r. runs-unseen s c l x y r) q.0 e h q.1 in
      (w.0, (q.0, w.1), w.2)

  -- ---- where it ends
  bounded-seen : (run see : State → State → Type 0) (end ending : State → Type 0) (test seeing : State → Bool) → ((e : State) → test e ≡ seeing (seen e)) → ((e h : State) → see (seen e) h → (g : State) × run e g × (seen g ≡ h)) → ((e : State) → end e → ending (seen e)) → (n : ℕ) (e : State) → Bounded run end test n e → Bounded see ending seeing n (seen e)
  bounded-seen run see end ending test seeing t r m zero e q = sym (t e) ∙ q
  bounded-seen run see end ending test seeing t r m (suc n) e q = elim q [
    | inl x ↦ inl (sym (t e) ∙ x)
    | inr x ↦ inr (m e x.0, λ h y. let w = r e h y in subst (Bounded see ending seeing n) w.2 (bounded-seen run see end ending test seeing t r m n w.0 (x.1 w.0 w.1)))
  ]

  bounded-unseen : (run see : State → State → Type 0) (end ending : State → Type 0) (test seeing : State → Bool) → ((e : State) → test e ≡ seeing (seen e)) → ((e g : State) → run e g → see (seen e) (seen g)) → ((e : State) → ending (seen e) → end e) → (n : ℕ) (e : State) → Bounded see ending seeing n (seen e) → Bounded run end test n e
  bounded-unseen run see end ending test seeing t r m zero e q = t e ∙ q
  bounded-unseen run see end ending test seeing t r m (suc n) e q = elim q [
    | inl x ↦ inl (t e ∙ x)
    | inr x ↦ inr (m e x.0, λ g y. bounded-unseen run see end ending test seeing t r m n g (x.1 (seen g) (r e g y)))
  ]

  pub ends-seen : (s : Substitution) → IsFlat s → Leaves off s → (e : State) → Ends find table (reading by s) e → Ends find table s (seen e)
  ends-seen skip c l e q = tt
  ends-seen (assign ps) c l e q = tt
  ends-seen (pre p s) c l e q = (sym (holds-seen e p) ∙ q.0, ends-seen s c l e q.1)
  ends-seen (guard p s) c l e q = λ h. ends-seen s c l e (q (holds-seen e p ∙ h))
  ends-seen (choice s t) c l e q = (ends-seen s c.0 l.0 e q.0, ends-seen t c.1 l.1 e q.1)
  ends-seen (if_else p s t) c l e q = ((λ h. ends-seen s c.0 l.0 e (q.0 (holds-seen e p ∙ h))), (λ h. ends-seen t c.1 l.1 e (q.1 (holds-seen e p ∙ h))))
  ends-seen (any zs s) c l e q = λ vs o. subst (Ends find table s) (seen-set e zs vs l.0) (ends-seen s c l.1 (with_values e zs vs) (q vs o))
  ends-seen (seq s t) c l e q = (ends-seen s c.0 l.0 e q.0, λ h r. let w = runs-unseen s c.0 l.0 e h r in subst (Ends find table t) w.2 (ends-seen t c.1 l.1 w.0 (q.1 w.0 w.1)))
  ends-seen (par s t) c l e q = absurd c
  ends-seen (assert p s) c l e q = (sym (holds-seen e p) ∙ q.0, ends-seen s c l e q.1)
  ends-seen (becomes_such xs p) c l e q = tt
  ends-seen (loop p s i v) c l e q = (q.0, bounded-seen (Runs find table (reading by s)) (Runs find table s) (Ends find table (reading by s)) (Ends find table s) (λ x. holds find table x (renamed by p)) (λ x. holds find table x p) (λ x. holds-seen x p) (λ x y r. runs-unseen s c l x y r) (λ x y. ends-seen s c l x y) q.0 e q.1)

  pub ends-unseen : (s : Substitution) → IsFlat s → Leaves off s → (e : State) → Ends find table s (seen e) → Ends find table (reading by s) e
  ends-unseen skip c l e q = tt
  ends-unseen (assign ps) c l e q = tt
  ends-unseen (pre p s) c l e q = (holds-seen e p ∙ q.0, ends-unseen s c l e q.1)
  ends-unseen (guard p s) c l e q = λ h. ends-unseen s c l e (q (sym (holds-seen e p) ∙ h))
  ends-unseen (choice s t) c l e q = (ends-unseen s c.0 l.0 e q.0, ends-unseen t c.1 l.1 e q.1)
  ends-unseen (if_else p s t) c l e q = ((λ h. ends-unseen s c.0 l.0 e (q.0 (sym (holds-seen e p) ∙ h))), (λ h. ends-unseen t c.1 l.1 e (q.1 (sym (holds-seen e p) ∙ h))))
  ends-unseen (any zs s) c l e q = λ vs o. ends-unseen s c l.1 (with_values e zs vs) (subst (Ends find table s) (sym (seen-set e zs vs l.0)) (q vs o))
  ends-unseen (seq s t) c l e q = (ends-unseen s c.0 l.0 e q.0, λ g r. ends-unseen t c.1 l.1 g (q.1 (seen g) (runs-seen s c.0 l.0 e g r)))
  ends-unseen (par s t) c l e q = absurd c
  ends-unseen (assert p s) c l e q = (holds-seen e p ∙ q.0, ends-unseen s c l e q.1)
  ends-unseen (becomes_such xs p) c l e q = tt
  ends-unseen (loop p s i v) c l e q = (q.0, bounded-unseen (Runs find table (reading by s)) (Runs find table s) (Ends find table (reading by s)) (Ends find table s) (λ x. holds find table x (renamed by p)) (λ x. holds find table x p) (λ x. holds-seen x p) (λ x y r. runs-seen s c l x y r) (λ x y. ends-unseen s c l x y) q.0 e q.1)
