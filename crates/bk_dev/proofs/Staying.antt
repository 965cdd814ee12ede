-- What the facts of a development say of one substitution: its locals are apart, it avoids what it may not name, and it does not turn on it.
use Rattle.std.proofs.Common.{◌≡◌, ◌⊎◌, inl, inr, ℕ, List, [], ◌∷◌, ◌++◌, refl, sym, ◌∙◌, subst, Bool, true, false, cond, ◌||◌, nat_eq}
use Rattle.bk_form.specs.Table.{Table}
use Rattle.bk_form.specs.Formula.{Formula}
use Rattle.bk_form.specs.Search.{Finder}
use Rattle.bk_form.specs.Environment.{State}
use Rattle.bk_form.specs.Replacement.{occurs}
use Rattle.bk_form.proofs.Members.{or-cases, or-left, or-right}
use Rattle.bk_gsl.specs.Substitution.{Substitution, skip, assign, pre, guard, choice, if_else, any, seq, par, assert, becomes_such, loop}
use Rattle.bk_gsl.specs.State.{among, firsts}
use Rattle.bk_gsl.specs.Reads.{variables_of, variables_of_terms, outside, read}
use Rattle.bk_gsl.specs.Run.{Ends, old_of}
use Rattle.bk_gsl.proofs.States.{clash, or-false, nat_eq-same, nat_eq-self, among-append}
use Rattle.bk_dev.specs.Facts.{AllAre, AreNew, AssignsIn, StaysIn, Names, seconds, binders}
use Rattle.bk_gsl.specs.Apart.{AreApart}
use Rattle.bk_gsl.proofs.Outside.{ends-over}
use Rattle.bk_gsl.proofs.Reading.{among-cases, among-left, among-right, outside-then, variables-occur, map-then}
use Rattle.bk_gsl.specs.Avoids.{Free, NoneIn, Avoids}
use Rattle.bk_form.specs.Each.{Each}
use Rattle.bk_dev.proofs.Agree.{both-false}

pub false-of : (b : Bool) → (b ≡ true → ⊥) → b ≡ false
false-of true h = absurd (h refl)
false-of false h = refl

pub not-both : (b : Bool) → b ≡ true → b ≡ false → ⊥
not-both b h k = clash b h k

new-at : (visible : ℕ → Bool) (zs : List ℕ) → AreNew visible zs → (n : ℕ) → among zs n ≡ true → visible n ≡ false
new-at visible [] a n h = absurd (cc)
new-at visible (z ∷ zs) a n h = elim (or-cases (nat_eq n z) (among zs n) h) [
  | inl q ↦ subst (λ m. visible m ≡ false) (sym (nat_eq-same n z q)) a.0
  | inr q ↦ new-at visible zs a.1 n q
]

-- what it binds is not visible outside
pub binders-new : (visible above writable : ℕ → Bool) (s : Substitution) → StaysIn visible above writable s → (n : ℕ) → among (binders s) n ≡ true → visible n ≡ false
binders-new visible above writable skip a n h = absurd (cc)
binders-new visible above writable (assign ps) a n h = absurd (cc)
binders-new visible above writable (pre p s) a n h = binders-new visible above writable s a.1 n h
binders-new visible above writable (guard p s) a n h = binders-new visible above writable s a.1 n h
binders-new visible above writable (choice s t) a n h = elim (among-cases (binders s) (binders t) n h) [ inl q ↦ binders-new visible above writable s a.0 n q | inr q ↦ binders-new visible above writable t a.1 n q ]
binders-new visible above writable (if_else p s t) a n h = elim (among-cases (binders s) (binders t) n h) [ inl q ↦ binders-new visible above writable s a.1 n q | inr q ↦ binders-new visible above writable t a.2 n q ]
binders-new visible above writable (any zs s) a n h = elim (among-cases zs (binders s) n h) [
  | inl q ↦ new-at visible zs a.0 n q
  | inr q ↦ (or-false (among zs n) (visible n) (binders-new (λ m. among zs m || visible m) above (λ m. among zs m || writable m) s a.2 n q)).1
]
binders-new visible above writable (seq s t) a n h = elim (among-cases (binders s) (binders t) n h) [ inl q ↦ binders-new visible above writable s a.0 n q | inr q ↦ binders-new visible above writable t a.1 n q ]
binders-new visible above writable (par s t) a n h = elim (among-cases (binders s) (binders t) n h) [ inl q ↦ binders-new visible above writable s a.0 n q | inr q ↦ binders-new visible above writable t a.1 n q ]
binders-new visible above writable (assert p s) a n h = binders-new visible above writable s a.1 n h
binders-new visible above writable (becomes_such xs p) a n h = new-at visible (seconds xs) a.2 n h
binders-new visible above writable (loop p s i v) a n h = binders-new visible above writable s a.1 n h

named-seen : (visible : ℕ → Bool) (f : Formula) → Names visible f → (n : ℕ) → among (variables_of f) n ≡ true → visible n ≡ true
named-seen visible f k n h = k.visible_only n (variables-occur f n h)

terms-seen : (visible writable : ℕ → Bool) (ps : List (ℕ × Formula)) → AssignsIn visible writable ps → (n : ℕ) → among (variables_of_terms ps) n ≡ true → visible n ≡ true
terms-seen visible writable [] a n h = absurd (cc)
terms-seen visible writable (p ∷ ps) a n h = elim (among-cases (variables_of p.1) (variables_of_terms ps) n h) [
  | inl q ↦ named-seen visible p.1 a.1 n q
  | inr q ↦ terms-seen visible writable ps a.3 n q
]

-- the variable whose old value a number stands for is written, or the number stands for none
pub old-cases : (xs : List (ℕ × ℕ)) (m : ℕ) → ((among (seconds xs) m ≡ false) × (old_of xs m ≡ m)) ⊎ (among (firsts xs) (old_of xs m) ≡ true)
old-cases [] m = inl (refl, refl)
old-cases (x ∷ xs) m = by_test (old-cases xs m) (nat_eq m x.1) refl
  where
    by_test : ((among (seconds xs) m ≡ false) × (old_of xs m ≡ m)) ⊎ (among (firsts xs) (old_of xs m) ≡ true) → (b : Bool) → nat_eq m x.1 ≡ b → (((b || among (seconds xs) m) ≡ false) × (cond b x.0 (old_of xs m) ≡ m)) ⊎ ((nat_eq (cond b x.0 (old_of xs m)) x.0 || among (firsts xs) (cond b x.0 (old_of xs m))) ≡ true)
    by_test on true q = inr (or-left (nat_eq x.0 x.0) (among (firsts xs) x.0) (nat_eq-self x.0))
    by_test (inl k) false q = inl k
    by_test (inr k) false q = inr (or-right (nat_eq (old_of xs m) x.0) (among (firsts xs) (old_of xs m)) k)

pub all-at : (p : ℕ → Bool) (xs : List ℕ) → AllAre p xs → (n : ℕ) → among xs n ≡ true → p n ≡ true
all-at p [] a n h = absurd (cc)
all-at p (x ∷ xs) a n h = elim (or-cases (nat_eq n x) (among xs n) h) [ inl q ↦ subst (λ m. p m ≡ true) (sym (nat_eq-same n x q)) a.0 | inr q ↦ all-at p xs a.1 n q ]

-- what may be written is visible
abbrev pub Within : (ℕ → Bool) → (ℕ → Bool) → Type 0
Within writable visible = (n : ℕ) → writable n ≡ true → visible n ≡ true

pub within-more : (zs : List ℕ) (writable visible : ℕ → Bool) → Within writable visible → Within (λ n. among zs n || writable n) (λ n. among zs n || visible n)
within-more zs writable visible w n h = elim (or-cases (among zs n) (writable n) h) [ inl q ↦ or-left (among zs n) (visible n) q | inr q ↦ or-right (among zs n) (visible n) (w n q) ]

-- what it reads is visible, or what a loop's invariant may name
pub read-seen : (visible above writable : ℕ → Bool) → Within writable visible → (s : Substitution) → StaysIn visible above writable s → (n : ℕ) → among (read s) n ≡ true → (above n || visible n) ≡ true
read-seen visible above writable w skip a n h = absurd (cc)
read-seen visible above writable w (assign ps) a n h = or-right (above n) (visible n) (terms-seen visible writable ps a n h)
read-seen visible above writable w (pre p s) a n h = elim (among-cases (variables_of p) (read s) n h) [ inl q ↦ or-right (above n) (visible n) (named-seen visible p a.0 n q) | inr q ↦ read-seen visible above writable w s a.1 n q ]
read-seen visible above writable w (guard p s) a n h = elim (among-cases (variables_of p) (read s) n h) [ inl q ↦ or-right (above n) (visible n) (named-seen visible p a.0 n q) | inr q ↦ read-seen visible above writable w s a.1 n q ]
read-seen visible above writable w (choice s t) a n h = elim (among-cases (read s) (read t) n h) [ inl q ↦ read-seen visible above writable w s a.0 n q | inr q ↦ read-seen visible above writable w t a.1 n q ]
read-seen visible above writable w (if_else p s t) a n h = elim (among-cases (variables_of p ++ read s) (read t) n h) [
  | inl k ↦ elim (among-cases (variables_of p) (read s) n k) [ inl q ↦ or-right (above n) (visible n) (named-seen visible p a.0 n q) | inr q ↦ read-seen visible above writable w s a.1 n q ]
  | inr q ↦ read-seen visible above writable w t a.2 n q
]
read-seen visible above writable w (any zs s) a n h =
    let k = outside-then zs (read s) n h in
    elim (or-cases (above n) (among zs n || visible n) (read-seen (λ m. among zs m || visible m) above (λ m. among zs m || writable m) (within-more zs writable visible w) s a.2 n k.0)) [
      | inl q ↦ or-left (above n) (visible n) q
      | inr q ↦ elim (or-cases (among zs n) (visible n) q) [ inl y ↦ clash (among zs n) y k.1 | inr y ↦ or-right (above n) (visible n) y ]
    ]
read-seen visible above writable w (seq s t) a n h = elim (among-cases (read s) (read t) n h) [ inl q ↦ read-seen visible above writable w s a.0 n q | inr q ↦ read-seen visible above writable w t a.1 n q ]
read-seen visible above writable w (par s t) a n h = elim (among-cases (read s) (read t) n h) [ inl q ↦ read-seen visible above writable w s a.0 n q | inr q ↦ read-seen visible above writable w t a.1 n q ]
read-seen visible above writable w (assert p s) a n h = elim (among-cases (variables_of p) (read s) n h) [ inl q ↦ or-right (above n) (visible n) (named-seen visible p a.0 n q) | inr q ↦ read-seen visible above writable w s a.1 n q ]
read-seen visible above writable w (becomes_such xs p) a n h =
    let m = map-then (old_of xs) (outside (firsts xs) (variables_of p)) n h in
    let k = outside-then (firsts xs) (variables_of p) m.0 m.1 in
    or-right (above n) (visible n) (elim (old-cases xs m.0) [
      | inl q ↦ subst (λ x. visible x ≡ true) (sym (m.2 ∙ q.1)) (elim (or-cases (among (seconds xs) m.0) (visible m.0) (named-seen (λ n. among (seconds xs) n || visible n) p a.4 m.0 k.0)) [ inl y ↦ clash (among (seconds xs) m.0) y q.0 | inr y ↦ y ])
      | inr q ↦ w n (all-at writable (firsts xs) a.0 n (subst (λ x. among (firsts xs) x ≡ true) (sym m.2) q))
    ])
read-seen visible above writable w (loop p s i v) a n h = elim (among-cases (variables_of p ++ read s ++ variables_of i) (variables_of v) n h) [
  | inl l ↦ elim (among-cases (variables_of p ++ read s) (variables_of i) n l) [
    | inl k ↦ elim (among-cases (variables_of p) (read s) n k) [ inl q ↦ or-right (above n) (visible n) (named-seen visible p a.0 n q) | inr q ↦ read-seen visible above writable w s a.1 n q ]
    | inr q ↦ named-seen (λ n. above n || visible n) i a.2 n q
  ]
  | inr q ↦ named-seen (λ n. above n || visible n) v a.3 n q
]

-- no local of a substitution is read after its scope, where what is read later is none that it binds
pub stays-apart : (visible above writable : ℕ → Bool) → Within writable visible → (s : Substitution) → StaysIn visible above writable s → ((n : ℕ) → among (binders s) n ≡ true → above n ≡ false) → (later : ℕ → Bool) → ((n : ℕ) → among (binders s) n ≡ true → later n ≡ false) → AreApart later s
stays-apart visible above writable w skip a b later h = tt
stays-apart visible above writable w (assign ps) a b later h = tt
stays-apart visible above writable w (pre p s) a b later h = stays-apart visible above writable w s a.1 b later h
stays-apart visible above writable w (guard p s) a b later h = stays-apart visible above writable w s a.1 b later h
stays-apart visible above writable w (choice s t) a b later h = (
  stays-apart visible above writable w s a.0 (λ n q. b n (among-left (binders s) (binders t) n q)) later (λ n q. h n (among-left (binders s) (binders t) n q)),
  stays-apart visible above writable w t a.1 (λ n q. b n (among-right (binders s) (binders t) n q)) later (λ n q. h n (among-right (binders s) (binders t) n q)),
)
stays-apart visible above writable w (if_else p s t) a b later h = (
  stays-apart visible above writable w s a.1 (λ n q. b n (among-left (binders s) (binders t) n q)) later (λ n q. h n (among-left (binders s) (binders t) n q)),
  stays-apart visible above writable w t a.2 (λ n q. b n (among-right (binders s) (binders t) n q)) later (λ n q. h n (among-right (binders s) (binders t) n q)),
)
stays-apart visible above writable w (any zs s) a b later h = (
  (λ n q. h n (among-left zs (binders s) n q)),
  stays-apart (λ m. among zs m || visible m) above (λ m. among zs m || writable m) (within-more zs writable visible w) s a.2 (λ n q. b n (among-right zs (binders s) n q)) later (λ n q. h n (among-right zs (binders s) n q)),
)
stays-apart visible above writable w (seq s t) a b later h = (
  stays-apart visible above writable w s a.0 (λ n q. b n (among-left (binders s) (binders t) n q)) (λ n. later n || among (read t) n)
      (λ n q. let x = h n (among-left (binders s) (binders t) n q) in false-of (later n || among (read t) n) (λ k. elim (or-cases (later n) (among (read t) n) k) [
        | inl y ↦ not-both (later n) y x
        | inr y ↦ elim (or-cases (above n) (visible n) (read-seen visible above writable w t a.1 n y)) [
          | inl z ↦ not-both (above n) z (b n (among-left (binders s) (binders t) n q))
          | inr z ↦ not-both (visible n) z (binders-new visible above writable s a.0 n q)
        ]
      ])),
  stays-apart visible above writable w t a.1 (λ n q. b n (among-right (binders s) (binders t) n q)) later (λ n q. h n (among-right (binders s) (binders t) n q)),
)
stays-apart visible above writable w (par s t) a b later h = (
  stays-apart visible above writable w s a.0 (λ n q. b n (among-left (binders s) (binders t) n q)) later (λ n q. h n (among-left (binders s) (binders t) n q)),
  stays-apart visible above writable w t a.1 (λ n q. b n (among-right (binders s) (binders t) n q)) later (λ n q. h n (among-right (binders s) (binders t) n q)),
)
stays-apart visible above writable w (assert p s) a b later h = stays-apart visible above writable w s a.1 b later h
stays-apart visible above writable w (becomes_such xs p) a b later h = tt
stays-apart visible above writable w (loop p s i v) a b later h =
    stays-apart visible above writable w s a.1 b (λ n. occurs n i || occurs n v) (λ n q. false-of (occurs n i || occurs n v) (λ k.
    let seen : (above n || visible n) ≡ true = elim (or-cases (occurs n i) (occurs n v) k) [ inl y ↦ a.2.visible_only n y | inr y ↦ a.3.visible_only n y ] in
    elim (or-cases (above n) (visible n) seen) [ inl z ↦ not-both (above n) z (b n q) | inr z ↦ not-both (visible n) z (binders-new visible above writable s a.1 n q) ]))

-- ---- it avoids what it may not name
free-named : (off visible : ℕ → Bool) (f : Formula) → Names visible f → ((n : ℕ) → off n ≡ true → visible n ≡ false) → Free off f
free-named off visible f k v n o = false-of (occurs n f) (λ q. not-both (visible n) (k.visible_only n q) (v n o))

each-free : (off visible writable : ℕ → Bool) → (ps : List (ℕ × Formula)) → AssignsIn visible writable ps → ((n : ℕ) → off n ≡ true → visible n ≡ false) → Each (λ p. Free off p.1) ps
each-free off visible writable [] a v = tt
each-free off visible writable (p ∷ ps) a v = (free-named off visible p.1 a.1 v, each-free off visible writable ps a.3 v)

firsts-writable : (visible writable : ℕ → Bool) → (ps : List (ℕ × Formula)) → AssignsIn visible writable ps → AllAre writable (firsts ps)
firsts-writable visible writable [] a = tt
firsts-writable visible writable (p ∷ ps) a = (a.0, firsts-writable visible writable ps a.3)

none-in : (off writable visible : ℕ → Bool) → Within writable visible → ((n : ℕ) → off n ≡ true → visible n ≡ false) → (xs : List ℕ) → AllAre writable xs → NoneIn off xs
none-in off writable visible w v xs a n o = false-of (among xs n) (λ q. not-both (visible n) (w n (all-at writable xs a n q)) (v n o))

pub stays-avoids : (off visible above writable : ℕ → Bool) → Within writable visible → (s : Substitution) → StaysIn visible above writable s → ((n : ℕ) → off n ≡ true → visible n ≡ false) → ((n : ℕ) → off n ≡ true → above n ≡ false) → ((n : ℕ) → off n ≡ true → among (binders s) n ≡ false) → Avoids off s
stays-avoids off visible above writable w skip a v u b = tt
stays-avoids off visible above writable w (assign ps) a v u b = (none-in off writable visible w v (firsts ps) (firsts-writable visible writable ps a), each-free off visible writable ps a v)
stays-avoids off visible above writable w (pre p s) a v u b = (free-named off visible p a.0 v, stays-avoids off visible above writable w s a.1 v u b)
stays-avoids off visible above writable w (guard p s) a v u b = (free-named off visible p a.0 v, stays-avoids off visible above writable w s a.1 v u b)
stays-avoids off visible above writable w (choice s t) a v u b = let k = λ (n : ℕ) (o : off n ≡ true). or-false (among (binders s) n) (among (binders t) n) (sym (among-append (binders s) (binders t) n) ∙ b n o) in (stays-avoids off visible above writable w s a.0 v u (λ n o. (k n o).0), stays-avoids off visible above writable w t a.1 v u (λ n o. (k n o).1))
stays-avoids off visible above writable w (if_else p s t) a v u b = let k = λ (n : ℕ) (o : off n ≡ true). or-false (among (binders s) n) (among (binders t) n) (sym (among-append (binders s) (binders t) n) ∙ b n o) in (free-named off visible p a.0 v, stays-avoids off visible above writable w s a.1 v u (λ n o. (k n o).0), stays-avoids off visible above writable w t a.2 v u (λ n o. (k n o).1))
stays-avoids off visible above writable w (any zs s) a v u b =
    let k = λ (n : ℕ) (o : off n ≡ true). or-false (among zs n) (among (binders s) n) (sym (among-append zs (binders s) n) ∙ b n o) in
    ((λ n o. (k n o).0), stays-avoids off (λ m. among zs m || visible m) above (λ m. among zs m || writable m) (within-more zs writable visible w) s a.2 (λ n o. both-false (among zs n) (visible n) (k n o).0 (v n o)) u (λ n o. (k n o).1))
stays-avoids off visible above writable w (seq s t) a v u b = let k = λ (n : ℕ) (o : off n ≡ true). or-false (among (binders s) n) (among (binders t) n) (sym (among-append (binders s) (binders t) n) ∙ b n o) in (stays-avoids off visible above writable w s a.0 v u (λ n o. (k n o).0), stays-avoids off visible above writable w t a.1 v u (λ n o. (k n o).1))
stays-avoids off visible above writable w (par s t) a v u b = let k = λ (n : ℕ) (o : off n ≡ true). or-false (among (binders s) n) (among (binders t) n) (sym (among-append (binders s) (binders t) n) ∙ b n o) in (stays-avoids off visible above writable w s a.0 v u (λ n o. (k n o).0), stays-avoids off visible above writable w t a.1 v u (λ n o. (k n o).1))
stays-avoids off visible above writable w (assert p s) a v u b = (free-named off visible p a.0 v, stays-avoids off visible above writable w s a.1 v u b)
stays-avoids off visible above writable w (becomes_such xs p) a v u b = (
  none-in off writable visible w v (firsts xs) a.0,
  free-named off (λ n. among (seconds xs) n || visible n) p a.4 (λ n o. both-false (among (seconds xs) n) (visible n) (b n o) (v n o)),
)
stays-avoids off visible above writable w (loop p s i v) a x u b =
    let y = λ (n : ℕ) (o : off n ≡ true). both-false (above n) (visible n) (u n o) (x n o) in
    (free-named off visible p a.0 x, stays-avoids off visible above writable w s a.1 x u b, free-named off (λ n. above n || visible n) i a.2 y, free-named off (λ n. above n || visible n) v a.3 y)

-- it ends from each state that is the same in all that it may name, and in what it binds
pub ends-same : (find : Finder) (table : Table) (off visible above writable : ℕ → Bool) → Within writable visible → (s : Substitution) → StaysIn visible above writable s → ((n : ℕ) → off n ≡ true → visible n ≡ false) → ((n : ℕ) → off n ≡ true → above n ≡ false) → ((n : ℕ) → off n ≡ true → among (binders s) n ≡ false) →
    (e f : State) → ((n : ℕ) → off n ≡ false → f n ≡ e n) → Ends find table s e → Ends find table s f
ends-same find table off visible above writable w s a v u b e f same q =
    subst (Ends find table s) (λ i n. at n (off n) refl i) (ends-over find table off s (stays-avoids off visible above writable w s a v u b) f e q)
  where
    at : (n : ℕ) (x : Bool) → off n ≡ x → cond x (f n) (e n) ≡ f n
    at n true o = refl
    at n false o = sym (same n o)
