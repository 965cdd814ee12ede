-- Formulas turn only on the variables that stand in them, and substitutions change only those that they may write.
use Rattle.std.proofs.Common.{◌≡◌, inl, inr, ℕ, List, [], ◌∷◌, ◌++◌, map, refl, sym, ◌∙◌, ap, subst, Bool, true, false, not, cond, ◌&&◌, ◌||◌, nat_eq}
use Rattle.std.specs.List.{filter}
use Rattle.bk_form.proofs.Members.{or-left, or-right}
use Rattle.bk_form.specs.Table.{Table}
use Rattle.bk_form.specs.Formula.{Formula}
use Rattle.bk_form.specs.Search.{Finder}
use Rattle.bk_form.specs.Environment.{State, at_state}
use Rattle.bk_form.specs.Meaning.{Meaning}
use Rattle.bk_form.specs.Operators.{is_equal}
use Rattle.bk_gsl.specs.Substitution.{Substitution, skip, assign, pre, guard, choice, if_else, any, seq, par, assert, becomes_such, loop}
use Rattle.bk_gsl.specs.State.{holds, among, firsts}
use Rattle.bk_gsl.specs.Writes.{written}
use Rattle.bk_gsl.specs.Run.{Runs}
use Rattle.bk_gsl.proofs.States.{cases, clash, or-false, nat_eq-same, among-append}
use Rattle.bk_gsl.proofs.Runs.{outside}
use Rattle.bk_dev.specs.Development.{Level, Development}
use Rattle.bk_dev.specs.Facts.{AllAre, AssignsIn, StaysIn, Names, IsLink, names_joined, is_constant, is_variable_of, is_variable_above, home_of}
use Rattle.bk_form.specs.Each.{Each}
use Rattle.bk_dev.specs.Hypotheses.{joining}
use Rattle.bk_form.specs.Predicates.{AllHold, conjuncts, equation}
use Rattle.bk_form.proofs.Conjuncts.{true-append, true-first, true-second, parts-true, whole-true}
use Rattle.bk_form.proofs.Agreement.{meaning-state}

pub both-true : (a b : Bool) → a ≡ true → b ≡ true → a && b ≡ true
both-true true b h k = k
both-true false b h k = clash false h refl

pub both-false : (a b : Bool) → a ≡ false → b ≡ false → a || b ≡ false
both-false true b h k = clash true refl h
both-false false b h k = k

-- two states with the same values for all that a formula may name give it the same truth
pub holds-same : (find : Finder) (table : Table) (e f : State) (visible : ℕ → Bool) (p : Formula) → Names visible p → ((n : ℕ) → visible n ≡ true → e n ≡ f n) → holds find table e p ≡ holds find table f p
holds-same find table e f visible p names same = ap (λ (m : Meaning). m.truth) (meaning-state find table e f p (λ n k. same n (names.visible_only n k)))

-- ---- conjunctions
module _ (find : Finder) (table : Table) where
  links-same : (dev : Development) (k : ℕ) (ls : List (ℕ × ℕ)) → Each (IsLink dev k) ls → (e f : State) → ((n : ℕ) → names_joined dev k n ≡ true → e n ≡ f n) → AllHold find (at_state table e) (map equation ls) → AllHold find (at_state table f) (map equation ls)
  links-same dev k [] each e f same h = tt
  links-same dev k (l ∷ ls) each e f same h =
      let below = same l.0 (or-left (is_constant (home_of dev l.0) || is_variable_of k (home_of dev l.0)) (is_variable_above k (home_of dev l.0)) (or-right (is_constant (home_of dev l.0)) (is_variable_of k (home_of dev l.0)) each.0.below)) in
      let up : is_variable_above k (home_of dev l.1) ≡ true = subst (λ j. is_variable_above j (home_of dev l.1) ≡ true) (sym each.0.above.1) each.0.above.2 in
      let above = same l.1 (or-right (is_constant (home_of dev l.1) || is_variable_of k (home_of dev l.1)) (is_variable_above k (home_of dev l.1)) up) in
      (sym (λ i. is_equal (below i) (above i)) ∙ h.0, links-same dev k ls each.1 e f same h.1)

  pub joining-same : (dev : Development) (k : ℕ) (l : Level) → Names (names_joined dev k) l.invariant → Each (IsLink dev k) l.links → (e f : State) → ((n : ℕ) → names_joined dev k n ≡ true → e n ≡ f n) → AllHold find (at_state table e) (joining l) → AllHold find (at_state table f) (joining l)
  joining-same dev k l names each e f same h =
      let p = whole-true find (at_state table e) l.invariant (true-first find (at_state table e) (conjuncts l.invariant) (map equation l.links) h) in
      let q = sym (holds-same find table e f (names_joined dev k) l.invariant names same) ∙ p in
      true-append find (at_state table f) (conjuncts l.invariant) (map equation l.links) (parts-true find (at_state table f) l.invariant q) (links-same dev k l.links each e f same (true-second find (at_state table e) (conjuncts l.invariant) (map equation l.links) h))

-- ---- what is written
append-none : (xs ys : List ℕ) (n : ℕ) → among xs n ≡ false → among ys n ≡ false → among (xs ++ ys) n ≡ false
append-none xs ys n h k = among-append xs ys n ∙ both-false (among xs n) (among ys n) h k

not-same : (writable : ℕ → Bool) (n x : ℕ) → writable n ≡ false → writable x ≡ true → nat_eq n x ≡ false
not-same writable n x h k = elim (cases (nat_eq n x)) [ inl q ↦ clash (writable x) k (ap writable (sym (nat_eq-same n x q)) ∙ h) | inr q ↦ q ]

assigns-none : (visible writable : ℕ → Bool) (ps : List (ℕ × Formula)) → AssignsIn visible writable ps → (n : ℕ) → writable n ≡ false → among (firsts ps) n ≡ false
assigns-none visible writable [] a n h = refl
assigns-none visible writable (p ∷ ps) a n h = both-false (nat_eq n p.0) (among (firsts ps) n) (not-same writable n p.0 h a.0) (assigns-none visible writable ps a.3 n h)

pub all-none : (writable : ℕ → Bool) (xs : List ℕ) → AllAre writable xs → (n : ℕ) → writable n ≡ false → among xs n ≡ false
all-none writable [] a n h = refl
all-none writable (x ∷ xs) a n h = both-false (nat_eq n x) (among xs n) (not-same writable n x h a.0) (all-none writable xs a.1 n h)

pub all-among : (p : ℕ → Bool) (xs : List ℕ) → AllAre p xs → (n : ℕ) → among xs n ≡ true → p n ≡ true
all-among p [] a n h = absurd (cc)
all-among p (x ∷ xs) a n h = by_test (all-among p xs a.1 n) (nat_eq n x) refl h
  where
    by_test : (among xs n ≡ true → p n ≡ true) → (b : Bool) → nat_eq n x ≡ b → b || among xs n ≡ true → p n ≡ true
    by_test rest true q k = ap p (nat_eq-same n x q) ∙ a.0
    by_test rest false q k = rest k

-- what a filter lets out
kept-none : (test : ℕ → Bool) (xs : List ℕ) (n : ℕ) → among xs n ≡ false → among (filter test xs) n ≡ false
kept-none test [] n h = refl
kept-none test (x ∷ xs) n h =
    let w = or-false (nat_eq n x) (among xs n) h in
    let rest = kept-none test xs n w.1 in
    elim (test x) as (λ b. among (cond b (x ∷ filter test xs) (filter test xs)) n ≡ false) [ true ↦ both-false (nat_eq n x) (among (filter test xs) n) w.0 rest | false ↦ rest ]

bound-none : (zs xs : List ℕ) (n : ℕ) → among zs n ≡ true → among (filter (λ m. not (among zs m)) xs) n ≡ false
bound-none zs [] n h = refl
bound-none zs (x ∷ xs) n h = by_test (bound-none zs xs n h) (among zs x) refl
  where
    by_test : among (filter (λ m. not (among zs m)) xs) n ≡ false → (b : Bool) → among zs x ≡ b → among (cond (not b) (x ∷ filter (λ m. not (among zs m)) xs) (filter (λ m. not (among zs m)) xs)) n ≡ false
    by_test rest true q = rest
    by_test rest false q = both-false (nat_eq n x) (among (filter (λ m. not (among zs m)) xs) n) (elim (cases (nat_eq n x)) [ inl r ↦ clash (among zs x) (ap (among zs) (sym (nat_eq-same n x r)) ∙ h) q | inr r ↦ r ]) rest

pub not-written : (visible above writable : ℕ → Bool) (s : Substitution) → StaysIn visible above writable s → (n : ℕ) → writable n ≡ false → among (written s) n ≡ false
not-written visible above writable skip a n h = refl
not-written visible above writable (assign ps) a n h = assigns-none visible writable ps a n h
not-written visible above writable (pre p s) a n h = not-written visible above writable s a.1 n h
not-written visible above writable (guard p s) a n h = not-written visible above writable s a.1 n h
not-written visible above writable (choice s t) a n h = append-none (written s) (written t) n (not-written visible above writable s a.0 n h) (not-written visible above writable t a.1 n h)
not-written visible above writable (if_else p s t) a n h = append-none (written s) (written t) n (not-written visible above writable s a.1 n h) (not-written visible above writable t a.2 n h)
not-written visible above writable (any zs s) a n h = elim (cases (among zs n)) [
  | inl q ↦ bound-none zs (written s) n q
  | inr q ↦ kept-none (λ m. not (among zs m)) (written s) n (not-written (λ m. among zs m || visible m) above (λ m. among zs m || writable m) s a.2 n (both-false (among zs n) (writable n) q h))
]
not-written visible above writable (seq s t) a n h = append-none (written s) (written t) n (not-written visible above writable s a.0 n h) (not-written visible above writable t a.1 n h)
not-written visible above writable (par s t) a n h = append-none (written s) (written t) n (not-written visible above writable s a.0 n h) (not-written visible above writable t a.1 n h)
not-written visible above writable (assert p s) a n h = not-written visible above writable s a.1 n h
not-written visible above writable (becomes_such xs p) a n h = all-none writable (firsts xs) a.0 n h
not-written visible above writable (loop p s i v) a n h = not-written visible above writable s a.1 n h

-- a run changes nothing that may not be written
pub unchanged : (find : Finder) (table : Table) (visible above writable : ℕ → Bool) (s : Substitution) → StaysIn visible above writable s → (e f : State) → Runs find table s e f → (n : ℕ) → writable n ≡ false → f n ≡ e n
unchanged find table visible above writable s a e f r n h = outside find table s e f r n (not-written visible above writable s a n h)
