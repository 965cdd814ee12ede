-- || by copies does what || does.
use Rattle.std.proofs.Common.{◌≡◌, inl, inr, ℕ, List, [], ◌∷◌, map, refl, sym, ◌∙◌, ap, subst, Bool, true, false, cond, ◌||◌, nat_eq}
use Rattle.std.specs.Prelude.{Some, unwrap_or}
use Rattle.bk_val.specs.ValueType.{ValueType, bool_type, is_value_of}
use Rattle.bk_val.specs.CmpLaws.{same_value, value_eq-self}
use Rattle.bk_form.specs.Table.{Table, set_size, variable_type, IsWellFormed}
use Rattle.bk_form.specs.Formula.{Formula, binary}
use Rattle.bk_form.specs.Operators.{is_equal}
use Rattle.bk_form.specs.Search.{Finder}
use Rattle.bk_form.specs.Environment.{State, IsTypedState}
use Rattle.bk_form.specs.Predicates.{equation}
use Rattle.bk_form.specs.Wider.{IsWider}
use Rattle.bk_form.specs.declared.operator.BinOp.TheVariants.{And}
use Rattle.bk_form.proofs.Members.{or-left, or-right, and-both, and-true}
use Rattle.bk_form.proofs.Widening.{variable-wider, variables_listed, value-same}
use Rattle.bk_gsl.specs.Substitution.{Substitution, guard, seq}
use Rattle.bk_gsl.specs.State.{holds, declared_type, are_values_for, with_value, with_values, among, over, firsts}
use Rattle.bk_gsl.specs.Writes.{written}
use Rattle.bk_gsl.specs.Run.{Runs, Ends}
use Rattle.bk_gsl.specs.Typed.{IsListed, AreTypedPairs}
use Rattle.bk_gsl.specs.Avoids.{NoneIn, Avoids}
use Rattle.bk_gsl.specs.Flat.{reading, copy_of, equations_onto, by_copies, IsFlat}
use Rattle.bk_gsl.proofs.States.{cases, clash, or-false, nat_eq-same, nat_eq-self, over-at, over-off, with_values-out}
use Rattle.bk_gsl.proofs.Runs.{outside}
use Rattle.bk_gsl.proofs.Outside.{written-avoided, runs-over, ends-over}
use Rattle.bk_par.specs.Bindings.{seconds}
use Rattle.bk_par.proofs.OtherNames.{reading-written, Leaves, runs-seen, runs-unseen, ends-seen, ends-unseen}
use Rattle.bk_par.proofs.Numbers.{Distinct, copies-replace}

-- ---- pairs of a copy and its variable
-- for each copy and its variable
abbrev pub EachPair : (ℕ → ℕ → Type 0) → List (ℕ × ℕ) → Type 0
EachPair P [] = Unit {0}
EachPair P (p ∷ ps) = P p.0 p.1 × EachPair P ps

each-more : (P Q : ℕ → ℕ → Type 0) (ps : List (ℕ × ℕ)) → ((c x : ℕ) → P c x → Q c x) → EachPair P ps → EachPair Q ps
each-more P Q [] h k = tt
each-more P Q (p ∷ ps) h k = (h p.0 p.1 k.0, each-more P Q ps h k.1)

-- each copy has the value of its variable
abbrev pub HaveCopies : State → List (ℕ × ℕ) → Type 0
HaveCopies e ps = EachPair (λ c x. e c ≡ e x) ps

copied-at : (ps : List (ℕ × ℕ)) (e : State) → HaveCopies e ps → (n : ℕ) → e (copy_of ps n) ≡ e n
copied-at [] e h n = refl
copied-at (p ∷ ps) e h n = by_test (nat_eq n p.1) refl (copied-at ps e h.1 n)
  where
    by_test : (b : Bool) → nat_eq n p.1 ≡ b → e (copy_of ps n) ≡ e n → e (cond b p.0 (copy_of ps n)) ≡ e n
    by_test true k l = h.0 ∙ ap e (sym (nat_eq-same n p.1 k))
    by_test false k l = l

copy-out : (ps : List (ℕ × ℕ)) (n : ℕ) → among (seconds ps) n ≡ false → copy_of ps n ≡ n
copy-out [] n h = refl
copy-out (p ∷ ps) n h = let k = or-false (nat_eq n p.1) (among (seconds ps) n) h in ap (λ b. cond b p.0 (copy_of ps n)) k.0 ∙ copy-out ps n k.1

copy-in : (ps : List (ℕ × ℕ)) (n : ℕ) → among (seconds ps) n ≡ true → among (firsts ps) (copy_of ps n) ≡ true
copy-in [] n h = absurd (cc)
copy-in (p ∷ ps) n h = by_test (λ l. copy-in ps n l) (nat_eq n p.1) h
  where
    by_test : (among (seconds ps) n ≡ true → among (firsts ps) (copy_of ps n) ≡ true) → (b : Bool) → (b || among (seconds ps) n) ≡ true → (nat_eq (cond b p.0 (copy_of ps n)) p.0 || among (firsts ps) (cond b p.0 (copy_of ps n))) ≡ true
    by_test on true l = or-left (nat_eq p.0 p.0) (among (firsts ps) p.0) (nat_eq-self p.0)
    by_test on false l = or-right (nat_eq (copy_of ps n) p.0) (among (firsts ps) (copy_of ps n)) (on l)

-- the variable that the number is a copy of
abbrev source : List (ℕ × ℕ) → ℕ → ℕ
source [] n = n
source (p ∷ ps) n = cond (nat_eq n p.0) p.1 (source ps n)

-- each copy has its variable for its source
sources : (ps : List (ℕ × ℕ)) → Distinct (firsts ps) → EachPair (λ c x. (among (firsts ps) c ≡ true) × (among (seconds ps) x ≡ true) × (source ps c ≡ x)) ps
sources [] d = tt
sources (p ∷ ps) d = (
  (or-left (nat_eq p.0 p.0) (among (firsts ps) p.0) (nat_eq-self p.0), or-left (nat_eq p.1 p.1) (among (seconds ps) p.1) (nat_eq-self p.1), ap (λ b. cond b p.1 (source ps p.0)) (nat_eq-self p.0)),
  each-more (λ c x. (among (firsts ps) c ≡ true) × (among (seconds ps) x ≡ true) × (source ps c ≡ x)) (λ c x. (among (firsts (p ∷ ps)) c ≡ true) × (among (seconds (p ∷ ps)) x ≡ true) × (source (p ∷ ps) c ≡ x)) ps
      (λ c x h. (
        or-right (nat_eq c p.0) (among (firsts ps) c) h.0,
        or-right (nat_eq x p.1) (among (seconds ps) x) h.1,
        elim (cases (nat_eq c p.0)) [
          | inl k ↦ clash (among (firsts ps) c) h.0 (ap (among (firsts ps)) (nat_eq-same c p.0 k) ∙ d.0)
          | inr k ↦ ap (λ b. cond b p.1 (source ps c)) k ∙ h.2
        ],
      ))
      (sources ps d.1),
)

-- a copy and its source have one type
source-typed : (table : Table) (ps : List (ℕ × ℕ)) → AreTypedPairs table ps → (c : ℕ) → among (firsts ps) c ≡ true → (among (seconds ps) (source ps c) ≡ true) × ((t : ValueType) × (variable_type table c ≡ Some t) × (variable_type table (source ps c) ≡ Some t))
source-typed table [] w c h = absurd (cc)
source-typed table (p ∷ ps) w c h = by_test (λ l. source-typed table ps w.1 c l) (nat_eq c p.0) refl h
  where
    by_test : (among (firsts ps) c ≡ true → (among (seconds ps) (source ps c) ≡ true) × ((t : ValueType) × (variable_type table c ≡ Some t) × (variable_type table (source ps c) ≡ Some t))) → (b : Bool) → nat_eq c p.0 ≡ b → (b || among (firsts ps) c) ≡ true →
        ((nat_eq (cond b p.1 (source ps c)) p.1 || among (seconds ps) (cond b p.1 (source ps c))) ≡ true) × ((t : ValueType) × (variable_type table c ≡ Some t) × (variable_type table (cond b p.1 (source ps c)) ≡ Some t))
    by_test on true q l = (or-left (nat_eq p.1 p.1) (among (seconds ps) p.1) (nat_eq-self p.1), (w.0.0, ap (variable_type table) (nat_eq-same c p.0 q) ∙ w.0.1, w.0.2))
    by_test on false q l = let k = on l in (or-right (nat_eq (source ps c) p.1) (among (seconds ps) (source ps c)) k.0, k.1)

-- ---- the equations
equations-then : (find : Finder) (table : Table) (e : State) (ps : List (ℕ × ℕ)) (f : Formula) → holds find table e (equations_onto f ps) ≡ true → (holds find table e f ≡ true) × HaveCopies e ps
equations-then find table e [] f h = (h, tt)
equations-then find table e (p ∷ ps) f h =
    let k = equations-then find table e ps (binary And f (equation p)) h in
    let w = and-both (holds find table e f) (holds find table e (equation p)) k.0 in
    (w.0, (same_value (e p.0) (e p.1) w.1, k.1))

equation-if : (find : Finder) (table : Table) (e : State) (p : ℕ × ℕ) → e p.0 ≡ e p.1 → holds find table e (equation p) ≡ true
equation-if find table e p h = ap (λ v. is_equal (e p.0) v) (sym h) ∙ value_eq-self (e p.0)

equations-if : (find : Finder) (table : Table) (e : State) (ps : List (ℕ × ℕ)) (f : Formula) → holds find table e f ≡ true → HaveCopies e ps → holds find table e (equations_onto f ps) ≡ true
equations-if find table e [] f h k = h
equations-if find table e (p ∷ ps) f h k = equations-if find table e ps (binary And f (equation p)) (and-true (holds find table e f) (holds find table e (equation p)) h (equation-if find table e p k.0)) k.1

pairs-then : (find : Finder) (table : Table) (e : State) (p : ℕ × ℕ) (ps : List (ℕ × ℕ)) → holds find table e (equations_onto (equation p) ps) ≡ true → HaveCopies e (p ∷ ps)
pairs-then find table e p ps h = let k = equations-then find table e ps (equation p) h in (same_value (e p.0) (e p.1) k.0, k.1)

pairs-if : (find : Finder) (table : Table) (e : State) (p : ℕ × ℕ) (ps : List (ℕ × ℕ)) → HaveCopies e (p ∷ ps) → holds find table e (equations_onto (equation p) ps) ≡ true
pairs-if find table e p ps k = equations-if find table e ps (equation p) (equation-if find table e p k.0) k.1

-- ---- values for all of the copies
with-all : (e f : State) (zs : List ℕ) → ((n : ℕ) → among zs n ≡ false → f n ≡ e n) → (n : ℕ) → with_values e zs (map f zs) n ≡ f n
with-all e f [] h n = sym (h n refl)
with-all e f (z ∷ zs) h n = with-all (with_value e z (f z)) f zs (λ m k. at m k) n
  where
    at : (m : ℕ) → among zs m ≡ false → f m ≡ with_value e z (f z) m
    at m k = elim (cases (nat_eq m z)) [
      | inl q ↦ ap f (nat_eq-same m z q) ∙ sym (ap (λ b. cond b (f z) (e m)) q)
      | inr q ↦ h m (ap (λ b. b || among zs m) q ∙ k) ∙ sym (ap (λ b. cond b (f z) (e m)) q)
    ]

values-all : (table : Table) (f : State) (zs : List ℕ) → ((n : ℕ) → among zs n ≡ true → is_value_of (set_size table) (declared_type table n) (f n) ≡ true) → are_values_for table zs (map f zs) ≡ true
values-all table f [] h = refl
values-all table f (z ∷ zs) h = and-true (is_value_of (set_size table) (declared_type table z) (f z)) (are_values_for table zs (map f zs)) (h z (or-left (nat_eq z z) (among zs z) (nat_eq-self z))) (values-all table f zs (λ n k. h n (or-right (nat_eq n z) (among zs n) k)))

-- ---- both sides
-- the copies are new, of the types of the variables that s writes, which the small table lists; t neither writes nor binds those
pub record Copies (small table : Table) (ps : List (ℕ × ℕ)) (s t : Substitution) (isx : ℕ → Bool) : Type 0 where
  pub of_writes : (n : ℕ) → among (seconds ps) n ≡ isx n
  pub distinct : Distinct (firsts ps)
  pub apart : (n : ℕ) → isx n ≡ true → among (firsts ps) n ≡ false
  pub typed : AreTypedPairs table ps
  pub listed : (n : ℕ) → isx n ≡ true → IsListed small n
  pub fresh_left : Avoids (λ n. among (firsts ps) n) s
  pub fresh_right : Avoids (λ n. among (firsts ps) n) t
  pub writes_left : (n : ℕ) → isx n ≡ false → among (written s) n ≡ false
  pub leaves_right : Leaves (λ n. isx n || among (firsts ps) n) t
  pub keeps_right : NoneIn (λ n. isx n || among (firsts ps) n) (written t)

module _ (find : Finder) (small table : Table) (ps : List (ℕ × ℕ)) (s t : Substitution) (isx : ℕ → Bool) (flat : IsFlat t) (g : Copies small table ps s t isx) where
  abbrev isc : ℕ → Bool
  isc n = among (firsts ps) n

  abbrev off : ℕ → Bool
  off n = isx n || isc n

  abbrev by : ℕ → ℕ
  by n = copy_of ps n

  by-out : (n : ℕ) → isx n ≡ false → by n ≡ n
  by-out n h = copy-out ps n (g.of_writes n ∙ h)

  by-in : (n : ℕ) → isx n ≡ true → isc (by n) ≡ true
  by-in n h = copy-in ps n (g.of_writes n ∙ h)

  at-copy : (n : ℕ) → isc n ≡ true → isx n ≡ false
  at-copy n h = elim (cases (isx n)) [ inl k ↦ clash (isc n) h (g.apart n k) | inr k ↦ k ]

  stays : (n : ℕ) → off n ≡ false → by n ≡ n
  stays n h = by-out n (or-false (isx n) (isc n) h).0

  moves : (n : ℕ) → off n ≡ true → off (by n) ≡ true
  moves n h = elim (cases (isx n)) [
    | inl k ↦ or-right (isx (by n)) (isc (by n)) (by-in n k)
    | inr k ↦ subst (λ m. off m ≡ true) (sym (by-out n k)) h
  ]

  kept-left : (e a : State) → Runs find table s e a → (n : ℕ) → isc n ≡ true → a n ≡ e n
  kept-left e a r n h = outside find table s e a r n (written-avoided isc s g.fresh_left n h)

  kept-right : (e b : State) → Runs find table t e b → (n : ℕ) → isc n ≡ true → b n ≡ e n
  kept-right e b r n h = outside find table t e b r n (written-avoided isc t g.fresh_right n h)

  renamed-out : (a c : State) → Runs find table (reading (copy_of ps) t) a c → (n : ℕ) → off n ≡ true → c n ≡ a n
  renamed-out a c q n h = outside find table (reading (copy_of ps) t) a c q n (ap (λ z. among z n) (reading-written (copy_of ps) t) ∙ g.keeps_right n h)

  module _ (e d : State) (at : (n : ℕ) → isc n ≡ false → d n ≡ e n) (h : (n : ℕ) → d (by n) ≡ d n) where
    -- where s has run from d, the right side reads what d has
    seen-left : (a : State) → Runs find table s d a → (λ n. a (by n)) ≡ d
    seen-left a r = λ i n. here n i
      where
        here : (n : ℕ) → a (by n) ≡ d n
        here n = elim (cases (isx n)) [
          | inl k ↦ kept-left d a r (by n) (by-in n k) ∙ h n
          | inr k ↦ ap a (by-out n k) ∙ outside find table s d a r n (g.writes_left n k)
        ]

    to-copy : over isc d e ≡ d
    to-copy = λ i n. here n i
      where
        here : (n : ℕ) → over isc d e n ≡ d n
        here n = elim (cases (isc n)) [ inl k ↦ over-at isc d e n k | inr k ↦ over-off isc d e n k ∙ sym (at n k) ]

    from-copy : over isc e d ≡ e
    from-copy = λ i n. here n i
      where
        here : (n : ℕ) → over isc e d n ≡ e n
        here n = elim (cases (isc n)) [ inl k ↦ over-at isc e d n k | inr k ↦ over-off isc e d n k ∙ at n k ]

    -- both sides from e, and one after the other from the copy
    split-runs : (a b : State) → Runs find table s e a → Runs find table t e b → (c : State) × Runs find table s d (over isc d a) × Runs find table (reading (copy_of ps) t) (over isc d a) c × (over isc e c ≡ over isx a b)
    split-runs a b p q =
        let pa = subst (λ x. Runs find table s x (over isc d a)) to-copy (runs-over find table isc s g.fresh_left d e a p) in
        let pb = subst (λ x. Runs find table t x (over isc d b)) to-copy (runs-over find table isc t g.fresh_right d e b q) in
        let w = runs-unseen find table off (copy_of ps) (copies-replace table ps g.typed) stays moves t flat g.leaves_right (over isc d a) (over isc d b) (subst (λ x. Runs find table t x (over isc d b)) (sym (seen-left (over isc d a) pa)) pb) in
        (w.0, pa, w.1, λ i n. join a b q w.0 w.1 w.2 n i)
      where
        join : (a b : State) → Runs find table t e b → (c : State) → Runs find table (reading (copy_of ps) t) (over isc d a) c → (λ n. c (by n)) ≡ over isc d b → (n : ℕ) → over isc e c n ≡ over isx a b n
        join a b q c r m n = elim (cases (isc n)) [
          | inl k ↦ over-at isc e c n k ∙ sym (kept-right e b q n k) ∙ sym (over-off isx a b n (at-copy n k))
          | inr k ↦ over-off isc e c n k ∙ elim (cases (isx n)) [
            | inl l ↦ renamed-out (over isc d a) c r n (or-left (isx n) (isc n) l) ∙ over-off isc d a n k ∙ sym (over-at isx a b n l)
            | inr l ↦ ap c (sym (by-out n l)) ∙ ap (λ z. z n) m ∙ over-off isc d b n k ∙ sym (over-off isx a b n l)
          ]
        ]

    join-runs : (a c : State) → Runs find table s d a → Runs find table (reading (copy_of ps) t) a c → Runs find table s e (over isc e a) × Runs find table t e (over isc e (λ n. c (by n))) × (over isc e c ≡ over isx (over isc e a) (over isc e (λ n. c (by n))))
    join-runs a c p q =
        let pa = subst (λ x. Runs find table s x (over isc e a)) from-copy (runs-over find table isc s g.fresh_left e d a p) in
        let r = subst (λ x. Runs find table t x (λ n. c (by n))) (seen-left a p) (runs-seen find table off (copy_of ps) (copies-replace table ps g.typed) stays moves t flat g.leaves_right a c q) in
        let pb = subst (λ x. Runs find table t x (over isc e (λ n. c (by n)))) from-copy (runs-over find table isc t g.fresh_right e d (λ n. c (by n)) r) in
        (pa, pb, λ i n. join n i)
      where
        join : (n : ℕ) → over isc e c n ≡ over isx (over isc e a) (over isc e (λ n. c (by n))) n
        join n = elim (cases (isx n)) [
          | inl l ↦ over-off isc e c n (g.apart n l) ∙ renamed-out a c q n (or-left (isx n) (isc n) l) ∙ sym (over-at isx (over isc e a) (over isc e (λ n. c (by n))) n l ∙ over-off isc e a n (g.apart n l))
          | inr l ↦ ap (cond (isc n) (e n)) (ap c (sym (by-out n l))) ∙ sym (over-off isx (over isc e a) (over isc e (λ n. c (by n))) n l)
        ]

    ends-copy : Ends find table s e → Ends find table t e → Ends find table s d × ((a : State) → Runs find table s d a → Ends find table (reading (copy_of ps) t) a)
    ends-copy p q = (
      subst (Ends find table s) to-copy (ends-over find table isc s g.fresh_left d e p),
      λ a r. ends-unseen find table off (copy_of ps) (copies-replace table ps g.typed) stays moves t flat g.leaves_right a (subst (Ends find table t) (sym (seen-left a r)) (subst (Ends find table t) to-copy (ends-over find table isc t g.fresh_right d e q))),
    )

    ends-back : Ends find table s d → ((a : State) → Runs find table s d a → Ends find table (reading (copy_of ps) t) a) → (a : State) → Runs find table s e a → Ends find table s e × Ends find table t e
    ends-back p q a r =
        let ra = subst (λ x. Runs find table s x (over isc d a)) to-copy (runs-over find table isc s g.fresh_left d e a r) in
        let et = subst (Ends find table t) (seen-left (over isc d a) ra) (ends-seen find table off (copy_of ps) (copies-replace table ps g.typed) stays moves t flat g.leaves_right (over isc d a) (q (over isc d a) ra)) in
        (subst (Ends find table s) from-copy (ends-over find table isc s g.fresh_left e d p), subst (Ends find table t) from-copy (ends-over find table isc t g.fresh_right e d et))

-- ---- the state with the copies made
module _ (find : Finder) (small table : Table) (well : IsWellFormed small) (wider : IsWider small table) (isx : ℕ → Bool) where
  abbrev copy : List (ℕ × ℕ) → State → State
  copy ps e = over (λ n. among (firsts ps) n) (λ n. e (source ps n)) e

  copy-pairs : (ps : List (ℕ × ℕ)) (s t : Substitution) → Copies small table ps s t isx → (e : State) → HaveCopies (copy ps e) ps
  copy-pairs ps s t g e = each-more (λ c x. (among (firsts ps) c ≡ true) × (among (seconds ps) x ≡ true) × (source ps c ≡ x)) (λ c x. copy ps e c ≡ copy ps e x) ps
      (λ c x h. over-at (λ n. among (firsts ps) n) (λ n. e (source ps n)) e c h.0 ∙ ap e h.2 ∙ sym (over-off (λ n. among (firsts ps) n) (λ n. e (source ps n)) e x (g.apart x (sym (g.of_writes x) ∙ h.1))))
      (sources ps g.distinct)

  copy-set : (ps : List (ℕ × ℕ)) (e : State) → with_values e (firsts ps) (map (copy ps e) (firsts ps)) ≡ copy ps e
  copy-set ps e = λ i n. with-all e (copy ps e) (firsts ps) (λ m k. over-off (λ n. among (firsts ps) n) (λ n. e (source ps n)) e m k) n i

  -- from a typed state the copies have values of their types
  copy-typed : (ps : List (ℕ × ℕ)) (s t : Substitution) → Copies small table ps s t isx → (e : State) → IsTypedState small e → are_values_for table (firsts ps) (map (copy ps e) (firsts ps)) ≡ true
  copy-typed ps s t g e o = values-all table (copy ps e) (firsts ps) at
    where
      same-type : (c x : ℕ) (t u : ValueType) → variable_type table c ≡ Some t → variable_type table x ≡ Some t → variable_type table x ≡ Some u → declared_type table c ≡ u
      same-type c x t u h k l = let z : Some t ≡ Some u = sym k ∙ l in let q : t ≡ u = cc z in ap (λ y. unwrap_or y bool_type) h ∙ q

      at : (c : ℕ) → among (firsts ps) c ≡ true → is_value_of (set_size table) (declared_type table c) (copy ps e c) ≡ true
      at c h =
          let k = source-typed table ps g.typed c h in
          let l = g.listed (source ps c) (sym (g.of_writes (source ps c)) ∙ k.0) in
          let up = variable-wider small table well wider (source ps c) l.0 l.1 in
          let v = value-same small table well wider l.0 (variables_listed small table well wider (source ps c) l.0 l.1) (e (source ps c)) ∙ o.typed (source ps c) l.0 l.1 in
          (λ i. is_value_of (set_size table) (same-type c (source ps c) k.1.0 l.0 k.1.1 k.1.2 up i) (over-at (λ n. among (firsts ps) n) (λ n. e (source ps n)) e c h i)) ∙ v

  none-written : (s t : Substitution) → Copies small table [] s t isx → (e a : State) → Runs find table s e a → a ≡ e
  none-written s t g e a r = λ i n. outside find table s e a r n (g.writes_left n (sym (g.of_writes n))) i

  -- || from a typed state runs as its rewriting does
  pub par-runs : (ps : List (ℕ × ℕ)) (s t : Substitution) → IsFlat t → Copies small table ps s t isx → (e : State) → IsTypedState small e → (a b x : State) → Runs find table s e a → Runs find table t e b → x ≡ over isx a b → Runs find table (by_copies ps s t) e x
  par-runs [] s t f g e o a b x p q j =
      let same = none-written s t g e a p in
      let whole : x ≡ b = j ∙ (λ i n. over-off isx a b n (sym (g.of_writes n)) i) in
      (a, p, subst (λ z. Runs find table t a z) (sym whole) (subst (λ z. Runs find table t z b) (sym same) q))
  par-runs (p ∷ ps) s t f g e o a b x r q j =
      let qs : List (ℕ × ℕ) = p ∷ ps in
      let d = copy qs e in
      let h = copy-pairs qs s t g e in
      let w = split-runs find small table qs s t isx f g e d (λ n k. over-off (λ n. among (firsts qs) n) (λ n. e (source qs n)) e n k) (copied-at qs d h) a b r q in
      let body = guard (equations_onto (equation p) ps) (seq s (reading (copy_of qs) t)) in
      (map d (firsts qs), copy-typed qs s t g e o, (w.0, subst (λ z. Runs find table body z w.0) (sym (copy-set qs e)) (pairs-if find table d p ps h, (over (λ n. among (firsts qs) n) d a, w.1, w.2)), j ∙ sym w.3))

  pub par-back : (ps : List (ℕ × ℕ)) (s t : Substitution) → IsFlat t → Copies small table ps s t isx → (e x : State) → Runs find table (by_copies ps s t) e x → (a b : State) × Runs find table s e a × Runs find table t e b × (x ≡ over isx a b)
  par-back [] s t f g e x q =
      let same : q.0 ≡ e = none-written s t g e q.0 q.1 in
      (q.0, x, q.1, subst (λ z. Runs find table t z x) same q.2, λ i n. sym (over-off isx q.0 x n (sym (g.of_writes n))) i)
  par-back (p ∷ ps) s t f g e x q =
      let qs : List (ℕ × ℕ) = p ∷ ps in
      let d = with_values e (firsts qs) q.0 in
      let r = q.2.1 in
      let w = join-runs find small table qs s t isx f g e d (λ n k. with_values-out e (firsts qs) q.0 n k) (copied-at qs d (pairs-then find table d p ps r.0)) r.1.0 q.2.0 r.1.1 r.1.2 in
      (over (λ n. among (firsts qs) n) e r.1.0, over (λ n. among (firsts qs) n) e (λ n. q.2.0 (copy_of qs n)), w.0, w.1, q.2.2 ∙ w.2)

  pub par-ends : (ps : List (ℕ × ℕ)) (s t : Substitution) → IsFlat t → Copies small table ps s t isx → (e : State) → Ends find table s e → Ends find table t e → Ends find table (by_copies ps s t) e
  par-ends [] s t f g e p q = (p, λ a r. subst (Ends find table t) (sym (none-written s t g e a r)) q)
  par-ends (p ∷ ps) s t f g e r q = λ vs o h.
      let qs : List (ℕ × ℕ) = p ∷ ps in
      let d = with_values e (firsts qs) vs in
      ends-copy find small table qs s t isx f g e d (λ n k. with_values-out e (firsts qs) vs n k) (copied-at qs d (pairs-then find table d p ps h)) r q

  -- and the reverse where the left side has a result
  pub par-ends-back : (ps : List (ℕ × ℕ)) (s t : Substitution) → IsFlat t → Copies small table ps s t isx → (e a : State) → IsTypedState small e → Runs find table s e a → Ends find table (by_copies ps s t) e → Ends find table s e × Ends find table t e
  par-ends-back [] s t f g e a o r q = (q.0, subst (Ends find table t) (none-written s t g e a r) (q.1 a r))
  par-ends-back (p ∷ ps) s t f g e a o r q =
      let qs : List (ℕ × ℕ) = p ∷ ps in
      let d = copy qs e in
      let h = copy-pairs qs s t g e in
      let body = guard (equations_onto (equation p) ps) (seq s (reading (copy_of qs) t)) in
      let w = subst (Ends find table body) (copy-set qs e) (q (map d (firsts qs)) (copy-typed qs s t g e o)) (pairs-if find table d p ps h) in
      ends-back find small table qs s t isx f g e d (λ n k. over-off (λ n. among (firsts qs) n) (λ n. e (source qs n)) e n k) (copied-at qs d h) w.0 w.1 a r
