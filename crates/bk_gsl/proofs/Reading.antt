-- What is read decides: from states that agree in all that a substitution reads it ends, is clean and runs alike.
use Rattle.std.proofs.Common.{◌≡◌, ◌⊎◌, inl, inr, ℕ, zero, suc, List, [], ◌∷◌, ◌++◌, map, refl, sym, ◌∙◌, ap, subst, Bool, true, false, not, ◌||◌, cond, nat_eq, arith}
use Rattle.std.specs.Prelude.{Option, Some, None, unwrap_or}
use Rattle.std.proofs.lemmas.Bool.Decides.{nat_tests}
use Rattle.bk_val.specs.Value.{MathValue}
use Rattle.bk_val.specs.ValueType.{is_value_of}
use Rattle.bk_form.specs.Table.{Table, set_size}
use Rattle.bk_form.specs.Formula.{Formula, variable, unary, binary, for_all, for_some, comprehension, lambda, Formulas, no_formulas, formula_and}
use Rattle.bk_form.specs.Search.{Finder}
use Rattle.bk_form.specs.Environment.{State, at_state}
use Rattle.bk_form.specs.Replacement.{occurs, any_occurs, looked_up}
use Rattle.bk_form.specs.Defined.{Defined, Fits, is_index}
use Rattle.bk_form.specs.ArrayTable.{ArrayTable, row_of}
use Rattle.bk_form.specs.declared.arrays.ArrayRow.{ArrayRow}
use Rattle.bk_form.specs.declared.operator.UnOp.TheVariants.{Single}
use Rattle.bk_form.specs.declared.operator.BinOp.TheVariants.{Over, Maps}
use Rattle.bk_form.proofs.Agreement.{meaning-state, defined-agrees, fits-agrees}
use Rattle.bk_form.proofs.Members.{and-both, or-cases, or-left, or-right}
use Rattle.bk_gsl.specs.Substitution.{Substitution, skip, assign, pre, guard, choice, if_else, any, seq, par, assert, becomes_such, loop}
use Rattle.bk_gsl.specs.State.{holds, value_at, declared_type, are_values_for, with_value, with_values, among, over, firsts, AgreeOn}
use Rattle.bk_gsl.specs.Writes.{written}
use Rattle.bk_gsl.specs.Reads.{variables_of, all_variables_of, variables_of_terms, outside, read}
use Rattle.bk_gsl.specs.Run.{assigned, old_of, with_old, Turns, Runs, Bounded, Ends}
use Rattle.bk_gsl.specs.Clean.{IsEvaluable, write_of, IsCleanWrite, IsCleanAt, IsCleanTerm, AreCleanTerms, Reached, Clean}
use Rattle.bk_gsl.specs.Laws.{ReadDecides}
use Rattle.bk_gsl.proofs.States.{cases, clash, nat_eq-same, nat_eq-self, over-at, over-off, with_values-out, with_values-same, among-append}

-- ---- lists
pub among-cases : (xs ys : List ℕ) (n : ℕ) → among (xs ++ ys) n ≡ true → (among xs n ≡ true) ⊎ (among ys n ≡ true)
among-cases xs ys n h = or-cases (among xs n) (among ys n) (sym (among-append xs ys n) ∙ h)

pub among-left : (xs ys : List ℕ) (n : ℕ) → among xs n ≡ true → among (xs ++ ys) n ≡ true
among-left xs ys n h = among-append xs ys n ∙ or-left (among xs n) (among ys n) h

pub among-right : (xs ys : List ℕ) (n : ℕ) → among ys n ≡ true → among (xs ++ ys) n ≡ true
among-right xs ys n h = among-append xs ys n ∙ or-right (among xs n) (among ys n) h

pub among-outside : (zs xs : List ℕ) (n : ℕ) → among xs n ≡ true → among zs n ≡ false → among (outside zs xs) n ≡ true
among-outside zs [] n h k = h
among-outside zs (x ∷ xs) n h k = by_test (λ l. among-outside zs xs n l k) (among zs x) refl
  where
    later : (among xs n ≡ true → among (outside zs xs) n ≡ true) → nat_eq n x ≡ false → among (outside zs xs) n ≡ true
    later on q = elim (or-cases (nat_eq n x) (among xs n) h) [ inl y ↦ clash (nat_eq n x) y q | inr y ↦ on y ]

    other : among zs x ≡ true → nat_eq n x ≡ false
    other q = elim (cases (nat_eq n x)) [ inl r ↦ clash (among zs x) q (ap (among zs) (sym (nat_eq-same n x r)) ∙ k) | inr r ↦ r ]

    by_test : (among xs n ≡ true → among (outside zs xs) n ≡ true) → (b : Bool) → among zs x ≡ b → among (cond (not b) (x ∷ outside zs xs) (outside zs xs)) n ≡ true
    by_test on true q = later on (other q)
    by_test on false q = elim (or-cases (nat_eq n x) (among xs n) h) [ inl y ↦ or-left (nat_eq n x) (among (outside zs xs) n) y | inr y ↦ or-right (nat_eq n x) (among (outside zs xs) n) (on y) ]

pub among-map : (by : ℕ → ℕ) (xs : List ℕ) (m : ℕ) → among xs m ≡ true → among (map by xs) (by m) ≡ true
among-map by [] m h = absurd (cc)
among-map by (x ∷ xs) m h = elim (or-cases (nat_eq m x) (among xs m) h) [
  | inl q ↦ or-left (nat_eq (by m) (by x)) (among (map by xs) (by m)) (subst (λ y. nat_eq (by m) (by y) ≡ true) (nat_eq-same m x q) (nat_eq-self (by m)))
  | inr q ↦ or-right (nat_eq (by m) (by x)) (among (map by xs) (by m)) (among-map by xs m q)
]

pub turned : (m n : ℕ) → nat_eq m n ≡ true → nat_eq n m ≡ true
turned m n h = grind (arith, nat_tests)

-- what is not bound
pub outside-then : (zs xs : List ℕ) (n : ℕ) → among (outside zs xs) n ≡ true → (among xs n ≡ true) × (among zs n ≡ false)
outside-then zs [] n h = absurd (cc)
outside-then zs (x ∷ xs) n h = by_test (λ l. outside-then zs xs n l) (among zs x) refl h
  where
    by_test : (among (outside zs xs) n ≡ true → (among xs n ≡ true) × (among zs n ≡ false)) → (b : Bool) → among zs x ≡ b → among (cond (not b) (x ∷ outside zs xs) (outside zs xs)) n ≡ true → ((nat_eq n x || among xs n) ≡ true) × (among zs n ≡ false)
    by_test on true q l = let k = on l in (or-right (nat_eq n x) (among xs n) k.0, k.1)
    by_test on false q l = elim (or-cases (nat_eq n x) (among (outside zs xs) n) l) [
      | inl y ↦ (or-left (nat_eq n x) (among xs n) y, ap (among zs) (nat_eq-same n x y) ∙ q)
      | inr y ↦ let k = on y in (or-right (nat_eq n x) (among xs n) k.0, k.1)
    ]

pub map-then : (by : ℕ → ℕ) (xs : List ℕ) (n : ℕ) → among (map by xs) n ≡ true → (m : ℕ) × (among xs m ≡ true) × (n ≡ by m)
map-then by [] n h = absurd (cc)
map-then by (x ∷ xs) n h = elim (or-cases (nat_eq n (by x)) (among (map by xs) n) h) [
  | inl q ↦ (x, or-left (nat_eq x x) (among xs x) (nat_eq-self x), nat_eq-same n (by x) q)
  | inr q ↦ let k = map-then by xs n q in (k.0, or-right (nat_eq k.0 x) (among xs k.0) k.1, k.2)
]

-- ---- formulas
mutual
  pub occurs-variables : (f : Formula) (n : ℕ) → occurs n f ≡ true → among (variables_of f) n ≡ true
  occurs-variables (variable m) n h = or-left (nat_eq n m) false (turned m n h)
  occurs-variables (unary o f) n h = occurs-variables f n h
  occurs-variables (binary o f g) n h = elim (or-cases (occurs n f) (occurs n g) h) [
    | inl q ↦ among-left (variables_of f) (variables_of g) n (occurs-variables f n q)
    | inr q ↦ among-right (variables_of f) (variables_of g) n (occurs-variables g n q)
  ]
  occurs-variables (for_all ts p) n h = occurs-variables p n h
  occurs-variables (for_some ts p) n h = occurs-variables p n h
  occurs-variables (comprehension rs p) n h = elim (or-cases (any_occurs n rs) (occurs n p) h) [
    | inl q ↦ among-left (all_variables_of rs) (variables_of p) n (any-occurs-variables rs n q)
    | inr q ↦ among-right (all_variables_of rs) (variables_of p) n (occurs-variables p n q)
  ]
  occurs-variables (lambda rs p v) n h = elim (or-cases (any_occurs n rs || occurs n p) (occurs n v) h) [
    | inl k ↦ elim (or-cases (any_occurs n rs) (occurs n p) k) [
      | inl q ↦ among-left (all_variables_of rs ++ variables_of p) (variables_of v) n (among-left (all_variables_of rs) (variables_of p) n (any-occurs-variables rs n q))
      | inr q ↦ among-left (all_variables_of rs ++ variables_of p) (variables_of v) n (among-right (all_variables_of rs) (variables_of p) n (occurs-variables p n q))
    ]
    | inr q ↦ among-right (all_variables_of rs ++ variables_of p) (variables_of v) n (occurs-variables v n q)
  ]
  occurs-variables _ n h = absurd (cc)

  any-occurs-variables : (fs : Formulas) (n : ℕ) → any_occurs n fs ≡ true → among (all_variables_of fs) n ≡ true
  any-occurs-variables no_formulas n h = absurd (cc)
  any-occurs-variables (formula_and f fs) n h = elim (or-cases (occurs n f) (any_occurs n fs) h) [
    | inl q ↦ among-left (variables_of f) (all_variables_of fs) n (occurs-variables f n q)
    | inr q ↦ among-right (variables_of f) (all_variables_of fs) n (any-occurs-variables fs n q)
  ]

mutual
  pub variables-occur : (f : Formula) (n : ℕ) → among (variables_of f) n ≡ true → occurs n f ≡ true
  variables-occur (variable m) n h = elim (or-cases (nat_eq n m) false h) [ inl q ↦ turned n m q | inr q ↦ absurd (cc) ]
  variables-occur (unary o f) n h = variables-occur f n h
  variables-occur (binary o f g) n h = elim (among-cases (variables_of f) (variables_of g) n h) [
    | inl q ↦ or-left (occurs n f) (occurs n g) (variables-occur f n q)
    | inr q ↦ or-right (occurs n f) (occurs n g) (variables-occur g n q)
  ]
  variables-occur (for_all ts p) n h = variables-occur p n h
  variables-occur (for_some ts p) n h = variables-occur p n h
  variables-occur (comprehension rs p) n h = elim (among-cases (all_variables_of rs) (variables_of p) n h) [
    | inl q ↦ or-left (any_occurs n rs) (occurs n p) (any-occur rs n q)
    | inr q ↦ or-right (any_occurs n rs) (occurs n p) (variables-occur p n q)
  ]
  variables-occur (lambda rs p v) n h = elim (among-cases (all_variables_of rs ++ variables_of p) (variables_of v) n h) [
    | inl k ↦ or-left (any_occurs n rs || occurs n p) (occurs n v) (elim (among-cases (all_variables_of rs) (variables_of p) n k) [
      | inl q ↦ or-left (any_occurs n rs) (occurs n p) (any-occur rs n q)
      | inr q ↦ or-right (any_occurs n rs) (occurs n p) (variables-occur p n q)
    ])
    | inr q ↦ or-right (any_occurs n rs || occurs n p) (occurs n v) (variables-occur v n q)
  ]
  variables-occur _ n h = absurd (cc)

  any-occur : (fs : Formulas) (n : ℕ) → among (all_variables_of fs) n ≡ true → any_occurs n fs ≡ true
  any-occur no_formulas n h = absurd (cc)
  any-occur (formula_and f fs) n h = elim (among-cases (variables_of f) (all_variables_of fs) n h) [
    | inl q ↦ or-left (occurs n f) (any_occurs n fs) (variables-occur f n q)
    | inr q ↦ or-right (occurs n f) (any_occurs n fs) (any-occur fs n q)
  ]

neither : (a b : Bool) → a ≡ false → b ≡ false → (a || b) ≡ false
neither a b h k = rw (h, k)

-- what is brought by an assignment is a variable that stays or one of a term
pub occurs-looked_up : (ps : List (ℕ × Formula)) (m n : ℕ) → occurs n (looked_up ps m) ≡ true → ((m ≡ n) × (among (firsts ps) m ≡ false)) ⊎ (among (variables_of_terms ps) n ≡ true)
occurs-looked_up [] m n h = inl (nat_eq-same m n h, refl)
occurs-looked_up (p ∷ ps) m n h = by_test (occurs-looked_up ps m n) (nat_eq m p.0) refl h
  where
    by_test : (occurs n (looked_up ps m) ≡ true → ((m ≡ n) × (among (firsts ps) m ≡ false)) ⊎ (among (variables_of_terms ps) n ≡ true)) → (b : Bool) → nat_eq m p.0 ≡ b → occurs n (cond b p.1 (looked_up ps m)) ≡ true → ((m ≡ n) × ((nat_eq m p.0 || among (firsts ps) m) ≡ false)) ⊎ (among (variables_of p.1 ++ variables_of_terms ps) n ≡ true)
    by_test on true q l = inr (among-left (variables_of p.1) (variables_of_terms ps) n (occurs-variables p.1 n l))
    by_test on false q l = elim (on l) [
      | inl w ↦ inl (w.0, neither (nat_eq m p.0) (among (firsts ps) m) q w.1)
      | inr w ↦ inr (among-right (variables_of p.1) (variables_of_terms ps) n w)
    ]

-- ---- states that agree
-- where the two agreed before, they agree after
abbrev pub Kept : State → State → State → State → Type 0
Kept d e g f = (n : ℕ) → d n ≡ e n → g n ≡ f n

-- the two have the same values for what stands in the formula
abbrev pub SameFor : Formula → State → State → Type 0
SameFor f d e = (n : ℕ) → occurs n f ≡ true → d n ≡ e n

agree-first : (xs ys : List ℕ) (d e : State) → AgreeOn (xs ++ ys) d e → AgreeOn xs d e
agree-first xs ys d e a n h = a n (among-left xs ys n h)

agree-second : (xs ys : List ℕ) (d e : State) → AgreeOn (xs ++ ys) d e → AgreeOn ys d e
agree-second xs ys d e a n h = a n (among-right xs ys n h)

turned-round : (zs : List ℕ) (d e : State) → AgreeOn zs d e → AgreeOn zs e d
turned-round zs d e a n h = sym (a n h)

same-in : (f : Formula) (d e : State) → AgreeOn (variables_of f) d e → SameFor f d e
same-in f d e a n h = a n (occurs-variables f n h)

-- what an IF and a loop read
branch-parts : (p : Formula) (s t : Substitution) (d e : State) → AgreeOn (read (if_else p s t)) d e → AgreeOn (variables_of p) d e × AgreeOn (read s) d e × AgreeOn (read t) d e
branch-parts p s t d e a =
    let both = agree-first (variables_of p ++ read s) (read t) d e a in
    (agree-first (variables_of p) (read s) d e both, agree-second (variables_of p) (read s) d e both, agree-second (variables_of p ++ read s) (read t) d e a)

loop-parts : (p : Formula) (s : Substitution) (i v : Formula) (d e : State) → AgreeOn (read (loop p s i v)) d e → AgreeOn (variables_of p) d e × AgreeOn (read s) d e × AgreeOn (variables_of i) d e × AgreeOn (variables_of v) d e
loop-parts p s i v d e a =
    let three = agree-first ((variables_of p ++ read s) ++ variables_of i) (variables_of v) d e a in
    let two = agree-first (variables_of p ++ read s) (variables_of i) d e three in (
      agree-first (variables_of p) (read s) d e two,
      agree-second (variables_of p) (read s) d e two,
      agree-second (variables_of p ++ read s) (variables_of i) d e three,
      agree-second ((variables_of p ++ read s) ++ variables_of i) (variables_of v) d e a,
    )

module _ (find : Finder) (table : Table) where
  -- ---- formulas
  holds-same : (p : Formula) (d e : State) → AgreeOn (variables_of p) d e → holds find table d p ≡ holds find table e p
  holds-same p d e a = ap (λ m. m.truth) (meaning-state find table d e p (same-in p d e a))

  value-same : (f : Formula) (d e : State) → SameFor f d e → value_at find table d f ≡ value_at find table e f
  value-same f d e a = ap (λ m. m.value) (meaning-state find table d e f a)

  looked-same : (ps : List (ℕ × Formula)) (d e : State) → AgreeOn (variables_of_terms ps) d e → (n : ℕ) → d n ≡ e n → value_at find table d (looked_up ps n) ≡ value_at find table e (looked_up ps n)
  looked-same ps d e a n h = value-same (looked_up ps n) d e (λ m o. elim (occurs-looked_up ps n m o) [ inl k ↦ subst (λ y. d y ≡ e y) k.0 h | inr k ↦ a m k ])

  -- ---- locals
  left-of : (a b : Bool) → (a || b) ≡ true → b ≡ false → a ≡ true
  left-of true b h k = refl
  left-of false b h k = clash b h k

  set-both : (zs : List ℕ) (vs : List MathValue) (d e : State) → are_values_for table zs vs ≡ true → (n : ℕ) → among zs n ≡ true → with_values d zs vs n ≡ with_values e zs vs n
  set-both [] vs d e m n h = absurd (cc)
  set-both (z ∷ zs) [] d e m n h = absurd (cc)
  set-both (z ∷ zs) (v ∷ vs) d e m n h =
      let w = and-both (is_value_of (set_size table) (declared_type table z) v) (are_values_for table zs vs) m in
      elim (cases (among zs n)) [
        | inl q ↦ set-both zs vs (with_value d z v) (with_value e z v) w.1 n q
        | inr q ↦
            let here = left-of (nat_eq n z) (among zs n) h q in
            with_values-out (with_value d z v) zs vs n q ∙ ap (λ b. cond b v (d n)) here ∙ sym (with_values-out (with_value e z v) zs vs n q ∙ ap (λ b. cond b v (e n)) here)
      ]

  locals-agree : (zs : List ℕ) (vs : List MathValue) (xs : List ℕ) (d e : State) → are_values_for table zs vs ≡ true → AgreeOn (outside zs xs) d e → AgreeOn xs (with_values d zs vs) (with_values e zs vs)
  locals-agree zs vs xs d e m a n h = elim (cases (among zs n)) [
    | inl q ↦ set-both zs vs d e m n q
    | inr q ↦ with_values-out d zs vs n q ∙ a n (among-outside zs xs n h q) ∙ sym (with_values-out e zs vs n q)
  ]

  -- what x :(P) sees
  olds-agree : (xs : List (ℕ × ℕ)) (p : Formula) (d e : State) (vs : List MathValue) → are_values_for table (firsts xs) vs ≡ true → AgreeOn (read (becomes_such xs p)) d e → SameFor p (with_old xs d vs) (with_old xs e vs)
  olds-agree xs p d e vs m a n o =
      locals-agree (firsts xs) vs (variables_of p) (λ k. d (old_of xs k)) (λ k. e (old_of xs k)) m
      (λ k q. a (old_of xs k) (among-map (old_of xs) (outside (firsts xs) (variables_of p)) k q)) n (occurs-variables p n o)

  -- ---- runs
  turns-agree : (run : State → State → Type 0) (test : State → Bool) (zs : List ℕ) → ((d e : State) → AgreeOn zs d e → test d ≡ test e) → ((d e f : State) → AgreeOn zs d e → run e f → (g : State) × run d g × Kept d e g f) →
      (k : ℕ) (d e f : State) → AgreeOn zs d e → Turns run test k e f → (g : State) × Turns run test k d g × Kept d e g f
  turns-agree run test zs t r zero d e f a q = (d, (t d e a ∙ q.0, refl), λ n h. h ∙ sym (ap (λ (x : State). x n) q.1))
  turns-agree run test zs t r (suc k) d e f a q =
      let one = r d e q.1.0 a q.1.1 in
      let rest = turns-agree run test zs t r k one.0 q.1.0 f (λ n h. one.2 n (a n h)) q.1.2 in
      (rest.0, (t d e a ∙ q.0, (one.0, one.1, rest.1)), λ n h. rest.2 n (one.2 n h))

  pub runs-agree : (s : Substitution) (d e f : State) → AgreeOn (read s) d e → Runs find table s e f → (g : State) × Runs find table s d g × Kept d e g f
  runs-agree skip d e f a q = (d, refl, λ n h. h ∙ sym (ap (λ (x : State). x n) q))
  runs-agree (assign ps) d e f a q = (assigned find table ps d, refl, λ n h. looked-same ps d e a n h ∙ sym (ap (λ (x : State). x n) q))
  runs-agree (pre p s) d e f a q = runs-agree s d e f (agree-second (variables_of p) (read s) d e a) q
  runs-agree (guard p s) d e f a q =
      let w = runs-agree s d e f (agree-second (variables_of p) (read s) d e a) q.1 in
      (w.0, (holds-same p d e (agree-first (variables_of p) (read s) d e a) ∙ q.0, w.1), w.2)
  runs-agree (choice s t) d e f a q = elim q [
    | inl x ↦ let w = runs-agree s d e f (agree-first (read s) (read t) d e a) x in (w.0, inl w.1, w.2)
    | inr x ↦ let w = runs-agree t d e f (agree-second (read s) (read t) d e a) x in (w.0, inr w.1, w.2)
  ]
  runs-agree (if_else p s t) d e f a q =
      let k = branch-parts p s t d e a in
      elim q [
        | inl x ↦ let w = runs-agree s d e f k.1 x.1 in (w.0, inl (holds-same p d e k.0 ∙ x.0, w.1), w.2)
        | inr x ↦ let w = runs-agree t d e f k.2 x.1 in (w.0, inr (holds-same p d e k.0 ∙ x.0, w.1), w.2)
      ]
  runs-agree (any zs s) d e f a q =
      let w = runs-agree s (with_values d zs q.0) (with_values e zs q.0) q.2.0 (locals-agree zs q.0 (read s) d e q.1 a) q.2.1 in (
        over (among zs) d w.0,
        (q.0, q.1, (w.0, w.1, refl)),
        λ n h. elim (cases (among zs n)) [
          | inl k ↦ over-at (among zs) d w.0 n k ∙ h ∙ sym (over-at (among zs) e q.2.0 n k) ∙ sym (ap (λ (x : State). x n) q.2.2)
          | inr k ↦ over-off (among zs) d w.0 n k ∙ w.2 n (with_values-out d zs q.0 n k ∙ h ∙ sym (with_values-out e zs q.0 n k)) ∙ sym (over-off (among zs) e q.2.0 n k) ∙ sym (ap (λ (x : State). x n) q.2.2)
        ],
      )
  runs-agree (seq s t) d e f a q =
      let w = runs-agree s d e q.0 (agree-first (read s) (read t) d e a) q.1 in
      let v = runs-agree t w.0 q.0 f (λ n h. w.2 n (agree-second (read s) (read t) d e a n h)) q.2 in
      (v.0, (w.0, w.1, v.1), λ n h. v.2 n (w.2 n h))
  runs-agree (par s t) d e f a q =
      let w = runs-agree s d e q.0 (agree-first (read s) (read t) d e a) q.2 in
      let v = runs-agree t d e q.1 (agree-second (read s) (read t) d e a) q.3 in (
        over (among (written s)) w.0 v.0,
        (w.0, v.0, w.1, v.1, refl),
        λ n h. elim (cases (among (written s) n)) [
          | inl k ↦ over-at (among (written s)) w.0 v.0 n k ∙ w.2 n h ∙ sym (over-at (among (written s)) q.0 q.1 n k) ∙ sym (ap (λ (x : State). x n) q.4)
          | inr k ↦ over-off (among (written s)) w.0 v.0 n k ∙ v.2 n h ∙ sym (over-off (among (written s)) q.0 q.1 n k) ∙ sym (ap (λ (x : State). x n) q.4)
        ],
      )
  runs-agree (assert p s) d e f a q = runs-agree s d e f (agree-second (variables_of p) (read s) d e a) q
  runs-agree (becomes_such xs p) d e f a q =
      let sees : holds find table (with_old xs d q.0) p ≡ holds find table (with_old xs e q.0) p = ap (λ m. m.truth) (meaning-state find table (with_old xs d q.0) (with_old xs e q.0) p (olds-agree xs p d e q.0 q.1 a)) in
      (with_values d (firsts xs) q.0, (q.0, q.1, sees ∙ q.2, refl), λ n h. with_values-same d e (firsts xs) q.0 n h ∙ sym (ap (λ (x : State). x n) q.3))
  runs-agree (loop p s i v) d e f a q =
      let w = turns-agree (Runs find table s) (λ x. holds find table x p) (read (loop p s i v)) (λ x y b. holds-same p x y (loop-parts p s i v x y b).0) (λ x y z b r. runs-agree s x y z (loop-parts p s i v x y b).1 r) q.0 d e f a q.1 in
      (w.0, (q.0, w.1), w.2)

  -- ---- ends
  bounded-agree : (run : State → State → Type 0) (ends : State → Type 0) (test : State → Bool) (zs : List ℕ) → ((d e : State) → AgreeOn zs d e → test d ≡ test e) → ((d e f : State) → AgreeOn zs d e → run e f → (g : State) × run d g × Kept d e g f) →
      ((d e : State) → AgreeOn zs d e → ends e → ends d) → (k : ℕ) (d e : State) → AgreeOn zs d e → Bounded run ends test k e → Bounded run ends test k d
  bounded-agree run ends test zs t r m zero d e a q = t d e a ∙ q
  bounded-agree run ends test zs t r m (suc k) d e a (inl q) = inl (t d e a ∙ q)
  bounded-agree run ends test zs t r m (suc k) d e a (inr q) = inr (
    m d e a q.0,
    λ g w.
        let b = r e d g (turned-round zs d e a) w in
        bounded-agree run ends test zs t r m k g b.0 (λ n h. sym (b.2 n (sym (a n h)))) (q.1 b.0 b.1),
  )

  pub ends-agree : (s : Substitution) (d e : State) → AgreeOn (read s) d e → Ends find table s e → Ends find table s d
  ends-agree skip d e a q = tt
  ends-agree (assign ps) d e a q = tt
  ends-agree (pre p s) d e a q = (holds-same p d e (agree-first (variables_of p) (read s) d e a) ∙ q.0, ends-agree s d e (agree-second (variables_of p) (read s) d e a) q.1)
  ends-agree (guard p s) d e a q = λ h. ends-agree s d e (agree-second (variables_of p) (read s) d e a) (q (sym (holds-same p d e (agree-first (variables_of p) (read s) d e a)) ∙ h))
  ends-agree (choice s t) d e a q = (ends-agree s d e (agree-first (read s) (read t) d e a) q.0, ends-agree t d e (agree-second (read s) (read t) d e a) q.1)
  ends-agree (if_else p s t) d e a q =
      let k = branch-parts p s t d e a in
      let h = holds-same p d e k.0 in
      ((λ y. ends-agree s d e k.1 (q.0 (sym h ∙ y))), (λ y. ends-agree t d e k.2 (q.1 (sym h ∙ y))))
  ends-agree (any zs s) d e a q = λ vs m. ends-agree s (with_values d zs vs) (with_values e zs vs) (locals-agree zs vs (read s) d e m a) (q vs m)
  ends-agree (seq s t) d e a q = (
    ends-agree s d e (agree-first (read s) (read t) d e a) q.0,
    λ g r.
        let b = runs-agree s e d g (turned-round (read s) d e (agree-first (read s) (read t) d e a)) r in
        ends-agree t g b.0 (λ n h. sym (b.2 n (sym (agree-second (read s) (read t) d e a n h)))) (q.1 b.0 b.1),
  )
  ends-agree (par s t) d e a q = (ends-agree s d e (agree-first (read s) (read t) d e a) q.0, ends-agree t d e (agree-second (read s) (read t) d e a) q.1)
  ends-agree (assert p s) d e a q = (holds-same p d e (agree-first (variables_of p) (read s) d e a) ∙ q.0, ends-agree s d e (agree-second (variables_of p) (read s) d e a) q.1)
  ends-agree (becomes_such xs p) d e a q = tt
  ends-agree (loop p s i v) d e a q =
      (q.0, bounded-agree (Runs find table s) (Ends find table s) (λ x. holds find table x p) (read (loop p s i v)) (λ x y b. holds-same p x y (loop-parts p s i v x y b).0) (λ x y z b r. runs-agree s x y z (loop-parts p s i v x y b).1 r) (λ x y b. ends-agree s x y (loop-parts p s i v x y b).1) q.0 d e a q.1)

  -- ---- clean
  defined-same : (f : Formula) (d e : State) → SameFor f d e → Defined find (at_state table e) f → Defined find (at_state table d) f
  defined-same f d e a q = subst (λ X. X) (sym (defined-agrees find (at_state table e) d f a)) q

  fits-same : (arrays : ArrayTable) (f : Formula) (d e : State) → SameFor f d e → Fits find (at_state table e) arrays f → Fits find (at_state table d) arrays f
  fits-same arrays f d e a q = subst (λ X. X) (sym (fits-agrees find arrays (at_state table e) d f a)) q

  evaluable-same : (arrays : Option ArrayTable) (f : Formula) (d e : State) → SameFor f d e → IsEvaluable find table arrays e f → IsEvaluable find table arrays d f
  evaluable-same None f d e a q = defined-same f d e a q
  evaluable-same (Some arrays) f d e a q = fits-same arrays f d e a q

  -- the index and the value of a write stand in the term
  write-parts : (x : ℕ) (f : Formula) (w : Formula × Formula) → write_of x f ≡ Some w → (d e : State) → SameFor f d e → SameFor w.0 d e × SameFor w.1 d e
  write-parts x (binary Over (variable y) (unary Single (binary Maps i v))) w h d e a = by_test (nat_eq x y) h
    where
      both : (n : ℕ) → (occurs n i || occurs n v) ≡ true → d n ≡ e n
      both n o = a n (or-right (occurs n (variable y)) (occurs n i || occurs n v) o)

      by_test : (b : Bool) → cond b (Some (i, v)) None ≡ Some w → SameFor w.0 d e × SameFor w.1 d e
      by_test true k =
          let one : i ≡ w.0 = ap (λ o. (unwrap_or o w).0) k in
          let other : v ≡ w.1 = ap (λ o. (unwrap_or o w).1) k in
          (subst (λ g. SameFor g d e) one (λ n o. both n (or-left (occurs n i) (occurs n v) o)), subst (λ g. SameFor g d e) other (λ n o. both n (or-right (occurs n i) (occurs n v) o)))
      by_test false k = absurd (cc)
  write-parts x _ w h d e a = absurd (cc)

  write-same : (arrays : ArrayTable) (row : ArrayRow) (x : ℕ) (f : Formula) (o : Option (Formula × Formula)) → write_of x f ≡ o → (d e : State) → SameFor f d e → IsCleanWrite find table arrays row e o f → IsCleanWrite find table arrays row d o f
  write-same arrays row x f None h d e a q = fits-same arrays f d e a q
  write-same arrays row x f (Some w) h d e a q =
      let k = write-parts x f w h d e a in
      (fits-same arrays w.0 d e k.0 q.0, ap (is_index (Some row)) (value-same w.0 d e k.0) ∙ q.1, fits-same arrays w.1 d e k.1 q.2)

  row-same : (arrays : ArrayTable) (o : Option ArrayRow) (x : ℕ) (f : Formula) (d e : State) → SameFor f d e → IsCleanAt find table arrays o e x f → IsCleanAt find table arrays o d x f
  row-same arrays None x f d e a q = fits-same arrays f d e a q
  row-same arrays (Some row) x f d e a q = write-same arrays row x f (write_of x f) refl d e a q

  term-same : (arrays : Option ArrayTable) (x : ℕ) (f : Formula) (d e : State) → SameFor f d e → IsCleanTerm find table arrays e x f → IsCleanTerm find table arrays d x f
  term-same None x f d e a q = defined-same f d e a q
  term-same (Some arrays) x f d e a q = row-same arrays (row_of arrays x) x f d e a q

  terms-same : (arrays : Option ArrayTable) (ps : List (ℕ × Formula)) (d e : State) → AgreeOn (variables_of_terms ps) d e → AreCleanTerms find table arrays e ps → AreCleanTerms find table arrays d ps
  terms-same arrays [] d e a q = tt
  terms-same arrays (p ∷ ps) d e a q = (term-same arrays p.0 p.1 d e (same-in p.1 d e (agree-first (variables_of p.1) (variables_of_terms ps) d e a)) q.0, terms-same arrays ps d e (agree-second (variables_of p.1) (variables_of_terms ps) d e a) q.1)

  -- what some turns reach from the one, they reach from the other
  reached-agree : (run : State → State → Type 0) (test : State → Bool) (zs : List ℕ) → ((d e : State) → AgreeOn zs d e → test d ≡ test e) → ((d e f : State) → AgreeOn zs d e → run e f → (g : State) × run d g × Kept d e g f) →
      (k : ℕ) (d e f : State) → AgreeOn zs d e → Reached run test k d f → (g : State) × Reached run test k e g × Kept d e f g
  reached-agree run test zs t r zero d e f a q = (e, refl, λ n h. ap (λ (x : State). x n) q ∙ h)
  reached-agree run test zs t r (suc k) d e f a q =
      let one = r e d q.1.0 (turned-round zs d e a) q.1.1 in
      let rest = reached-agree run test zs t r k q.1.0 one.0 f (λ n h. sym (one.2 n (sym (a n h)))) q.1.2 in
      (rest.0, (sym (t d e a) ∙ q.0, (one.0, one.1, rest.1)), λ n h. rest.2 n (sym (one.2 n (sym h))))

  pub clean-agree : (arrays : Option ArrayTable) (s : Substitution) (d e : State) → AgreeOn (read s) d e → Clean find table arrays s e → Clean find table arrays s d
  clean-agree arrays skip d e a q = tt
  clean-agree arrays (assign ps) d e a q = terms-same arrays ps d e a q
  clean-agree arrays (pre p s) d e a q = (defined-same p d e (same-in p d e (agree-first (variables_of p) (read s) d e a)) q.0, clean-agree arrays s d e (agree-second (variables_of p) (read s) d e a) q.1)
  clean-agree arrays (guard p s) d e a q =
      let first = agree-first (variables_of p) (read s) d e a in
      (defined-same p d e (same-in p d e first) q.0, λ h. clean-agree arrays s d e (agree-second (variables_of p) (read s) d e a) (q.1 (sym (holds-same p d e first) ∙ h)))
  clean-agree arrays (choice s t) d e a q = (clean-agree arrays s d e (agree-first (read s) (read t) d e a) q.0, clean-agree arrays t d e (agree-second (read s) (read t) d e a) q.1)
  clean-agree arrays (if_else p s t) d e a q =
      let k = branch-parts p s t d e a in
      let h = holds-same p d e k.0 in
      (evaluable-same arrays p d e (same-in p d e k.0) q.0, (λ y. clean-agree arrays s d e k.1 (q.1 (sym h ∙ y))), (λ y. clean-agree arrays t d e k.2 (q.2 (sym h ∙ y))))
  clean-agree arrays (any zs s) d e a q = λ vs m. clean-agree arrays s (with_values d zs vs) (with_values e zs vs) (locals-agree zs vs (read s) d e m a) (q vs m)
  clean-agree arrays (seq s t) d e a q = (
    clean-agree arrays s d e (agree-first (read s) (read t) d e a) q.0,
    λ g r.
        let b = runs-agree s e d g (turned-round (read s) d e (agree-first (read s) (read t) d e a)) r in
        clean-agree arrays t g b.0 (λ n h. sym (b.2 n (sym (agree-second (read s) (read t) d e a n h)))) (q.1 b.0 b.1),
  )
  clean-agree arrays (par s t) d e a q = (
    clean-agree arrays s d e (agree-first (read s) (read t) d e a) q.0,
    λ g r.
        let b = runs-agree s e d g (turned-round (read s) d e (agree-first (read s) (read t) d e a)) r in
        clean-agree arrays t d e (agree-second (read s) (read t) d e a) (q.1 b.0 b.1),
  )
  clean-agree arrays (assert p s) d e a q = (defined-same p d e (same-in p d e (agree-first (variables_of p) (read s) d e a)) q.0, clean-agree arrays s d e (agree-second (variables_of p) (read s) d e a) q.1)
  clean-agree arrays (becomes_such xs p) d e a q = λ vs m. defined-same p (with_old xs d vs) (with_old xs e vs) (olds-agree xs p d e vs m a) (q vs m)
  clean-agree arrays (loop p s i v) d e a q = λ k f r.
      let b = reached-agree (Runs find table s) (λ x. holds find table x p) (read (loop p s i v)) (λ x y c. holds-same p x y (loop-parts p s i v x y c).0) (λ x y z c w. runs-agree s x y z (loop-parts p s i v x y c).1 w) k d e f a r in
      let o = loop-parts p s i v f b.0 (λ n h. b.2 n (a n h)) in
      let m = q k b.0 b.1 in (
        defined-same i f b.0 (same-in i f b.0 o.2) m.0,
        evaluable-same arrays p f b.0 (same-in p f b.0 o.0) m.1,
        λ h. let c = m.2 (sym (holds-same p f b.0 o.0) ∙ h) in (clean-agree arrays s f b.0 o.1 c.0, defined-same v f b.0 (same-in v f b.0 o.3) c.1),
      )

pub read_decides : ReadDecides
read_decides = record {
  runs = λ find table s d e f a q. runs-agree find table s d e f a q;
  ends = λ find table s d e a q. ends-agree find table s d e a q;
  clean = λ find table arrays s d e a q. clean-agree find table arrays s d e a q;
}
