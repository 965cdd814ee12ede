-- The variables of [S]R and <S>R: those of R and those that S reads.
use Rattle.std.proofs.Common.{◌≡◌, ◌⊎◌, inl, inr, ℕ, ◌+◌, List, [], ◌∷◌, ◌++◌, length, map, refl, subst, Bool, true, false, ◌||◌, cond, nat_eq}
use Rattle.bk_form.specs.Table.{Table}
use Rattle.bk_form.specs.Formula.{Formula, variable, bound, named, unary, binary, for_all, for_some, comprehension, lambda, Formulas, no_formulas, formula_and}
use Rattle.bk_form.specs.declared.operator.UnOp.TheVariants.{Not}
use Rattle.bk_form.specs.declared.operator.BinOp.TheVariants.{And, Imp, Lt, In}
use Rattle.bk_form.specs.declared.operator.Domain.TheVariants.{Natural}
use Rattle.bk_form.specs.Replacement.{replaced, all_replaced, occurs, any_occurs, count, looked_up}
use Rattle.bk_gsl.specs.Substitution.{Substitution, skip, assign, pre, guard, choice, if_else, any, seq, par, assert, becomes_such, loop}
use Rattle.bk_gsl.specs.State.{among, firsts}
use Rattle.bk_gsl.specs.Reads.{variables_of, variables_of_terms, outside, read}
use Rattle.bk_gsl.specs.Run.{old_of}
use Rattle.bk_gsl.specs.Writes.{writes}
use Rattle.bk_gsl.proofs.States.{clash, nat_eq-same, nat_eq-self}
use Rattle.bk_bind.specs.Closing.{closed_over, all_closed_over, closed_over_each}
use Rattle.bk_wp.specs.Quantifiers.{all_of, some_of, all_written}
use Rattle.bk_wp.specs.Box.{new_values, all_new, some_new, variant_before, box, diamond}
use Rattle.bk_form.proofs.Members.{or-cases, or-left, or-right}
use Rattle.bk_gsl.proofs.Reading.{among-left, among-right, among-outside, among-map, turned, occurs-variables, occurs-looked_up}

-- a variable of a formula with others in the places of its variables
pub record Brought (by : ℕ → Formula) (here : ℕ → Bool) (n : ℕ) : Type 0 where
  pub place : ℕ
  pub stands : here place ≡ true
  pub brings : occurs n (by place) ≡ true

wider : (by : ℕ → Formula) (a b : ℕ → Bool) (n : ℕ) → ((m : ℕ) → a m ≡ true → b m ≡ true) → Brought by a n → Brought by b n
wider by a b n h x = record { place = x.place; stands = h x.place x.stands; brings = x.brings }

module _ (by : ℕ → Formula) (n : ℕ) where
  mutual
    pub occurs-replaced : (f : Formula) → occurs n (replaced by f) ≡ true → Brought by (λ m. occurs m f) n
    occurs-replaced (variable m) h = record { place = m; stands = nat_eq-self m; brings = h }
    occurs-replaced (unary o f) h = occurs-replaced f h
    occurs-replaced (binary o f g) h = elim (or-cases (occurs n (replaced by f)) (occurs n (replaced by g)) h) [
      | inl q ↦ wider by (λ m. occurs m f) (λ m. occurs m f || occurs m g) n (λ m. or-left (occurs m f) (occurs m g)) (occurs-replaced f q)
      | inr q ↦ wider by (λ m. occurs m g) (λ m. occurs m f || occurs m g) n (λ m. or-right (occurs m f) (occurs m g)) (occurs-replaced g q)
    ]
    occurs-replaced (for_all ts p) h = occurs-replaced p h
    occurs-replaced (for_some ts p) h = occurs-replaced p h
    occurs-replaced (comprehension rs p) h = elim (or-cases (any_occurs n (all_replaced by rs)) (occurs n (replaced by p)) h) [
      | inl q ↦ wider by (λ m. any_occurs m rs) (λ m. any_occurs m rs || occurs m p) n (λ m. or-left (any_occurs m rs) (occurs m p)) (any-occurs-replaced rs q)
      | inr q ↦ wider by (λ m. occurs m p) (λ m. any_occurs m rs || occurs m p) n (λ m. or-right (any_occurs m rs) (occurs m p)) (occurs-replaced p q)
    ]
    occurs-replaced (lambda rs p v) h = elim (or-cases (any_occurs n (all_replaced by rs) || occurs n (replaced by p)) (occurs n (replaced by v)) h) [
      | inl k ↦ elim (or-cases (any_occurs n (all_replaced by rs)) (occurs n (replaced by p)) k) [
        | inl q ↦ wider by (λ m. any_occurs m rs) (λ m. (any_occurs m rs || occurs m p) || occurs m v) n (λ m z. or-left (any_occurs m rs || occurs m p) (occurs m v) (or-left (any_occurs m rs) (occurs m p) z)) (any-occurs-replaced rs q)
        | inr q ↦ wider by (λ m. occurs m p) (λ m. (any_occurs m rs || occurs m p) || occurs m v) n (λ m z. or-left (any_occurs m rs || occurs m p) (occurs m v) (or-right (any_occurs m rs) (occurs m p) z)) (occurs-replaced p q)
      ]
      | inr q ↦ wider by (λ m. occurs m v) (λ m. (any_occurs m rs || occurs m p) || occurs m v) n (λ m. or-right (any_occurs m rs || occurs m p) (occurs m v)) (occurs-replaced v q)
    ]
    occurs-replaced _ h = absurd (cc)

    any-occurs-replaced : (fs : Formulas) → any_occurs n (all_replaced by fs) ≡ true → Brought by (λ m. any_occurs m fs) n
    any-occurs-replaced no_formulas h = absurd (cc)
    any-occurs-replaced (formula_and f fs) h = elim (or-cases (occurs n (replaced by f)) (any_occurs n (all_replaced by fs)) h) [
      | inl q ↦ wider by (λ m. occurs m f) (λ m. occurs m f || any_occurs m fs) n (λ m. or-left (occurs m f) (any_occurs m fs)) (occurs-replaced f q)
      | inr q ↦ wider by (λ m. any_occurs m fs) (λ m. occurs m f || any_occurs m fs) n (λ m. or-right (occurs m f) (any_occurs m fs)) (any-occurs-replaced fs q)
    ]

-- a variable of a formula in which z is bound is another
module _ (z n : ℕ) where
  mutual
    pub occurs-closed_over : (k : ℕ) (f : Formula) → occurs n (closed_over z k f) ≡ true → (occurs n f ≡ true) × (nat_eq n z ≡ false)
    occurs-closed_over k (variable m) h = by_test (nat_eq m z) refl h
      where
        by_test : (b : Bool) → nat_eq m z ≡ b → occurs n (cond b (bound k) (variable m)) ≡ true → (nat_eq m n ≡ true) × (nat_eq n z ≡ false)
        by_test true q l = absurd (cc)
        by_test false q l = (l, subst (λ y. nat_eq y z ≡ false) (nat_eq-same m n l) q)
    occurs-closed_over k (unary o f) h = occurs-closed_over k f h
    occurs-closed_over k (binary o f g) h = elim (or-cases (occurs n (closed_over z k f)) (occurs n (closed_over z k g)) h) [
      | inl q ↦ let w = occurs-closed_over k f q in (or-left (occurs n f) (occurs n g) w.0, w.1)
      | inr q ↦ let w = occurs-closed_over k g q in (or-right (occurs n f) (occurs n g) w.0, w.1)
    ]
    occurs-closed_over k (for_all ts p) h = occurs-closed_over (length ts + k) p h
    occurs-closed_over k (for_some ts p) h = occurs-closed_over (length ts + k) p h
    occurs-closed_over k (comprehension rs p) h = elim (or-cases (any_occurs n (all_closed_over z k rs)) (occurs n (closed_over z (count rs + k) p)) h) [
      | inl q ↦ let w = any-occurs-closed_over k rs q in (or-left (any_occurs n rs) (occurs n p) w.0, w.1)
      | inr q ↦ let w = occurs-closed_over (count rs + k) p q in (or-right (any_occurs n rs) (occurs n p) w.0, w.1)
    ]
    occurs-closed_over k (lambda rs p v) h = elim (or-cases (any_occurs n (all_closed_over z k rs) || occurs n (closed_over z (count rs + k) p)) (occurs n (closed_over z (count rs + k) v)) h) [
      | inl l ↦ elim (or-cases (any_occurs n (all_closed_over z k rs)) (occurs n (closed_over z (count rs + k) p)) l) [
        | inl q ↦ let w = any-occurs-closed_over k rs q in (or-left (any_occurs n rs || occurs n p) (occurs n v) (or-left (any_occurs n rs) (occurs n p) w.0), w.1)
        | inr q ↦ let w = occurs-closed_over (count rs + k) p q in (or-left (any_occurs n rs || occurs n p) (occurs n v) (or-right (any_occurs n rs) (occurs n p) w.0), w.1)
      ]
      | inr q ↦ let w = occurs-closed_over (count rs + k) v q in (or-right (any_occurs n rs || occurs n p) (occurs n v) w.0, w.1)
    ]
    occurs-closed_over k _ h = absurd (cc)

    any-occurs-closed_over : (k : ℕ) (fs : Formulas) → any_occurs n (all_closed_over z k fs) ≡ true → (any_occurs n fs ≡ true) × (nat_eq n z ≡ false)
    any-occurs-closed_over k no_formulas h = absurd (cc)
    any-occurs-closed_over k (formula_and f fs) h = elim (or-cases (occurs n (closed_over z k f)) (any_occurs n (all_closed_over z k fs)) h) [
      | inl q ↦ let w = occurs-closed_over k f q in (or-left (occurs n f) (any_occurs n fs) w.0, w.1)
      | inr q ↦ let w = any-occurs-closed_over k fs q in (or-right (occurs n f) (any_occurs n fs) w.0, w.1)
    ]

neither : (a b : Bool) → a ≡ false → b ≡ false → (a || b) ≡ false
neither a b h k = rw (h, k)

pub occurs-each : (zs : List ℕ) (f : Formula) (n : ℕ) → occurs n (closed_over_each zs f) ≡ true → (occurs n f ≡ true) × (among zs n ≡ false)
occurs-each [] f n h = (h, refl)
occurs-each (z ∷ zs) f n h =
    let w = occurs-closed_over z n (length zs) (closed_over_each zs f) h in
    let k = occurs-each zs f n w.0 in
    (k.0, neither (nat_eq n z) (among zs n) w.1 k.1)

pub occurs-all : (table : Table) (zs : List ℕ) (f : Formula) (n : ℕ) → occurs n (all_of table zs f) ≡ true → (occurs n f ≡ true) × (among zs n ≡ false)
occurs-all table zs f n h = occurs-each zs f n h

pub occurs-written : (table : Table) (zs : List ℕ) (f : Formula) (n : ℕ) → occurs n (all_written table zs f) ≡ true → (occurs n f ≡ true) × (among zs n ≡ false)
occurs-written table [] f n h = (h, refl)
occurs-written table (z ∷ zs) f n h = occurs-all table (z ∷ zs) f n h

pub occurs-some : (table : Table) (zs : List ℕ) (f : Formula) (n : ℕ) → occurs n (some_of table zs f) ≡ true → (occurs n f ≡ true) × (among zs n ≡ false)
occurs-some table zs f n h = occurs-each zs f n h

occurs-new : (xs : List (ℕ × ℕ)) (p : Formula) (n : ℕ) → occurs n (new_values xs p) ≡ true → among (map (old_of xs) (outside (firsts xs) (variables_of p))) n ≡ true
occurs-new xs p n h =
    let w = occurs-replaced (λ m. variable (old_of xs m)) n (closed_over_each (firsts xs) p) h in
    let k = occurs-each (firsts xs) p w.place w.stands in
    let l = among-map (old_of xs) (outside (firsts xs) (variables_of p)) w.place (among-outside (firsts xs) (variables_of p) w.place (occurs-variables p w.place k.0) k.1) in
    subst (λ m. among (map (old_of xs) (outside (firsts xs) (variables_of p))) m ≡ true) (nat_eq-same (old_of xs w.place) n w.brings) l

-- ---- box and diamond
later : (A : Type 0) {B C : Type 0} → (B → C) → A ⊎ B → A ⊎ C
later A f (inl x) = inl x
later A f (inr x) = inr (f x)

assign-reads : (ps : List (ℕ × Formula)) (r : Formula) (n : ℕ) → occurs n (replaced (looked_up ps) r) ≡ true → (occurs n r ≡ true) ⊎ (among (variables_of_terms ps) n ≡ true)
assign-reads ps r n h =
    let w = occurs-replaced (looked_up ps) n r h in
    elim (occurs-looked_up ps w.place n w.brings) [
      | inl k ↦ inl (subst (λ m. occurs m r ≡ true) k.0 w.stands)
      | inr k ↦ inr k
    ]

test-reads : (p : Formula) (s : Substitution) (r : Formula) (n : ℕ) (b : Bool) → (b ≡ true → (occurs n r ≡ true) ⊎ (among (read s) n ≡ true)) → (occurs n p || b) ≡ true → (occurs n r ≡ true) ⊎ (among (variables_of p ++ read s) n ≡ true)
test-reads p s r n b f h = elim (or-cases (occurs n p) b h) [
  | inl q ↦ inr (among-left (variables_of p) (read s) n (occurs-variables p n q))
  | inr q ↦ later (occurs n r ≡ true) (among-right (variables_of p) (read s) n) (f q)
]

all-new-reads : (table : Table) (xs : List (ℕ × ℕ)) (p r : Formula) (n : ℕ) → occurs n (all_new table xs p r) ≡ true → (occurs n r ≡ true) ⊎ (among (map (old_of xs) (outside (firsts xs) (variables_of p))) n ≡ true)
all-new-reads table xs p r n h = elim (or-cases (occurs n (new_values xs p)) (occurs n (closed_over_each (firsts xs) r)) h) [ inl q ↦ inr (occurs-new xs p n q) | inr q ↦ inl ((occurs-each (firsts xs) r n q).0) ]

some-new-reads : (table : Table) (xs : List (ℕ × ℕ)) (p r : Formula) (n : ℕ) → occurs n (some_new table xs p r) ≡ true → (occurs n r ≡ true) ⊎ (among (map (old_of xs) (outside (firsts xs) (variables_of p))) n ≡ true)
some-new-reads table xs p r n h = elim (or-cases (occurs n (new_values xs p)) (occurs n (closed_over_each (firsts xs) r)) h) [ inl q ↦ inr (occurs-new xs p n q) | inr q ↦ inl ((occurs-each (firsts xs) r n q).0) ]

-- in [n := V] the number n is gone
pub falls-reads : (k : ℕ) (v f : Formula) (n : ℕ) → occurs n (replaced (looked_up ((k, v) ∷ [])) f) ≡ true → (occurs n v ≡ true) ⊎ ((occurs n f ≡ true) × (nat_eq n k ≡ false))
falls-reads k v f n h = let w = occurs-replaced (looked_up ((k, v) ∷ [])) n f h in by_test w.place w.stands (nat_eq w.place k) refl w.brings
  where
    by_test : (m : ℕ) → occurs m f ≡ true → (b : Bool) → nat_eq m k ≡ b → occurs n (cond b v (variable m)) ≡ true → (occurs n v ≡ true) ⊎ ((occurs n f ≡ true) × (nat_eq n k ≡ false))
    by_test m o true q l = inl l
    by_test m o false q l = let e = nat_eq-same m n l in inr (subst (λ y. occurs y f ≡ true) e o, subst (λ y. nat_eq y k ≡ false) e q)

pub box-reads : (table : Table) (s : Substitution) (r : Formula) (n : ℕ) → occurs n (box table s r) ≡ true → (occurs n r ≡ true) ⊎ (among (read s) n ≡ true)
box-reads table skip r n h = inl h
box-reads table (assign ps) r n h = assign-reads ps r n h
box-reads table (pre p s) r n h = test-reads p s r n (occurs n (box table s r)) (box-reads table s r n) h
box-reads table (guard p s) r n h = test-reads p s r n (occurs n (box table s r)) (box-reads table s r n) h
box-reads table (choice s t) r n h = elim (or-cases (occurs n (box table s r)) (occurs n (box table t r)) h) [
  | inl q ↦ later (occurs n r ≡ true) (among-left (read s) (read t) n) (box-reads table s r n q)
  | inr q ↦ later (occurs n r ≡ true) (among-right (read s) (read t) n) (box-reads table t r n q)
]
box-reads table (if_else p s t) r n h =
    let a = occurs n p in
    let b = occurs n (box table s r) in
    let d = occurs n (box table t r) in
    let test = λ (q : a ≡ true). among-left (variables_of p ++ read s) (read t) n (among-left (variables_of p) (read s) n (occurs-variables p n q)) in
    elim (or-cases (a || b) (a || d) h) [
      | inl k ↦ elim (or-cases a b k) [
        | inl q ↦ inr (test q)
        | inr q ↦ later (occurs n r ≡ true) (λ z. among-left (variables_of p ++ read s) (read t) n (among-right (variables_of p) (read s) n z)) (box-reads table s r n q)
      ]
      | inr k ↦ elim (or-cases a d k) [
        | inl q ↦ inr (test q)
        | inr q ↦ later (occurs n r ≡ true) (among-right (variables_of p ++ read s) (read t) n) (box-reads table t r n q)
      ]
    ]
box-reads table (any zs s) r n h =
    let w = occurs-all table zs (box table s r) n h in
    later (occurs n r ≡ true) (λ z. among-outside zs (read s) n z w.1) (box-reads table s r n w.0)
box-reads table (seq s t) r n h = elim (box-reads table s (box table t r) n h) [
  | inl q ↦ later (occurs n r ≡ true) (among-right (read s) (read t) n) (box-reads table t r n q)
  | inr q ↦ inr (among-left (read s) (read t) n q)
]
box-reads table (par s t) r n h = absurd (cc)
box-reads table (assert p s) r n h = elim (or-cases (occurs n p) (occurs n p || occurs n (box table s r)) h) [
  | inl q ↦ inr (among-left (variables_of p) (read s) n (occurs-variables p n q))
  | inr q ↦ test-reads p s r n (occurs n (box table s r)) (box-reads table s r n) q
]
box-reads table (becomes_such xs p) r n h = all-new-reads table xs p r n h
box-reads table (loop p s i v) r n h =
    let k = variant_before table in
    let xs = writes s in
    let m = binary And i p in
    let body = box table s i in
    let falls = box table s (binary Lt v (variable k)) in
    let in_p = λ (q : occurs n p ≡ true). among-left ((variables_of p ++ read s) ++ variables_of i) (variables_of v) n (among-left (variables_of p ++ read s) (variables_of i) n (among-left (variables_of p) (read s) n (occurs-variables p n q))) in
    let in_s = λ (q : among (read s) n ≡ true). among-left ((variables_of p ++ read s) ++ variables_of i) (variables_of v) n (among-left (variables_of p ++ read s) (variables_of i) n (among-right (variables_of p) (read s) n q)) in
    let in_i = λ (q : occurs n i ≡ true). among-left ((variables_of p ++ read s) ++ variables_of i) (variables_of v) n (among-right (variables_of p ++ read s) (variables_of i) n (occurs-variables i n q)) in
    let in_v = λ (q : occurs n v ≡ true). among-right ((variables_of p ++ read s) ++ variables_of i) (variables_of v) n (occurs-variables v n q) in
    let in_m : (occurs n i || occurs n p) ≡ true → among (((variables_of p ++ read s) ++ variables_of i) ++ variables_of v) n ≡ true = λ q. elim (or-cases (occurs n i) (occurs n p) q) [ inl y ↦ in_i y | inr y ↦ in_p y ] in
    let b = occurs n (all_written table xs (binary Imp m body)) in
    let c = occurs n (all_written table xs (binary Imp m (binary In v (named Natural)))) in
    let d = occurs n (all_written table xs (binary Imp m (replaced (looked_up ((k, v) ∷ [])) falls))) in
    let f = occurs n (all_written table xs (binary Imp (binary And i (unary Not p)) r)) in
    elim (or-cases (((occurs n i || b) || c) || d) f h) [
      | inl h1 ↦ inr (elim (or-cases ((occurs n i || b) || c) d h1) [
        | inl h2 ↦ elim (or-cases (occurs n i || b) c h2) [
          | inl h3 ↦ elim (or-cases (occurs n i) b h3) [
            | inl q ↦ in_i q
            | inr q ↦ elim (or-cases (occurs n i || occurs n p) (occurs n body) ((occurs-written table xs (binary Imp m body) n q).0)) [
              | inl y ↦ in_m y
              | inr y ↦ elim (box-reads table s i n y) [ inl z ↦ in_i z | inr z ↦ in_s z ]
            ]
          ]
          | inr q ↦ elim (or-cases (occurs n i || occurs n p) (occurs n v || false) ((occurs-written table xs (binary Imp m (binary In v (named Natural))) n q).0)) [
            | inl y ↦ in_m y
            | inr y ↦ elim (or-cases (occurs n v) false y) [ inl z ↦ in_v z | inr z ↦ absurd (cc) ]
          ]
        ]
        | inr q ↦ elim (or-cases (occurs n i || occurs n p) (occurs n (replaced (looked_up ((k, v) ∷ [])) falls)) ((occurs-written table xs (binary Imp m (replaced (looked_up ((k, v) ∷ [])) falls)) n q).0)) [
          | inl y ↦ in_m y
          | inr y ↦
              let w = falls-reads k v falls n y in
              elim w [
                | inl z ↦ in_v z
                | inr z ↦ elim (box-reads table s (binary Lt v (variable k)) n z.0) [
                  | inl x ↦ elim (or-cases (occurs n v) (nat_eq k n) x) [ inl u ↦ in_v u | inr u ↦ clash (nat_eq n k) (turned k n u) z.1 ]
                  | inr x ↦ in_s x
                ]
              ]
        ]
      ])
      | inr q ↦ elim (or-cases (occurs n i || occurs n p) (occurs n r) ((occurs-written table xs (binary Imp (binary And i (unary Not p)) r) n q).0)) [
        | inl y ↦ inr (in_m y)
        | inr y ↦ inl y
      ]
    ]

pub diamond-reads : (table : Table) (s : Substitution) (r : Formula) (n : ℕ) → occurs n (diamond table s r) ≡ true → (occurs n r ≡ true) ⊎ (among (read s) n ≡ true)
diamond-reads table skip r n h = inl h
diamond-reads table (assign ps) r n h = assign-reads ps r n h
diamond-reads table (pre p s) r n h = test-reads p s r n (occurs n (diamond table s r)) (diamond-reads table s r n) h
diamond-reads table (guard p s) r n h = test-reads p s r n (occurs n (diamond table s r)) (diamond-reads table s r n) h
diamond-reads table (choice s t) r n h = elim (or-cases (occurs n (diamond table s r)) (occurs n (diamond table t r)) h) [
  | inl q ↦ later (occurs n r ≡ true) (among-left (read s) (read t) n) (diamond-reads table s r n q)
  | inr q ↦ later (occurs n r ≡ true) (among-right (read s) (read t) n) (diamond-reads table t r n q)
]
diamond-reads table (if_else p s t) r n h =
    let a = occurs n p in
    let b = occurs n (diamond table s r) in
    let d = occurs n (diamond table t r) in
    let test = λ (q : a ≡ true). among-left (variables_of p ++ read s) (read t) n (among-left (variables_of p) (read s) n (occurs-variables p n q)) in
    elim (or-cases (a || b) (a || d) h) [
      | inl k ↦ elim (or-cases a b k) [
        | inl q ↦ inr (test q)
        | inr q ↦ later (occurs n r ≡ true) (λ z. among-left (variables_of p ++ read s) (read t) n (among-right (variables_of p) (read s) n z)) (diamond-reads table s r n q)
      ]
      | inr k ↦ elim (or-cases a d k) [
        | inl q ↦ inr (test q)
        | inr q ↦ later (occurs n r ≡ true) (among-right (variables_of p ++ read s) (read t) n) (diamond-reads table t r n q)
      ]
    ]
diamond-reads table (any zs s) r n h =
    let w = occurs-some table zs (diamond table s r) n h in
    later (occurs n r ≡ true) (λ z. among-outside zs (read s) n z w.1) (diamond-reads table s r n w.0)
diamond-reads table (seq s t) r n h = elim (diamond-reads table s (diamond table t r) n h) [
  | inl q ↦ later (occurs n r ≡ true) (among-right (read s) (read t) n) (diamond-reads table t r n q)
  | inr q ↦ inr (among-left (read s) (read t) n q)
]
diamond-reads table (par s t) r n h = absurd (cc)
diamond-reads table (assert p s) r n h = elim (or-cases (occurs n p) (occurs n p || occurs n (diamond table s r)) h) [
  | inl q ↦ inr (among-left (variables_of p) (read s) n (occurs-variables p n q))
  | inr q ↦ test-reads p s r n (occurs n (diamond table s r)) (diamond-reads table s r n) q
]
diamond-reads table (becomes_such xs p) r n h = some-new-reads table xs p r n h
diamond-reads table (loop p s i v) r n h = absurd (cc)
