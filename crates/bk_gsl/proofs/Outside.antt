-- What a substitution avoids: it runs, ends and is clean as before where that differs. A substitution that types avoids all that the table does not
-- list.
use Rattle.std.proofs.Common.{◌≡◌, inl, inr, ℕ, List, [], ◌∷◌, map, refl, sym, ◌∙◌, ap, subst, Bool, true, false, ◌||◌, cond, nat_eq, ◌++◌}
use Rattle.std.specs.Prelude.{Option, Some, None}
use Rattle.bk_val.specs.ValueType.{ValueType, int_type, set_type, pair_type}
use Rattle.bk_form.specs.Table.{Table, variable_type}
use Rattle.bk_form.specs.Formula.{Formula, variable, unary, binary, for_all, for_some, comprehension, lambda, Formulas, no_formulas, formula_and}
use Rattle.bk_form.specs.Role.{Role, gives, predicate, untyped, given_by, if_predicate, if_value, unary_role, binary_role, role, roles, bind, gives_set, each_gives_set, element_types, tuple_type}
use Rattle.bk_form.specs.Search.{Finder}
use Rattle.bk_form.specs.Replacement.{occurs, any_occurs, looked_up}
use Rattle.bk_gsl.specs.Substitution.{Substitution, skip, assign, pre, guard, choice, if_else, any, seq, par, assert, becomes_such, loop}
use Rattle.bk_form.specs.Environment.{State}
use Rattle.bk_form.specs.ArrayTable.{ArrayTable}
use Rattle.bk_gsl.specs.State.{among, over, firsts, AgreeOn}
use Rattle.bk_gsl.specs.Writes.{written}
use Rattle.bk_gsl.specs.Reads.{variables_of, variables_of_terms, outside as unbound, read}
use Rattle.bk_gsl.specs.Run.{old_of, Runs, Ends}
use Rattle.bk_gsl.specs.Clean.{Clean}
use Rattle.bk_gsl.specs.Typed.{IsListed, AreListed, AreTypedTerms, Types}
use Rattle.bk_gsl.proofs.States.{cases, clash, nat_eq-same, nat_eq-self, over-at, over-off, among-neither, among-kept, or-false}
use Rattle.bk_form.proofs.Closed.{IsSome, unary-none, left-none, right-none, predicate-none, quantifier-some, ranges-some, are-each, set-some, both}
use Rattle.bk_form.proofs.Members.{or-cases}
use Rattle.bk_gsl.proofs.Runs.{outside}
use Rattle.bk_gsl.proofs.Listed.{terms-listed, firsts-listed}
use Rattle.bk_gsl.proofs.Reading.{Kept, map-then, outside-then, variables-occur, runs-agree, ends-agree, clean-agree}
use Rattle.bk_form.specs.Each.{Each}
use Rattle.bk_gsl.specs.Avoids.{Free, NoneIn, Avoids}
use Rattle.bk_gsl.specs.Laws.{AvoidedDoesNotMatter}

-- ---- a formula that is typed has only listed variables
listed-or-none : (table : Table) (n : ℕ) (o : Option ValueType) → variable_type table n ≡ o → IsSome (given_by o) → IsListed table n
listed-or-none table n None e h = absurd (h refl)
listed-or-none table n (Some t) e h = (t, e)

module _ (table : Table) (n : ℕ) where
  mutual
    occurs-listed : (around : List ValueType) (f : Formula) → IsSome (role table around f) → occurs n f ≡ true → IsListed table n
    occurs-listed around (variable m) h o = let w = listed-or-none table m (variable_type table m) refl h in (w.0, subst (λ x. variable_type table x ≡ Some w.0) (nat_eq-same m n o) w.1)
    occurs-listed around (unary op a) h o = occurs-listed around a (λ k. h (ap (unary_role op) k ∙ unary-none op)) o
    occurs-listed around (binary op a b) h o = elim (or-cases (occurs n a) (occurs n b) o) [
      | inl q ↦ occurs-listed around a (λ k. h (ap (λ r. binary_role op r (role table around b)) k ∙ left-none op (role table around b))) q
      | inr q ↦ occurs-listed around b (λ k. h (ap (binary_role op (role table around a)) k ∙ right-none op (role table around a))) q
    ]
    occurs-listed around (for_all ts p) h o = occurs-listed (bind ts around) p (quantifier-some table ts (role table (bind ts around) p) h) o
    occurs-listed around (for_some ts p) h o = occurs-listed (bind ts around) p (quantifier-some table ts (role table (bind ts around) p) h) o
    occurs-listed around (comprehension rs p) h o =
        let ts = element_types (roles table around rs) in
        let t = set_type (tuple_type ts) in
        let k = ranges-some (roles table around rs) (if_predicate (gives t) (role table (bind ts around) p)) h in
        elim (or-cases (any_occurs n rs) (occurs n p) o) [
          | inl q ↦ any-occurs-listed around rs (are-each (roles table around rs) k.0) q
          | inr q ↦ occurs-listed (bind ts around) p (λ x. k.1 (ap (if_predicate (gives t)) x)) q
        ]
    occurs-listed around (lambda rs p v) h o =
        let ts = element_types (roles table around rs) in
        let q = role table (bind ts around) p in
        let w = role table (bind ts around) v in
        let image : Role → Role = if_value (λ u. gives (set_type (pair_type (tuple_type ts) u))) in
        let k = ranges-some (roles table around rs) (if_predicate (image w) q) h in
        elim (or-cases (any_occurs n rs || occurs n p) (occurs n v) o) [
          | inl y ↦ elim (or-cases (any_occurs n rs) (occurs n p) y) [
            | inl z ↦ any-occurs-listed around rs (are-each (roles table around rs) k.0) z
            | inr z ↦ occurs-listed (bind ts around) p (λ x. k.1 (ap (if_predicate (image w)) x)) z
          ]
          | inr z ↦ occurs-listed (bind ts around) v (λ x. k.1 (ap (λ y. if_predicate (image y) q) x ∙ predicate-none q)) z
        ]
    occurs-listed around _ h o = absurd (cc)

    any-occurs-listed : (around : List ValueType) (fs : Formulas) → each_gives_set (roles table around fs) ≡ true → any_occurs n fs ≡ true → IsListed table n
    any-occurs-listed around no_formulas h o = absurd (cc)
    any-occurs-listed around (formula_and f fs) h o =
        let k = both (gives_set (role table around f)) (each_gives_set (roles table around fs)) h in
        elim (or-cases (occurs n f) (any_occurs n fs) o) [
          | inl q ↦ occurs-listed around f (set-some (role table around f) k.0) q
          | inr q ↦ any-occurs-listed around fs k.1 q
        ]

module _ (table : Table) (off : ℕ → Bool) (un : (n : ℕ) → off n ≡ true → IsListed table n → ⊥) where
  pub predicate-free : (p : Formula) → role table [] p ≡ predicate → Free off p
  predicate-free p h n o = elim (cases (occurs n p)) [
    | inl q ↦ absurd (un n o (occurs-listed table n [] p (λ k. let e : predicate ≡ untyped = sym h ∙ k in cc) q))
    | inr q ↦ q
  ]

  pub term-free : (t : ValueType) (f : Formula) → role table [] f ≡ gives t → Free off f
  term-free t f h n o = elim (cases (occurs n f)) [
    | inl q ↦ absurd (un n o (occurs-listed table n [] f (λ k. let e : gives t ≡ untyped = sym h ∙ k in cc) q))
    | inr q ↦ q
  ]

  none-listed : (zs : List ℕ) → AreListed table zs → NoneIn off zs
  none-listed [] l n o = refl
  none-listed (z ∷ zs) l n o = by_test (none-listed zs l.1 n o) (nat_eq n z) refl
    where
      by_test : among zs n ≡ false → (b : Bool) → nat_eq n z ≡ b → (b || among zs n) ≡ false
      by_test on true q = absurd (un n o (l.0.0, subst (λ m. variable_type table m ≡ Some l.0.0) (sym (nat_eq-same n z q)) l.0.1))
      by_test on false q = on

  each-free : (ps : List (ℕ × Formula)) → AreTypedTerms table ps → Each (λ p. Free off p.1) ps
  each-free [] w = tt
  each-free (p ∷ ps) w = (term-free w.0.0 p.1 w.0.2, each-free ps w.1)

  pub avoids : (s : Substitution) → Types table s → Avoids off s
  avoids skip w = tt
  avoids (assign ps) w = (none-listed (firsts ps) (terms-listed table ps w), each-free ps w)
  avoids (pre p s) w = (predicate-free p w.0, avoids s w.1)
  avoids (guard p s) w = (predicate-free p w.0, avoids s w.1)
  avoids (choice s t) w = (avoids s w.0, avoids t w.1)
  avoids (if_else p s t) w = (predicate-free p w.0, avoids s w.1, avoids t w.2)
  avoids (any zs s) w = (none-listed zs w.0, avoids s w.1)
  avoids (seq s t) w = (avoids s w.0, avoids t w.1)
  avoids (par s t) w = (avoids s w.0, avoids t w.1)
  avoids (assert p s) w = (predicate-free p w.0, avoids s w.1)
  avoids (becomes_such xs p) w = (none-listed (firsts xs) (firsts-listed table xs w.0), predicate-free p w.1)
  avoids (loop p s i v) w = (predicate-free p w.0, avoids s w.1, predicate-free i w.2, term-free int_type v w.3)

-- ---- what is avoided is neither written nor read
pub written-avoided : (off : ℕ → Bool) (s : Substitution) → Avoids off s → NoneIn off (written s)
written-avoided off skip a n o = refl
written-avoided off (assign ps) a n o = a.0 n o
written-avoided off (pre p s) a n o = written-avoided off s a.1 n o
written-avoided off (guard p s) a n o = written-avoided off s a.1 n o
written-avoided off (choice s t) a n o = among-neither (written s) (written t) n (written-avoided off s a.0 n o) (written-avoided off t a.1 n o)
written-avoided off (if_else p s t) a n o = among-neither (written s) (written t) n (written-avoided off s a.1 n o) (written-avoided off t a.2 n o)
written-avoided off (any zs s) a n o = among-kept zs (written s) n (written-avoided off s a.1 n o)
written-avoided off (seq s t) a n o = among-neither (written s) (written t) n (written-avoided off s a.0 n o) (written-avoided off t a.1 n o)
written-avoided off (par s t) a n o = among-neither (written s) (written t) n (written-avoided off s a.0 n o) (written-avoided off t a.1 n o)
written-avoided off (assert p s) a n o = written-avoided off s a.1 n o
written-avoided off (becomes_such xs p) a n o = a.0 n o
written-avoided off (loop p s i v) a n o = written-avoided off s a.1 n o

-- what an assignment gives a variable names none of them
pub looked_up-free : (off : ℕ → Bool) (ps : List (ℕ × Formula)) → Each (λ p. Free off p.1) ps → (n : ℕ) → off n ≡ false → Free off (looked_up ps n)
looked_up-free off [] a n o = λ m q. by_test m q (nat_eq n m) refl
  where
    by_test : (m : ℕ) → off m ≡ true → (b : Bool) → nat_eq n m ≡ b → b ≡ false
    by_test m q true e = clash (off m) q (ap off (sym (nat_eq-same n m e)) ∙ o)
    by_test m q false e = refl
looked_up-free off (p ∷ ps) a n o = elim (nat_eq n p.0) as (λ b. Free off (cond b p.1 (looked_up ps n))) [ true ↦ a.0 | false ↦ looked_up-free off ps a.1 n o ]

-- nor does the variable whose old value a number stands for pass the test
pub old-avoided : (off : ℕ → Bool) (xs : List (ℕ × ℕ)) → NoneIn off (firsts xs) → (n : ℕ) → off n ≡ false → off (old_of xs n) ≡ false
old-avoided off [] a n o = o
old-avoided off (x ∷ xs) a n o = elim (nat_eq n x.1) as (λ b. off (cond b x.0 (old_of xs n)) ≡ false) [ true ↦ first | false ↦ old-avoided off xs (λ m q. (or-false (nat_eq m x.0) (among (firsts xs) m) (a m q)).1) n o ]
  where
    first : off x.0 ≡ false
    first = elim (cases (off x.0)) [
      | inl q ↦ clash (nat_eq x.0 x.0) (nat_eq-self x.0) (or-false (nat_eq x.0 x.0) (among (firsts xs) x.0) (a x.0 q)).0
      | inr q ↦ q
    ]

free-read : (off : ℕ → Bool) (f : Formula) → Free off f → NoneIn off (variables_of f)
free-read off f a n o = elim (cases (among (variables_of f) n)) [ inl q ↦ clash (occurs n f) (variables-occur f n q) (a n o) | inr q ↦ q ]

terms-read : (off : ℕ → Bool) (ps : List (ℕ × Formula)) → Each (λ p. Free off p.1) ps → NoneIn off (variables_of_terms ps)
terms-read off [] a n o = refl
terms-read off (p ∷ ps) a n o = among-neither (variables_of p.1) (variables_of_terms ps) n (free-read off p.1 a.0 n o) (terms-read off ps a.1 n o)

not-off : (off : ℕ → Bool) (f : Formula) → Free off f → (n : ℕ) → occurs n f ≡ true → off n ≡ false
not-off off f a n h = elim (cases (off n)) [ inl q ↦ clash (occurs n f) h (a n q) | inr q ↦ q ]

pub read-avoided : (off : ℕ → Bool) (s : Substitution) → Avoids off s → NoneIn off (read s)
read-avoided off skip a n o = refl
read-avoided off (assign ps) a n o = terms-read off ps a.1 n o
read-avoided off (pre p s) a n o = among-neither (variables_of p) (read s) n (free-read off p a.0 n o) (read-avoided off s a.1 n o)
read-avoided off (guard p s) a n o = among-neither (variables_of p) (read s) n (free-read off p a.0 n o) (read-avoided off s a.1 n o)
read-avoided off (choice s t) a n o = among-neither (read s) (read t) n (read-avoided off s a.0 n o) (read-avoided off t a.1 n o)
read-avoided off (if_else p s t) a n o = among-neither (variables_of p ++ read s) (read t) n (among-neither (variables_of p) (read s) n (free-read off p a.0 n o) (read-avoided off s a.1 n o)) (read-avoided off t a.2 n o)
read-avoided off (any zs s) a n o = among-kept zs (read s) n (read-avoided off s a.1 n o)
read-avoided off (seq s t) a n o = among-neither (read s) (read t) n (read-avoided off s a.0 n o) (read-avoided off t a.1 n o)
read-avoided off (par s t) a n o = among-neither (read s) (read t) n (read-avoided off s a.0 n o) (read-avoided off t a.1 n o)
read-avoided off (assert p s) a n o = among-neither (variables_of p) (read s) n (free-read off p a.0 n o) (read-avoided off s a.1 n o)
read-avoided off (becomes_such xs p) a n o = elim (cases (among (map (old_of xs) (unbound (firsts xs) (variables_of p))) n)) [
  | inl q ↦
      let w = map-then (old_of xs) (unbound (firsts xs) (variables_of p)) n q in
      let seen = not-off off p a.1 w.0 (variables-occur p w.0 (outside-then (firsts xs) (variables_of p) w.0 w.1).0) in
      clash (off n) o (ap off w.2 ∙ old-avoided off xs a.0 w.0 seen)
  | inr q ↦ q
]
read-avoided off (loop p s i v) a n o =
    among-neither ((variables_of p ++ read s) ++ variables_of i) (variables_of v) n
    (among-neither (variables_of p ++ read s) (variables_of i) n (among-neither (variables_of p) (read s) n (free-read off p a.0 n o) (read-avoided off s a.1 n o)) (free-read off i a.2 n o))
    (free-read off v a.3 n o)

-- ---- from a state that differs only in what is avoided it runs, ends and is clean as before
module _ (find : Finder) (table : Table) (off : ℕ → Bool) where
  agree : (s : Substitution) → Avoids off s → (d e : State) → AgreeOn (read s) (over off d e) e
  agree s a d e n h = elim (cases (off n)) [ inl k ↦ clash (among (read s) n) h (read-avoided off s a n k) | inr k ↦ over-off off d e n k ]

  at-over : (s : Substitution) → Avoids off s → (d e f : State) → ((g : State) × Runs find table s (over off d e) g × Kept (over off d e) e g f) → Runs find table s (over off d e) (over off d f)
  at-over s a d e f w = subst (Runs find table s (over off d e)) (λ i n. at n i) w.1
    where
      at : (n : ℕ) → w.0 n ≡ over off d f n
      at n = elim (cases (off n)) [
        | inl k ↦ outside find table s (over off d e) w.0 w.1 n (written-avoided off s a n k) ∙ over-at off d e n k ∙ sym (over-at off d f n k)
        | inr k ↦ w.2 n (over-off off d e n k) ∙ sym (over-off off d f n k)
      ]

  -- it keeps what it avoids
  pub runs-over : (s : Substitution) → Avoids off s → (d e f : State) → Runs find table s e f → Runs find table s (over off d e) (over off d f)
  runs-over s a d e f q = at-over s a d e f (runs-agree find table s (over off d e) e f (agree s a d e) q)

  pub ends-over : (s : Substitution) → Avoids off s → (d e : State) → Ends find table s e → Ends find table s (over off d e)
  ends-over s a d e q = ends-agree find table s (over off d e) e (agree s a d e) q

  pub clean-over : (arrays : Option ArrayTable) (s : Substitution) → Avoids off s → (d e : State) → Clean find table arrays s e → Clean find table arrays s (over off d e)
  clean-over arrays s a d e q = clean-agree find table arrays s (over off d e) e (agree s a d e) q

pub avoided_does_not_matter : AvoidedDoesNotMatter
avoided_does_not_matter = record {
  runs = λ find table off s a d e f q. runs-over find table off s a d e f q;
  ends = λ find table off s a d e q. ends-over find table off s a d e q;
  clean = λ find table off arrays s a d e q. clean-over find table off arrays s a d e q;
}
