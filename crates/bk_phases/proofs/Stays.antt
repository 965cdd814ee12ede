-- What a resolved substitution names, writes and binds, it may.
use Rattle.std.proofs.Common.{◌≡◌, ◌⊎◌, inl, inr, ℕ, List, [], ◌∷◌, ◌++◌, map, refl, sym, ◌∙◌, ap, subst, Bool, true, false, cond, not, ◌||◌, arith, nat_eq}
use Rattle.std.specs.List.{flat_map, filter}
use Rattle.std.proofs.lemmas.Bool.Decides.{nat_tests}
use Rattle.std.proofs.lemmas.List.{map-append}
use Rattle.bk_form.specs.Each.{Each}
use Rattle.bk_form.specs.Table.{Table}
use Rattle.bk_form.specs.Formula.{Formula, variable, unary, binary}
use Rattle.bk_form.specs.Replacement.{occurs}
use Rattle.bk_form.specs.declared.operator.UnOp.TheVariants.{Single, Not as Negation}
use Rattle.bk_form.specs.declared.operator.BinOp.TheVariants.{In, Maps, And as Conjunction}
use Rattle.bk_gsl.specs.State.{among, firsts}
use Rattle.bk_gsl.specs.Writes.{written}
use Rattle.bk_gsl.specs.Substitution.{Substitution, skip, assign, pre, guard, choice, if_else, any, seq, par, assert, becomes_such, loop}
use Rattle.bk_dev.specs.Facts.{AllAre, AreDistinct, AreNew, AssignsIn, StaysIn, seconds, Names as NamesOnly}
use Rattle.bk_raw.proofs.RulesFit.{none-left, some-fault}
use Rattle.bk_statics.specs.Typings.{Target, unknown, no_variable, variable_target, as_number, or_else}
use Rattle.bk_statics.specs.Settled.{IsSettled, AreOf}
use Rattle.bk_phases.specs.Scope.{unless, Local, numbers, Written}
use Rattle.bk_phases.specs.Term.{Term}
use Rattle.bk_phases.specs.Statement.{Statement, skip_at, assign_at, update_at, member_at, such_at, call_at, pre_at, assert_at, if_at, guard_at, choice_at, else_at, branches_at, any_at, var_at, loop_at, par_at, seq_at, within, left_names, writes_of}
use Rattle.bk_phases.specs.Types.{Types}
use Rattle.bk_phases.specs.Formulas.{formula}
use Rattle.bk_phases.specs.Writes.{is_among, with_number, variables_of, twice_written, uneven, written_by_both}
use Rattle.bk_phases.specs.LevelOf.{number_for, assignments, old_pairs, overridden, guards, and_none_of, none_of, elaborated}
use Rattle.bk_phases.specs.Scoping.{IsTargetSeen, AreTargetsSeen, AreTermsSeen, IsScoped, IsVariableOf, IsRightHere}
use Rattle.bk_phases.proofs.Lists.{flat-join, each-left, each-right, each-append, each-flat, each-as}
use Rattle.bk_phases.proofs.Scoped.{or-cases, or-left, or-right, or-false}
use Rattle.bk_phases.proofs.Named.{formula-names}

nat_eq-then : (m n : ℕ) → nat_eq m n ≡ true → m ≡ n
nat_eq-then m n h = grind (arith, nat_tests)

-- ---- lists
append-left : (xs ys : List ℕ) (m : ℕ) → among xs m ≡ true → among (xs ++ ys) m ≡ true
append-left [] ys m h = absurd (cc)
append-left (x ∷ xs) ys m h = elim (or-cases (nat_eq m x) (among xs m) h) [
  | inl e ↦ or-left (nat_eq m x) (among (xs ++ ys) m) e
  | inr e ↦ or-right (nat_eq m x) (among (xs ++ ys) m) (append-left xs ys m e)
]

append-right : (xs ys : List ℕ) (m : ℕ) → among ys m ≡ true → among (xs ++ ys) m ≡ true
append-right [] ys m h = h
append-right (x ∷ xs) ys m h = or-right (nat_eq m x) (among (xs ++ ys) m) (append-right xs ys m h)

among-append : (xs ys : List ℕ) (m : ℕ) → among (xs ++ ys) m ≡ true → (among xs m ≡ true) ⊎ (among ys m ≡ true)
among-append [] ys m h = inr h
among-append (x ∷ xs) ys m h = elim (or-cases (nat_eq m x) (among (xs ++ ys) m) h) [
  | inl e ↦ inl (or-left (nat_eq m x) (among xs m) e)
  | inr e ↦ elim (among-append xs ys m e) [ inl k ↦ inl (or-right (nat_eq m x) (among xs m) k) | inr k ↦ inr k ]
]

filter-step : (p : ℕ → Bool) (x : ℕ) (xs : List ℕ) (m : ℕ) (c : Bool) → (among (filter p xs) m ≡ true → among xs m ≡ true) → among (cond c (x ∷ filter p xs) (filter p xs)) m ≡ true → among (x ∷ xs) m ≡ true
filter-step p x xs m false next k = or-right (nat_eq m x) (among xs m) (next k)
filter-step p x xs m true next k = elim (or-cases (nat_eq m x) (among (filter p xs) m) k) [
  | inl l ↦ or-left (nat_eq m x) (among xs m) l
  | inr l ↦ or-right (nat_eq m x) (among xs m) (next l)
]

filter-passes : (p : ℕ → Bool) (xs : List ℕ) (m : ℕ) → among (filter p xs) m ≡ true → among xs m ≡ true
filter-passes p [] m h = h
filter-passes p (x ∷ xs) m h = filter-step p x xs m (p x) (filter-passes p xs m) h

-- ---- formulas
module _ (visible : ℕ → Bool) where
  variable-names : (n : ℕ) → visible n ≡ true → NamesOnly visible (variable n)
  variable-names n h = record { closed = tt; visible_only = λ m e. subst (λ k. visible k ≡ true) (nat_eq-then n m e) h }

  binary-in : (f g : Formula) → NamesOnly visible f → NamesOnly visible g → NamesOnly visible (binary In f g)
  binary-in f g h k = record { closed = (h.closed, k.closed); visible_only = λ n o. elim (or-cases (occurs n f) (occurs n g) o) [ inl a ↦ h.visible_only n a | inr a ↦ k.visible_only n a ] }

  conjunction-names : (p q : Formula) → NamesOnly visible p → NamesOnly visible q → NamesOnly visible (binary Conjunction p q)
  conjunction-names p q h k = record { closed = (h.closed, k.closed); visible_only = λ n o. elim (or-cases (occurs n p) (occurs n q) o) [ inl a ↦ h.visible_only n a | inr a ↦ k.visible_only n a ] }

  negation-names : (p : Formula) → NamesOnly visible p → NamesOnly visible (unary Negation p)
  negation-names p h = record { closed = h.closed; visible_only = λ n o. h.visible_only n o }

  pair-names : (e v : Formula) → NamesOnly visible e → NamesOnly visible v → NamesOnly visible (unary Single (binary Maps e v))
  pair-names e v h k = record { closed = (h.closed, k.closed); visible_only = λ n o. elim (or-cases (occurs n e) (occurs n v) o) [ inl a ↦ h.visible_only n a | inr a ↦ k.visible_only n a ] }

  over-names : (f : ℕ) (e v : Formula) → visible f ≡ true → NamesOnly visible e → NamesOnly visible v → NamesOnly visible (overridden f e v)
  over-names f e v s h k =
      let left = variable-names f s in
      let right = pair-names e v h k in
      record { closed = (tt, right.closed); visible_only = λ n o. elim (or-cases (nat_eq f n) (occurs n e || occurs n v) o) [ inl a ↦ left.visible_only n a | inr a ↦ right.visible_only n a ] }

  and-none-names : (before : Formula) (ps : List Formula) → NamesOnly visible before → Each (NamesOnly visible) ps → NamesOnly visible (and_none_of before ps)
  and-none-names before [] h k = h
  and-none-names before (p ∷ ps) h k = and-none-names (binary Conjunction before (unary Negation p)) ps (conjunction-names before (unary Negation p) h (negation-names p k.0)) k.1

  none-names : (ps : List Formula) → Each (NamesOnly visible) ps → NamesOnly visible (none_of ps)
  none-names [] h = record { closed = tt; visible_only = λ n e. absurd (cc) }
  none-names (p ∷ ps) h = and-none-names (unary Negation p) ps (negation-names p h.0) h.1

  guards-named : (above writable : ℕ → Bool) (s : Substitution) → StaysIn visible above writable s → Each (NamesOnly visible) (guards s)
  guards-named above writable (guard p s) h = (h.0, tt)
  guards-named above writable (choice s t) h = each-append (NamesOnly visible) (guards s) (guards t) (guards-named above writable s h.0) (guards-named above writable t h.1)
  guards-named above writable skip h = tt
  guards-named above writable (assign ps) h = tt
  guards-named above writable (pre p s) h = tt
  guards-named above writable (if_else p s t) h = tt
  guards-named above writable (any zs s) h = tt
  guards-named above writable (seq s t) h = tt
  guards-named above writable (par s t) h = tt
  guards-named above writable (assert p s) h = tt
  guards-named above writable (becomes_such xs p) h = tt
  guards-named above writable (loop p s i v) h = tt

-- ---- what is written
abbrev number_in : Target → ℕ
number_in v = or_else 0 (as_number v)

unless-not : (b : Bool) (at : ℕ) (fs : List ℕ) → unless (not b) at ++ fs ≡ [] → (b ≡ false) × (fs ≡ [])
unless-not true at fs h = some-fault at fs h
unless-not false at fs h = (refl, h)

other-number : (before : List ℕ) (m k : ℕ) → among before m ≡ true → among before k ≡ false → nat_eq m k ≡ false
other-number before m k h l = by_test (nat_eq m k) refl
  where
    by_test : (c : Bool) → nat_eq m k ≡ c → nat_eq m k ≡ false
    by_test false e = e
    by_test true e = let same = nat_eq-then m k e in let t : among before k ≡ true = subst (λ i. among before i ≡ true) same h in absurd (cc)

self-among : (n : ℕ) (ns : List ℕ) → among (n ∷ ns) n ≡ true
self-among n ns = or-left (nat_eq n n) (among ns n) (grind (arith, nat_tests))

module _ (may : ℕ → Bool) where
  -- the first of the names on the left stands not before, and the others not after it
  record IsFree (before : List ℕ) (v : Target) (xs : List Written) : Type 0 where
    new : among before (number_in v) ≡ false
    rest : twice_written (number_in v ∷ before) xs ≡ []

  free-by : (v : Target) (at : ℕ) (before : List ℕ) (xs : List Written) → IsVariableOf may v → unless (not (is_among before v)) at ++ twice_written (with_number (as_number v) before) xs ≡ [] → IsFree before v xs
  free-by (variable_target n) at before xs w h = let k = unless-not (among before n) at (twice_written (n ∷ before) xs) h in record { new = k.0; rest = k.1 }
  free-by unknown at before xs w h = absurd w
  free-by no_variable at before xs w h = absurd w

  abbrev AreVariables : List Written → Type 0
  AreVariables xs = Each (λ (x : Written). IsVariableOf may x.target) xs

  later-apart : (types : Types) (before : List ℕ) (m : ℕ) (xs : List Written) (es : List Term) → among before m ≡ true → AreVariables xs → twice_written before xs ≡ [] → among (firsts (assignments types xs es)) m ≡ false
  later-apart types before m [] es h w e = refl
  later-apart types before m (x ∷ xs) [] h w e = refl
  later-apart types before m (x ∷ xs) (a ∷ es) h w e =
      let n = number_in x.target in
      let k = free-by x.target x.name.at before xs w.0 e in
      or-false (nat_eq m n) (among (firsts (assignments types xs es)) m) (other-number before m n h k.new) (later-apart types (n ∷ before) m xs es (or-right (nat_eq m n) (among before m) h) w.1 k.rest)

  -- the same of a list of names alone
  numbers-apart : (before : List ℕ) (m : ℕ) (xs : List Written) → among before m ≡ true → AreVariables xs → twice_written before xs ≡ [] → among (map number_for xs) m ≡ false
  numbers-apart before m [] h w e = refl
  numbers-apart before m (x ∷ xs) h w e =
      let n = number_in x.target in
      let k = free-by x.target x.name.at before xs w.0 e in
      or-false (nat_eq m n) (among (map number_for xs) m) (other-number before m n h k.new) (numbers-apart (n ∷ before) m xs (or-right (nat_eq m n) (among before m) h) w.1 k.rest)

  numbers-distinct : (before : List ℕ) (xs : List Written) → AreVariables xs → twice_written before xs ≡ [] → AreDistinct (map number_for xs)
  numbers-distinct before [] w e = tt
  numbers-distinct before (x ∷ xs) w e =
      let n = number_in x.target in
      let k = free-by x.target x.name.at before xs w.0 e in
      (numbers-apart (n ∷ before) n xs (self-among n before) w.1 k.rest, numbers-distinct (n ∷ before) xs w.1 k.rest)

  -- ---- both sides of ||
  with-variable : (v : Target) (ns : List ℕ) → IsVariableOf may v → with_number (as_number v) ns ≡ number_in v ∷ ns
  with-variable (variable_target n) ns w = refl
  with-variable unknown ns w = absurd w
  with-variable no_variable ns w = absurd w

  variables-numbers : (xs : List Written) → AreVariables xs → variables_of xs ≡ map number_for xs
  variables-numbers [] w = refl
  variables-numbers (x ∷ xs) w = with-variable x.target (variables_of xs) w.0 ∙ ap (λ l. number_in x.target ∷ l) (variables-numbers xs w.1)

  as-among : (v : Target) (ns : List ℕ) → IsVariableOf may v → is_among ns v ≡ among ns (number_in v)
  as-among (variable_target n) ns w = refl
  as-among unknown ns w = absurd w
  as-among no_variable ns w = absurd w

  none-by : (c : Bool) (x : Written) (rest : List Written) → map (λ (y : Written). y.name.at) (cond c (x ∷ rest) rest) ≡ [] → (c ≡ false) × (map (λ (y : Written). y.name.at) rest ≡ [])
  none-by true x rest h = some-fault x.name.at (map (λ (y : Written). y.name.at) rest) h
  none-by false x rest h = (refl, h)

  none-shared : (ns : List ℕ) (rs : List Written) (m : ℕ) → AreVariables rs → map (λ (x : Written). x.name.at) (filter (λ (x : Written). is_among ns x.target) rs) ≡ [] → among (map number_for rs) m ≡ true → among ns m ≡ false
  none-shared ns [] m w e h = absurd (cc)
  none-shared ns (x ∷ rs) m w e h =
      let k = none-by (is_among ns x.target) x (filter (λ (y : Written). is_among ns y.target) rs) e in
      elim (or-cases (nat_eq m (number_in x.target)) (among (map number_for rs) m) h) [
        | inl l ↦ subst (λ y. among ns y ≡ false) (sym (nat_eq-then m (number_in x.target) l)) (sym (as-among x.target ns w.0) ∙ k.0)
        | inr l ↦ none-shared ns rs m w.1 k.1 l
      ]

  shared-none : (ls rs : List Written) (m : ℕ) → AreVariables ls → AreVariables rs → written_by_both ls rs ≡ [] → among (map number_for rs) m ≡ true → among (map number_for ls) m ≡ false
  shared-none ls rs m w v e h = subst (λ l. among l m ≡ false) (variables-numbers ls w) (none-shared (variables_of ls) rs m v e h)

-- ---- what a substitution writes is on the left of one in it
-- what both sides write
both-written : (xs ys : List ℕ) (s t : Statement) (m : ℕ) → (among xs m ≡ true → among (map number_for (writes_of s)) m ≡ true) → (among ys m ≡ true → among (map number_for (writes_of t)) m ≡ true) → among (xs ++ ys) m ≡ true → among (map number_for (flat_map left_names (within s ++ within t))) m ≡ true
both-written xs ys s t m f g h =
    let e = sym (flat-join left_names (within s) (within t)) in
    subst (λ l. among (map number_for l) m ≡ true) e
    (subst (λ l. among l m ≡ true) (sym (map-append number_for (writes_of s) (writes_of t)))
    (elim (among-append xs ys m h) [
      | inl k ↦ append-left (map number_for (writes_of s)) (map number_for (writes_of t)) m (f k)
      | inr k ↦ append-right (map number_for (writes_of s)) (map number_for (writes_of t)) m (g k)
    ]))

nothing-after : (xs : List Written) → xs ++ [] ≡ xs
nothing-after [] = refl
nothing-after (x ∷ xs) = ap (λ l. x ∷ l) (nothing-after xs)

-- names on the left of a substitution in which none stands
left-only : (xs : List Written) (m : ℕ) → among (map number_for xs) m ≡ true → among (map number_for (xs ++ [])) m ≡ true
left-only xs m h = subst (λ l. among (map number_for l) m ≡ true) (sym (nothing-after xs)) h

module _ (types : Types) where
  assigned-written : (xs : List Written) (es : List Term) (m : ℕ) → among (firsts (assignments types xs es)) m ≡ true → among (map number_for xs) m ≡ true
  assigned-written [] es m h = h
  assigned-written (x ∷ xs) [] m h = absurd (cc)
  assigned-written (x ∷ xs) (e ∷ es) m h = elim (or-cases (nat_eq m (number_for x)) (among (firsts (assignments types xs es)) m) h) [
    | inl k ↦ or-left (nat_eq m (number_for x)) (among (map number_for xs) m) k
    | inr k ↦ or-right (nat_eq m (number_for x)) (among (map number_for xs) m) (assigned-written xs es m k)
  ]

  such-written : (xs : List (Written × Local)) → firsts (old_pairs xs) ≡ map number_for (map (λ (x : Written × Local). x.0) xs)
  such-written [] = refl
  such-written (x ∷ xs) = ap (λ l. number_for x.0 ∷ l) (such-written xs)

  sub-written : (s : Statement) (m : ℕ) → among (written (elaborated types s)) m ≡ true → among (map number_for (writes_of s)) m ≡ true
  sub-written (skip_at at) m h = h
  sub-written (assign_at at xs es) m h = left-only xs m (assigned-written xs es m h)
  sub-written (update_at at f e v) m h = h
  sub-written (member_at at x z e) m h = filter-passes (λ n. not (among (z.number ∷ []) n)) (number_for x ∷ []) m h
  sub-written (such_at at xs p) m h = left-only (map (λ (x : Written × Local). x.0) xs) m (subst (λ l. among l m ≡ true) (such-written xs) h)
  sub-written (call_at at es) m h = h
  sub-written (pre_at at p s) m h = sub-written s m h
  sub-written (assert_at at p s) m h = sub-written s m h
  sub-written (if_at at p s t) m h = both-written (written (elaborated types s)) (written (elaborated types t)) s t m (sub-written s m) (sub-written t m) h
  sub-written (guard_at at p s) m h = sub-written s m h
  sub-written (choice_at at s t) m h = both-written (written (elaborated types s)) (written (elaborated types t)) s t m (sub-written s m) (sub-written t m) h
  sub-written (else_at at s t) m h = both-written (written (elaborated types s)) (written (elaborated types t)) s t m (sub-written s m) (sub-written t m) h
  sub-written (branches_at at s) m h = sub-written s m h
  sub-written (any_at at xs p s) m h = sub-written s m (filter-passes (λ n. not (among (numbers xs) n)) (written (elaborated types s)) m h)
  sub-written (var_at at xs s) m h = sub-written s m (filter-passes (λ n. not (among (numbers xs) n)) (written (elaborated types s)) m h)
  sub-written (loop_at at p s i v) m h = sub-written s m h
  sub-written (par_at at s t) m h = both-written (written (elaborated types s)) (written (elaborated types t)) s t m (sub-written s m) (sub-written t m) h
  sub-written (seq_at at s t) m h = both-written (written (elaborated types s)) (written (elaborated types t)) s t m (sub-written s m) (sub-written t m) h

all-are : (p : ℕ → Bool) (ns : List ℕ) → ((m : ℕ) → among ns m ≡ true → p m ≡ true) → AllAre p ns
all-are p [] f = tt
all-are p (n ∷ ns) f = (f n (self-among n ns), all-are p ns (λ m e. f m (or-right (nat_eq m n) (among ns m) e)))

not-both : (c : Bool) → (c ≡ true → ⊥) → not c ≡ true
not-both true f = absurd (f refl)
not-both false f = refl

-- ---- substitutions
seconds-numbers : (xs : List (Written × Local)) → numbers (map (λ (x : Written × Local). x.1) xs) ≡ seconds (old_pairs xs)
seconds-numbers [] = refl
seconds-numbers (x ∷ xs) = ap (λ l. x.1.number ∷ l) (seconds-numbers xs)

module _ (types : Types) (table : Table) (settled : IsSettled table types.of) (above may : ℕ → Bool) where
  abbrev Admitted : (ℕ → Bool) → (ℕ → Bool) → Type 0
  Admitted visible writable = (n : ℕ) → visible n ≡ true → may n ≡ true → writable n ≡ true

  abbrev AreRight : Statement → Type 0
  AreRight s = Each (IsRightHere table may) (within s)

  writable-at : (visible writable : ℕ → Bool) → Admitted visible writable → (v : Target) → IsTargetSeen visible v → IsVariableOf may v → writable (number_in v) ≡ true
  writable-at visible writable a (variable_target n) h w = a n h w
  writable-at visible writable a unknown h w = absurd w
  writable-at visible writable a no_variable h w = absurd w

  seen-at : (visible : ℕ → Bool) (v : Target) → IsTargetSeen visible v → IsVariableOf may v → visible (number_in v) ≡ true
  seen-at visible (variable_target n) h w = h
  seen-at visible unknown h w = absurd w
  seen-at visible no_variable h w = absurd w

  inside : (zs : List ℕ) (visible writable : ℕ → Bool) → Admitted visible writable → Admitted (λ n. among zs n || visible n) (λ n. among zs n || writable n)
  inside zs visible writable a n h w = elim (or-cases (among zs n) (visible n) h) [
    | inl e ↦ or-left (among zs n) (writable n) e
    | inr e ↦ or-right (among zs n) (writable n) (a n e w)
  ]

  assigned-stays : (visible writable : ℕ → Bool) → Admitted visible writable → (before : List ℕ) (xs : List Written) (es : List Term) → AreTargetsSeen visible xs → AreVariables may xs → AreTermsSeen visible es → Each (λ (t : Term). AreOf table t.names) es → twice_written before xs ≡ [] → AssignsIn visible writable (assignments types xs es)
  assigned-stays visible writable a before [] es h w k o e = tt
  assigned-stays visible writable a before (x ∷ xs) [] h w k o e = tt
  assigned-stays visible writable a before (x ∷ xs) (t ∷ es) h w k o e =
      let n = number_in x.target in
      let f = free-by may x.target x.name.at before xs w.0 e in (
        writable-at visible writable a x.target h.0 w.0,
        formula-names table types settled visible t o.0 k.0,
        later-apart may types (n ∷ before) n xs es (self-among n before) w.1 f.rest,
        assigned-stays visible writable a (n ∷ before) xs es h.1 w.1 k.1 o.1 f.rest,
      )

  all-writable : (visible writable : ℕ → Bool) → Admitted visible writable → (xs : List Written) → AreTargetsSeen visible xs → AreVariables may xs → AllAre writable (map number_for xs)
  all-writable visible writable a [] h w = tt
  all-writable visible writable a (x ∷ xs) h w = (writable-at visible writable a x.target h.0 w.0, all-writable visible writable a xs h.1 w.1)

  left-variables : (s : Statement) → AreRight s → AreVariables may (writes_of s)
  left-variables s r = each-flat (λ (x : Written). IsVariableOf may x.target) left_names (within s) (each-as (IsRightHere table may) (λ (t : Statement). AreVariables may (left_names t)) (λ t h. h.left) (within s) r)

  -- those of two that stand in one
  first-right : (s t : Statement) → Each (IsRightHere table may) (within s ++ within t) → AreRight s
  first-right s t r = each-left (IsRightHere table may) (within s) (within t) r

  second-right : (s t : Statement) → Each (IsRightHere table may) (within s ++ within t) → AreRight t
  second-right s t r = each-right (IsRightHere table may) (within s) (within t) r

  apart : (s t : Statement) → AreRight s → AreRight t → written_by_both (writes_of s) (writes_of t) ≡ [] → AllAre (λ n. not (among (written (elaborated types t)) n)) (written (elaborated types s))
  apart s t r q e = all-are (λ n. not (among (written (elaborated types t)) n)) (written (elaborated types s)) (λ m h. not-both (among (written (elaborated types t)) m) (λ k.
      let no = shared-none may (writes_of s) (writes_of t) m (left-variables s r) (left-variables t q) e (sub-written types t m k) in
      let yes = sub-written types s m h in
      absurd (cc)))

  such-stays : (visible writable : ℕ → Bool) → Admitted visible writable → (at : ℕ) (xs : List (Written × Local)) (p : Term) → IsScoped visible above (such_at at xs p) → IsRightHere table may (such_at at xs p) → StaysIn visible above writable (becomes_such (old_pairs xs) (formula types p))
  such-stays visible writable a at xs p h r =
      let ls = map (λ (x : Written × Local). x.0) xs in
      let e = sym (such-written types xs) in
      let z = seconds-numbers xs in
      let bound = h.1 in (
        subst (AllAre writable) e (all-writable visible writable a ls h.0 r.left),
        subst AreDistinct e (numbers-distinct may [] ls r.left r.writes),
        subst (AreNew visible) z bound.new,
        subst AreDistinct z bound.distinct,
        subst (λ zs. NamesOnly (λ n. among zs n || visible n) (formula types p)) z (formula-names table types settled (λ n. among (numbers (map (λ (x : Written × Local). x.1) xs)) n || visible n) p r.terms.0 h.2),
      )

  stay : (s : Statement) (visible writable : ℕ → Bool) → Admitted visible writable → IsScoped visible above s → AreRight s → StaysIn visible above writable (elaborated types s)
  stay (skip_at at) visible writable a h r = tt
  stay (assign_at at xs es) visible writable a h r = let q = r.0 in assigned-stays visible writable a [] xs es h.0 q.left h.1 q.terms (none-left (twice_written [] xs) (uneven xs es) q.writes)
  stay (update_at at f e v) visible writable a h r =
      let q = r.0 in
      let k = formula-names table types settled visible e q.terms.0 h.1 in
      let l = formula-names table types settled visible v q.terms.1.0 h.2 in
      (writable-at visible writable a f.target h.0 q.left.0, over-names visible (number_for f) (formula types e) (formula types v) (seen-at visible f.target h.0 q.left.0) k l, refl, tt)
  stay (member_at at x z e) visible writable a h r =
      let q = r.0 in
      let bound = h.1 in
      let sees : ℕ → Bool = λ n. among (z.number ∷ []) n || visible n in
      let own = formula-names table types settled visible e q.terms.0 h.2 in
      let domain : NamesOnly sees (formula types e) = record { closed = own.closed; visible_only = λ n o. or-right (among (z.number ∷ []) n) (visible n) (own.visible_only n o) } in
      let element = variable-names sees z.number (or-left (among (z.number ∷ []) z.number) (visible z.number) (self-among z.number [])) in (
        bound.new,
        bound.distinct,
        (
          binary-in sees (variable z.number) (formula types e) element domain,
          (or-right (among (z.number ∷ []) (number_for x)) (writable (number_for x)) (writable-at visible writable a x.target h.0 q.left.0), element, refl, tt),
        ),
      )
  stay (such_at at xs p) visible writable a h r = such-stays visible writable a at xs p h r.0
  stay (call_at at es) visible writable a h r = tt
  stay (pre_at at p s) visible writable a h r = let q = r.0 in (formula-names table types settled visible p q.terms.0 h.0, stay s visible writable a h.1 r.1)
  stay (assert_at at p s) visible writable a h r = let q = r.0 in (formula-names table types settled visible p q.terms.0 h.0, stay s visible writable a h.1 r.1)
  stay (if_at at p s t) visible writable a h r = let q = r.0 in (formula-names table types settled visible p q.terms.0 h.0, stay s visible writable a h.1 (first-right s t r.1), stay t visible writable a h.2 (second-right s t r.1))
  stay (guard_at at p s) visible writable a h r = let q = r.0 in (formula-names table types settled visible p q.terms.0 h.0, stay s visible writable a h.1 r.1)
  stay (choice_at at s t) visible writable a h r = (stay s visible writable a h.0 (first-right s t r.1), stay t visible writable a h.1 (second-right s t r.1))
  stay (else_at at s t) visible writable a h r =
      let one = stay s visible writable a h.0 (first-right s t r.1) in
      (one, (none-names visible (guards (elaborated types s)) (guards-named visible above writable (elaborated types s) one), stay t visible writable a h.1 (second-right s t r.1)))
  stay (branches_at at s) visible writable a h r = stay s visible writable a h r.1
  stay (any_at at xs p s) visible writable a h r =
      let q = r.0 in
      let bound = h.0 in
      let zs = numbers xs in
      let sees : ℕ → Bool = λ n. among zs n || visible n in
      let writes : ℕ → Bool = λ n. among zs n || writable n in
      (bound.new, bound.distinct, (formula-names table types settled sees p q.terms.0 h.1, stay s sees writes (inside zs visible writable a) h.2 r.1))
  stay (var_at at xs s) visible writable a h r =
      let bound = h.0 in
      let zs = numbers xs in
      let sees : ℕ → Bool = λ n. among zs n || visible n in
      let writes : ℕ → Bool = λ n. among zs n || writable n in
      (bound.new, bound.distinct, stay s sees writes (inside zs visible writable a) h.1 r.1)
  stay (loop_at at p s i v) visible writable a h r =
      let q = r.0 in
      let joined : ℕ → Bool = λ n. above n || visible n in (
        formula-names table types settled visible p q.terms.0 h.0,
        stay s visible writable a h.1 r.1,
        formula-names table types settled joined i q.terms.1.0 h.2,
        formula-names table types settled joined v q.terms.1.1.0 h.3,
      )
  stay (par_at at s t) visible writable a h r =
      let q = r.0 in
      let one = first-right s t r.1 in
      let other = second-right s t r.1 in
      (stay s visible writable a h.0 one, stay t visible writable a h.1 other, apart s t one other q.writes)
  stay (seq_at at s t) visible writable a h r = (stay s visible writable a h.0 (first-right s t r.1), stay t visible writable a h.1 (second-right s t r.1))

pub statements-stay : (types : Types) (table : Table) → IsSettled table types.of → (visible above writable may : ℕ → Bool) → ((n : ℕ) → visible n ≡ true → may n ≡ true → writable n ≡ true) → (s : Statement) → IsScoped visible above s → Each (IsRightHere table may) (within s) → StaysIn visible above writable (elaborated types s)
statements-stay types table settled visible above writable may a s h r = stay types table settled above may s visible writable a h r
