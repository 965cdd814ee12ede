-- A substitution without faults stays in what it may name, write and bind.
use Rattle.std.proofs.Common.{◌≡◌, inl, inr, ℕ, ◌+◌, List, [], ◌∷◌, ◌++◌, length, refl, sym, subst, Bool, true, false, cond, ◌||◌, arith, nat_eq}
use Rattle.std.specs.Prelude.{Option, None, Some, ℤ}
use Rattle.std.specs.Str.{bytes_eq}
use Rattle.bk_val.specs.ValueType.{ValueType, int_type, bool_type, enum_type, pair_type, set_type}
use Rattle.bk_form.specs.Table.{Table, variable_type, lists_type}
use Rattle.bk_form.specs.Formula.{Formula, variable, unary, binary}
use Rattle.bk_form.specs.Replacement.{occurs}
use Rattle.bk_form.specs.Role.{role, gives, bind}
use Rattle.bk_form.specs.declared.operator.UnOp.TheVariants.{Single, Not as Negation}
use Rattle.bk_form.specs.declared.operator.BinOp.TheVariants.{In, Over, Maps, And as Conjunction}
use Rattle.bk_gsl.specs.State.{among, firsts}
use Rattle.bk_gsl.specs.Substitution.{Substitution, guard, choice}
use Rattle.bk_gsl.specs.Writes.{written}
use Rattle.bk_gsl.specs.Typed.{Types}
use Rattle.bk_dev.specs.Facts.{AreDistinct, AreNew, StaysIn, Names as NamesOnly}
use Rattle.bk_raw.specs.declared.term.RawName.{RawName}
use Rattle.bk_raw.specs.Trees.RawTree.{RawTree}
use Rattle.bk_raw.specs.Meaning.Names.{Names, Meaning, local, global, set_name, element_name, nothing}
use Rattle.bk_raw.specs.Meaning.Outcome.{ask_domain}
use Rattle.bk_raw.specs.Meaning.Binders.{twice}
use Rattle.bk_raw.specs.Meaning.TermReading.{place_of, reading}
use Rattle.bk_raw.specs.Meaning.RightReading.{Whenever}
use Rattle.bk_raw.specs.Meaning.Speaking.{AreTyped}
use Rattle.bk_raw.specs.Meaning.Built.{IsVisible}
use Rattle.bk_raw.specs.Trees.SubTree.{SubTree, sub, SubNode, sub_skip, sub_call, sub_assign, sub_assign_at, sub_member, sub_such, sub_begin, sub_pre, sub_assert, sub_if, sub_choice, sub_select, sub_any, sub_let, sub_var, sub_while, sub_parallel, sub_sequence, Branches, no_branches, else_branch, branch_and, Choices, no_choices, choice_and}
use Rattle.bk_statics.specs.Typings.{Typing, interval, numbered, numbered_old, typed, Target, unknown, no_variable, variable_target, target_in, target, number_of, type_at, predicate_read, outcome_of, term_read}
use Rattle.bk_statics.specs.Binders.{binder_count}
use Rattle.bk_statics.specs.Elaborated.{overridden, put_read, all_one_type, chosen_where, chosen_in, elaborated, elaborated_node, else_part, choices, selected}
use Rattle.bk_statics.specs.SubFaults.{predicate_faults, term_faults, domain_faults, left_faults, assign_faults, put_faults, over_faults, first_place, declared_faults, old_faults, written_in, shared_faults, writable_within, sub_faults, node_faults, branches_faults, choices_faults}
use Rattle.bk_statics.specs.Settled.{IsSettled, AreOf, IsSeen, AreSeen, IsBelow}
use Rattle.bk_statics.proofs.LeftFaults.{first-free}
use Rattle.bk_statics.proofs.Intervals.{interval-distinct, old-binds}
use Rattle.bk_statics.proofs.SubTypes.{term-typed, of-join, inner-of, old-of, inner-typed, outcome-right, chosen-typed}
use Rattle.bk_statics.proofs.SubStays.{or-cases, or-left, or-right, interval-has, interval-new, below-inside, below-more, seen-names, seen-more, seen-join, old-seen, inside-seen, seen-has, predicate-names, term-visible, variant-names, assigned-stays, old-written, sub-written, apart}
use Rattle.bk_form.proofs.Closed.{term-closed, predicate-closed}
use Rattle.bk_raw.proofs.Filled.{Gives, and-both, same_type-self}
use Rattle.bk_raw.proofs.Asks.{ask_domain-right}
use Rattle.bk_raw.proofs.RulesBuilt.{ask_domain-has}
use Rattle.bk_raw.proofs.RulesFit.{none-left, none-right}
use Rattle.bk_raw.proofs.ReadingBuilt.{reading-has, part-has, visible-built}

-- ---- targets
module _ (int_max : ℤ) (table : Table) (typing : Typing) (settled : IsSettled table typing) where
  abbrev Seen : (ℕ → Bool) → Target → Type 0
  Seen visible (variable_target n) = visible n ≡ true
  Seen visible _ = Unit {0}

  meaning-seen : (visible : ℕ → Bool) (m : Meaning) → IsSeen visible m → Seen visible (target_in m)
  meaning-seen visible (local t) h = tt
  meaning-seen visible (global n t) h = h
  meaning-seen visible (set_name s) h = tt
  meaning-seen visible (element_name s e) h = tt
  meaning-seen visible nothing h = tt

  either-seen : (visible : ℕ → Bool) (c : Bool) (a b : Target) → Seen visible a → Seen visible b → Seen visible (cond c a b)
  either-seen visible true a b h k = h
  either-seen visible false a b h k = k

  target-seen : (visible : ℕ → Bool) (names : Names) (text : List ℕ) → AreSeen visible names → Seen visible (target names text)
  target-seen visible [] text h = tt
  target-seen visible (n ∷ ns) text h = either-seen visible (bytes_eq n.text text) (target_in n.meaning) (target ns text) (meaning-seen visible n.meaning h.0) (target-seen visible ns text h.1)

  number-seen : (visible : ℕ → Bool) (x : Target) (t : ValueType) → Seen visible x → type_at typing x ≡ Some t → (visible (number_of x) ≡ true) × (variable_type table (number_of x) ≡ Some t) × (lists_type table t ≡ true)
  number-seen visible (variable_target n) t h e = (h, settled.types n t e, settled.listed n t e)
  number-seen visible unknown t h e = absurd (cc)
  number-seen visible no_variable t h e = absurd (cc)

  -- ---- f(e) := E
  over-visible : (visible : ℕ → Bool) (f : ℕ) (e v : Formula) → visible f ≡ true → IsVisible visible e → IsVisible visible v → IsVisible visible (binary Over (variable f) (unary Single (binary Maps e v)))
  over-visible visible f e v h k l n o = elim (or-cases (nat_eq f n) (occurs n e || occurs n v) o) [ inl a ↦ seen-has visible f h n a | inr a ↦ elim (or-cases (occurs n e) (occurs n v) a) [ inl c ↦ k n c | inr c ↦ l n c ] ]

  over-stays : (visible above writable : ℕ → Bool) (f : ℕ) (t u : ValueType) (e v : Option Formula) → visible f ≡ true → writable f ≡ true → variable_type table f ≡ Some (set_type (pair_type t u)) → Whenever (Gives table [] t) e → Whenever (Gives table [] u) v → Whenever (IsVisible visible) e → Whenever (IsVisible visible) v → StaysIn visible above writable (overridden f e v)
  over-stays visible above writable f t u None v s w h k l m n = tt
  over-stays visible above writable f t u (Some e) None s w h k l m n = tt
  over-stays visible above writable f t u (Some e) (Some v) s w h k l m n =
      let made = binary Over (variable f) (unary Single (binary Maps e v)) in
      let types : role table [] made ≡ gives (set_type (pair_type t u)) = rw (h, k, l, same_type-self t, same_type-self u) refl in
      (w, record { closed = term-closed table (set_type (pair_type t u)) made types; visible_only = over-visible visible f e v s m n }, refl, tt)

  put-stays : (visible above writable : ℕ → Bool) (names : Names) (x : Target) (o : Option ValueType) (e v : RawTree) → AreOf table names → AreSeen visible names → Seen visible x → writable (number_of x) ≡ true → type_at typing x ≡ o → StaysIn visible above writable (put_read int_max typing names (number_of x) o e v)
  put-stays visible above writable names x None e v h s k w m = tt
  put-stays visible above writable names x (Some int_type) e v h s k w m = tt
  put-stays visible above writable names x (Some bool_type) e v h s k w m = tt
  put-stays visible above writable names x (Some (enum_type n)) e v h s k w m = tt
  put-stays visible above writable names x (Some (pair_type t u)) e v h s k w m = tt
  put-stays visible above writable names x (Some (set_type int_type)) e v h s k w m = tt
  put-stays visible above writable names x (Some (set_type bool_type)) e v h s k w m = tt
  put-stays visible above writable names x (Some (set_type (enum_type n))) e v h s k w m = tt
  put-stays visible above writable names x (Some (set_type (set_type t))) e v h s k w m = tt
  put-stays visible above writable names x (Some (set_type (pair_type t u))) e v h s k w m =
      let at = number-seen visible x (set_type (pair_type t u)) k m in
      let l = and-both (lists_type table t) (lists_type table u) at.2 in
      over-stays visible above writable (number_of x) t u (term_read int_max typing names t e) (term_read int_max typing names u v) at.0 w at.1 (term-typed int_max table typing settled names t e h l.0) (term-typed int_max table typing settled names u v h l.1) (term-visible int_max table typing settled visible names t e s) (term-visible int_max table typing settled visible names u v s)

  -- ---- x :: E
  where-stays : (visible above writable : ℕ → Bool) (c : Bool) (x z : ℕ) (d : Formula) → Types table (chosen_where c x z d) → writable x ≡ true → visible z ≡ true → IsVisible visible d → StaysIn visible above writable (chosen_where c x z d)
  where-stays visible above writable false x z d t w h k = (record { closed = tt; visible_only = λ n o. absurd (cc) }, tt)
  where-stays visible above writable true x z d t w h k = (
    record { closed = predicate-closed table (binary In (variable z) d) t.0; visible_only = λ n o. elim (or-cases (nat_eq z n) (occurs n d) o) [ inl a ↦ seen-has visible z h n a | inr a ↦ k n a ] },
    (w, record { closed = tt; visible_only = seen-has visible z h }, refl, tt),
  )

  chosen-stays : (visible above writable : ℕ → Bool) (x z : ℕ) (t : Option ValueType) (d : Option (Formula × ValueType)) → Types table (chosen_in typing x t z d) → writable x ≡ true → visible z ≡ true → Whenever (λ p. IsVisible visible p.0) d → StaysIn visible above writable (chosen_in typing x t z d)
  chosen-stays visible above writable x z t None h w s k = (record { closed = tt; visible_only = λ n o. absurd (cc) }, tt)
  chosen-stays visible above writable x z t (Some d) h w s k = where-stays visible above writable (all_one_type t (typing z) d.1) x z d.0 h w s k

  domain-visible : (visible : ℕ → Bool) (names : Names) (e : RawTree) → AreSeen visible names → Whenever (λ p. IsVisible visible p.0) (ask_domain 0 (outcome_of int_max typing names e)).answer
  domain-visible visible names e s = ask_domain-has (IsVisible visible) (visible-built visible) 0 (outcome_of int_max typing names e) (part-has int_max (IsVisible visible) (visible-built visible) false e (reading int_max (typed typing names) e) (reading-has int_max (IsVisible visible) (visible-built visible) e (typed typing names) (seen-names visible typing names s)))

  one-free : (names : Names) (writable : ℕ → Bool) (x : RawName) → left_faults names writable [] (x ∷ []) ≡ [] → writable (number_of (target names x.text)) ≡ true
  one-free names writable x e = let k = first-free names writable [] x [] e in k.free

  negation-names : (visible : ℕ → Bool) (p : Formula) → NamesOnly visible p → NamesOnly visible (unary Negation p)
  negation-names visible p h = record { closed = h.closed; visible_only = λ n o. h.visible_only n o }

  conjunction-names : (visible : ℕ → Bool) (p q : Formula) → NamesOnly visible p → NamesOnly visible q → NamesOnly visible (binary Conjunction p q)
  conjunction-names visible p q h k = record { closed = (h.closed, k.closed); visible_only = λ n o. elim (or-cases (occurs n p) (occurs n q) o) [ inl a ↦ h.visible_only n a | inr a ↦ k.visible_only n a ] }

  module _ (higher : Names) (higher-of : AreOf table higher) (above : ℕ → Bool) (higher-seen : AreSeen above higher) where
    -- what is seen in a loop besides
    loop-seen : (visible : ℕ → Bool) (names : Names) → AreSeen visible names → AreSeen (λ n. above n || visible n) (names ++ higher)
    loop-seen visible names s = seen-join (λ n. above n || visible n) names higher (seen-more visible (λ n. above n || visible n) names (λ n e. or-right (above n) (visible n) e) s) (seen-more above (λ n. above n || visible n) higher (λ n e. or-left (above n) (visible n) e) higher-seen)

    mutual
      pub elaborated-stays : (s : SubTree) (names : Names) (visible writable : ℕ → Bool) (n : ℕ) → AreOf table names → AreTyped (typed typing names) → AreSeen visible names → IsBelow n visible → sub_faults int_max typing higher names writable n s ≡ [] → StaysIn visible above writable (elaborated int_max typing higher names n s)
      elaborated-stays (sub at node) names visible writable n h t s b e = node-stays node names visible writable n h t s b e

      node-stays : (node : SubNode) (names : Names) (visible writable : ℕ → Bool) (n : ℕ) → AreOf table names → AreTyped (typed typing names) → AreSeen visible names → IsBelow n visible → node_faults int_max typing higher names writable n node ≡ [] → StaysIn visible above writable (elaborated_node int_max typing higher names n node)
      node-stays sub_skip names visible writable n h t s b e = tt
      node-stays (sub_call ys o ts) names visible writable n h t s b e = tt
      node-stays (sub_assign xs es) names visible writable n h t s b e = assigned-stays int_max table typing settled visible writable names [] xs es h s (none-left (left_faults names writable [] xs) (assign_faults int_max typing names (first_place xs) xs es) e)
      node-stays (sub_assign_at x a v) names visible writable n h t s b e = put-stays visible above writable names (target names x.text) (type_at typing (target names x.text)) a v h s (target-seen visible names x.text s) (one-free names writable x (none-left (left_faults names writable [] (x ∷ [])) (put_faults int_max typing names x.at (type_at typing (target names x.text)) a v) e)) refl
      node-stays (sub_member x a) names visible writable n h t s b e =
          let left = left_faults names writable [] (x ∷ []) in
          let rest = old_faults typing names n (x ∷ []) ++ (domain_faults int_max typing names a ++ over_faults x.at (type_at typing (target names x.text)) (ask_domain (place_of a) (outcome_of int_max typing names a)).answer) in
          let sees : ℕ → Bool = λ m. among (n ∷ []) m || visible m in
          let free : ℕ → Bool = λ m. among (n ∷ []) m || writable m in
          let number = number_of (target names x.text) in
          let type = type_at typing (target names x.text) in
          let answer = (ask_domain 0 (outcome_of int_max typing names a)).answer in (
            interval-new visible n 1 b,
            (refl, tt),
            chosen-stays sees above free number n type answer (chosen-typed int_max table typing settled (target names x.text) n answer (ask_domain-right table [] 0 (outcome_of int_max typing names a) (outcome-right int_max table typing settled names false a h)))
                (or-right (among (n ∷ []) number) (writable number) (one-free names writable x (none-left left rest e)))
                (or-left (among (n ∷ []) n) (visible n) (interval-has n 1 n (omega arith) (omega arith)))
                (domain-visible sees names a (seen-more visible sees names (λ m k. or-right (among (n ∷ []) m) (visible m) k) s)),
          )
      node-stays (sub_such xs p) names visible writable n h t s b e =
          let left = left_faults names writable [] xs in
          let rest = old_faults typing names n xs ++ predicate_faults int_max typing (bind (numbered_old n xs) names) p in
          let writes = old-written int_max table typing settled names writable [] n xs (none-left left rest e) in
          let same = sym (old-binds names n xs) in
          let sees : ℕ → Bool = λ m. among (interval n (length xs)) m || visible m in (
            writes.0,
            writes.1,
            subst (AreNew visible) same (interval-new visible n (length xs) b),
            subst AreDistinct same (interval-distinct n (length xs)),
            subst (λ l. NamesOnly (λ m. among l m || visible m) (predicate_read int_max typing (bind (numbered_old n xs) names) p)) same
                (predicate-names int_max table typing settled sees (bind (numbered_old n xs) names) p (old-of int_max table typing settled n xs names h)
                (old-seen sees n xs names (λ m c d. or-left (among (interval n (length xs)) m) (visible m) (interval-has n (length xs) m c d)) (seen-more visible sees names (λ m k. or-right (among (interval n (length xs)) m) (visible m) k) s))),
          )
      node-stays (sub_begin u) names visible writable n h t s b e = elaborated-stays u names visible writable n h t s b e
      node-stays (sub_pre p u) names visible writable n h t s b e = (predicate-names int_max table typing settled visible names p h s, elaborated-stays u names visible writable n h t s b (none-right (predicate_faults int_max typing names p) (sub_faults int_max typing higher names writable n u) e))
      node-stays (sub_assert p u) names visible writable n h t s b e = (predicate-names int_max table typing settled visible names p h s, elaborated-stays u names visible writable n h t s b (none-right (predicate_faults int_max typing names p) (sub_faults int_max typing higher names writable n u) e))
      node-stays (sub_if p u bs) names visible writable n h t s b e =
          let first = sub_faults int_max typing higher names writable n u in
          let second = branches_faults int_max typing higher names writable (n + binder_count u) bs in
          let both = none-right (predicate_faults int_max typing names p) (first ++ second) e in
          (predicate-names int_max table typing settled visible names p h s, elaborated-stays u names visible writable n h t s b (none-left first second both), else-stays bs names visible writable (n + binder_count u) h t s (below-more visible n (binder_count u) b) (none-right first second both))
      node-stays (sub_choice u cs) names visible writable n h t s b e =
          let first = sub_faults int_max typing higher names writable n u in
          let second = choices_faults int_max typing higher names writable (n + binder_count u) cs in
          choices-stay cs names visible writable (n + binder_count u) (elaborated int_max typing higher names n u) h t s (below-more visible n (binder_count u) b) (elaborated-stays u names visible writable n h t s b (none-left first second e)) (none-right first second e)
      node-stays (sub_select p u bs) names visible writable n h t s b e =
          let first = sub_faults int_max typing higher names writable n u in
          let second = branches_faults int_max typing higher names writable (n + binder_count u) bs in
          let both = none-right (predicate_faults int_max typing names p) (first ++ second) e in
          let read = predicate_read int_max typing names p in
          let said = predicate-names int_max table typing settled visible names p h s in
          selected-stay bs names visible writable (n + binder_count u) (unary Negation read) (guard read (elaborated int_max typing higher names n u)) h t s (below-more visible n (binder_count u) b) (negation-names visible read said) (said, elaborated-stays u names visible writable n h t s b (none-left first second both)) (none-right first second both)
      node-stays (sub_any xs p u) names visible writable n h t s b e =
          let k = length xs in
          let inner = bind (numbered n xs) names in
          let more : ℕ → Bool = writable_within n (length xs) writable in
          let declared = declared_faults typing n xs in
          let said = predicate_faults int_max typing inner p in
          let body = sub_faults int_max typing higher inner more (n + length xs) u in
          let later = none-right (twice [] xs) (declared ++ (said ++ body)) e in
          let types = none-left declared (said ++ body) later in
          let of = inner-of int_max table typing settled n xs names h in
          let sees = inside-seen visible n xs names s in
          (interval-new visible n k b, interval-distinct n k, (predicate-names int_max table typing settled (λ m. among (interval n (length xs)) m || visible m) inner p of sees, elaborated-stays u inner (λ m. among (interval n (length xs)) m || visible m) more (n + length xs) of (inner-typed int_max table typing settled n xs names types t) sees (below-inside visible n (length xs) b) (none-right said body (none-right declared (said ++ body) later))))
      node-stays (sub_let xs p u) names visible writable n h t s b e =
          let k = length xs in
          let inner = bind (numbered n xs) names in
          let more : ℕ → Bool = writable_within n (length xs) writable in
          let declared = declared_faults typing n xs in
          let said = predicate_faults int_max typing inner p in
          let body = sub_faults int_max typing higher inner more (n + length xs) u in
          let later = none-right (twice [] xs) (declared ++ (said ++ body)) e in
          let types = none-left declared (said ++ body) later in
          let of = inner-of int_max table typing settled n xs names h in
          let sees = inside-seen visible n xs names s in
          (interval-new visible n k b, interval-distinct n k, (predicate-names int_max table typing settled (λ m. among (interval n (length xs)) m || visible m) inner p of sees, elaborated-stays u inner (λ m. among (interval n (length xs)) m || visible m) more (n + length xs) of (inner-typed int_max table typing settled n xs names types t) sees (below-inside visible n (length xs) b) (none-right said body (none-right declared (said ++ body) later))))
      node-stays (sub_var xs u) names visible writable n h t s b e =
          let k = length xs in
          let inner = bind (numbered n xs) names in
          let more : ℕ → Bool = writable_within n (length xs) writable in
          let declared = declared_faults typing n xs in
          let body = sub_faults int_max typing higher inner more (n + length xs) u in
          let later = none-right (twice [] xs) (declared ++ body) e in
          let types = none-left declared body later in
          (interval-new visible n k b, interval-distinct n k, elaborated-stays u inner (λ m. among (interval n (length xs)) m || visible m) more (n + length xs) (inner-of int_max table typing settled n xs names h) (inner-typed int_max table typing settled n xs names types t) (inside-seen visible n xs names s) (below-inside visible n (length xs) b) (none-right declared body later))
      node-stays (sub_while p u i v) names visible writable n h t s b e =
          let body = sub_faults int_max typing higher names writable n u in
          let rest = predicate_faults int_max typing (names ++ higher) i ++ term_faults int_max typing (names ++ higher) (Some int_type) v in
          let both = of-join int_max table typing settled names higher h higher-of in
          (predicate-names int_max table typing settled visible names p h s, elaborated-stays u names visible writable n h t s b (none-left body rest (none-right (predicate_faults int_max typing names p) (body ++ rest) e)), predicate-names int_max table typing settled (λ m. above m || visible m) (names ++ higher) i both (loop-seen visible names s), variant-names int_max table typing settled (λ m. above m || visible m) (names ++ higher) v both (loop-seen visible names s))
      node-stays (sub_sequence u v) names visible writable n h t s b e =
          let first = sub_faults int_max typing higher names writable n u in
          let second = sub_faults int_max typing higher names writable (n + binder_count u) v in
          (elaborated-stays u names visible writable n h t s b (none-left first second e), elaborated-stays v names visible writable (n + binder_count u) h t s (below-more visible n (binder_count u) b) (none-right first second e))
      node-stays (sub_parallel u v) names visible writable n h t s b e =
          let first = sub_faults int_max typing higher names writable n u in
          let second = sub_faults int_max typing higher names writable (n + binder_count u) v in
          let shared = shared_faults (firsts (written_in names n u)) (written_in names (n + binder_count u) v) in (
            elaborated-stays u names visible writable n h t s b (none-left first (second ++ shared) e),
            elaborated-stays v names visible writable (n + binder_count u) h t s (below-more visible n (binder_count u) b) (none-left second shared (none-right first (second ++ shared) e)),
            apart (written (elaborated int_max typing higher names n u)) (written (elaborated int_max typing higher names (n + binder_count u) v)) (written_in names n u) (written_in names (n + binder_count u) v) (sub-written int_max typing u higher names n) (sub-written int_max typing v higher names (n + binder_count u)) (none-right second shared (none-right first (second ++ shared) e)),
          )

      else-stays : (bs : Branches) (names : Names) (visible writable : ℕ → Bool) (n : ℕ) → AreOf table names → AreTyped (typed typing names) → AreSeen visible names → IsBelow n visible → branches_faults int_max typing higher names writable n bs ≡ [] → StaysIn visible above writable (else_part int_max typing higher names n bs)
      else-stays no_branches names visible writable n h t s b e = tt
      else-stays (else_branch u) names visible writable n h t s b e = elaborated-stays u names visible writable n h t s b e
      else-stays (branch_and p u bs) names visible writable n h t s b e =
          let first = sub_faults int_max typing higher names writable n u in
          let second = branches_faults int_max typing higher names writable (n + binder_count u) bs in
          let both = none-right (predicate_faults int_max typing names p) (first ++ second) e in
          (predicate-names int_max table typing settled visible names p h s, elaborated-stays u names visible writable n h t s b (none-left first second both), else-stays bs names visible writable (n + binder_count u) h t s (below-more visible n (binder_count u) b) (none-right first second both))

      choices-stay : (cs : Choices) (names : Names) (visible writable : ℕ → Bool) (n : ℕ) (before : Substitution) → AreOf table names → AreTyped (typed typing names) → AreSeen visible names → IsBelow n visible → StaysIn visible above writable before → choices_faults int_max typing higher names writable n cs ≡ [] → StaysIn visible above writable (choices int_max typing higher names n before cs)
      choices-stay no_choices names visible writable n before h t s b k e = k
      choices-stay (choice_and u cs) names visible writable n before h t s b k e =
          let first = sub_faults int_max typing higher names writable n u in
          let second = choices_faults int_max typing higher names writable (n + binder_count u) cs in
          choices-stay cs names visible writable (n + binder_count u) (choice before (elaborated int_max typing higher names n u)) h t s (below-more visible n (binder_count u) b) (k, elaborated-stays u names visible writable n h t s b (none-left first second e)) (none-right first second e)

      selected-stay : (bs : Branches) (names : Names) (visible writable : ℕ → Bool) (n : ℕ) (nots : Formula) (before : Substitution) → AreOf table names → AreTyped (typed typing names) → AreSeen visible names → IsBelow n visible → NamesOnly visible nots → StaysIn visible above writable before → branches_faults int_max typing higher names writable n bs ≡ [] → StaysIn visible above writable (selected int_max typing higher names n nots before bs)
      selected-stay no_branches names visible writable n nots before h t s b q k e = k
      selected-stay (else_branch u) names visible writable n nots before h t s b q k e = (k, (q, elaborated-stays u names visible writable n h t s b e))
      selected-stay (branch_and p u bs) names visible writable n nots before h t s b q k e =
          let first = sub_faults int_max typing higher names writable n u in
          let second = branches_faults int_max typing higher names writable (n + binder_count u) bs in
          let both = none-right (predicate_faults int_max typing names p) (first ++ second) e in
          let read = predicate_read int_max typing names p in
          let said = predicate-names int_max table typing settled visible names p h s in
          selected-stay bs names visible writable (n + binder_count u) (binary Conjunction nots (unary Negation read)) (choice before (guard read (elaborated int_max typing higher names n u))) h t s (below-more visible n (binder_count u) b) (conjunction-names visible nots (unary Negation read) q (negation-names visible read said)) (k, (said, elaborated-stays u names visible writable n h t s b (none-left first second both))) (none-right first second both)
