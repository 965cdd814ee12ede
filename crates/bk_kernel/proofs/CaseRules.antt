-- Pairs, the elements of a finite type, intervals, and induction.
use Rattle.std.proofs.Common.{◌≡◌, ◌⊎◌, inl, inr, ℕ, zero, suc, ◌<◌, ℤ, pos, negsuc, ◌+ℤ◌, List, [], ◌∷◌, refl, sym, ◌∙◌, ap, subst, Bool, true, false, ◌&&◌, nat_eq, nat_lt, arith}
use Rattle.std.proofs.lemmas.Bool.Decides.{nat_tests}
use Rattle.std.proofs.lemmas.Int.{ints}
use Rattle.std.specs.Prelude.{Option, Some, None, int_le, length, slice_get, All}
use Rattle.std.specs.Option.{option_map, option_map_or}
use Rattle.std.proofs.lemmas.List.Elements.{All-head, All-tail}
use Rattle.bk_val.specs.Value.{MathValue, int, bool, elem, pair}
use Rattle.bk_val.specs.ValueType.{ValueType, int_type, bool_type, enum_type, pair_type, is_value_of, are_of_types}
use Rattle.bk_val.specs.CmpLaws.{value_eq-self}
use Rattle.bk_form.specs.Table.{Table, SetEntry, at_least_one, set_elements, set_size, IsCounted, IsWellFormed}
use Rattle.bk_form.specs.Formula.{Formula, bound, literal, truth_value, named, binary, for_all, for_some}
use Rattle.bk_form.specs.Search.{Finder, IsSearch}
use Rattle.bk_form.specs.Environment.{State, IsTyped, under, at_state}
use Rattle.bk_form.specs.Role.{Role, gives, role}
use Rattle.bk_form.specs.Operators.{implies, is_equal, elements_from}
use Rattle.bk_form.specs.Meaning.{value, truth}
use Rattle.bk_form.specs.declared.operator.BinOp.TheVariants.{And, Imp, Eq, In, Maps}
use Rattle.bk_form.specs.declared.operator.Domain.TheVariants.{Natural}
use Rattle.bk_form.proofs.Members.{Has, and-true, and-both, elements-if}
use Rattle.bk_form.proofs.Agreement.{meaning-closed}
use Rattle.bk_form.proofs.Truth.{for_all-true, for_some-true}
use Rattle.bk_form.proofs.Valued.{typed-value}
use Rattle.bk_form.specs.Predicates.{AllHold}
use Rattle.bk_seq.specs.Paths.{numbered_item}
use Rattle.bk_form.proofs.Forms.{pair-of}
use Rattle.bk_bind.specs.Opening.{opened}
use Rattle.bk_kernel.specs.Next.{at_next}
use Rattle.bk_seq.specs.Sequents.{Sequent}
use Rattle.bk_kernel.specs.declared.rule.Rule.{Rule}
use Rattle.bk_kernel.specs.declared.rule.Rule.TheVariants.{Pair, Elems, Interval, Induct}
use Rattle.bk_kernel.specs.Branches.{Branch, goal, more}
use Rattle.bk_kernel.specs.Listing.{one_for_each, elements_of, named_elements, elements_of_type, listed_types, over_naturals, next_case}
use Rattle.bk_kernel.specs.Rules.{branches}
use Rattle.bk_form.specs.Each.{Each}
use Rattle.bk_arith.specs.Cases.{equations, interval_cases}
use Rattle.bk_arith.specs.Laws.{OneHolds}
use Rattle.bk_arith.proofs.CasesHold.{cases_are_all}
use Rattle.bk_kernel.proofs.NextMeaning.{next_means}
use Rattle.bk_form.proofs.Closed.{term-closed}
use Rattle.bk_kernel.proofs.PlainRules.{Holds, Leads, opened-truth}
use Rattle.bk_arith.proofs.Options.{chained, mapped, some-same}
use Rattle.bk_kernel.proofs.EachItem.{hold-item}

listed_types-then : (r : Role) (w : ValueType × ValueType) → listed_types r ≡ Some w → r ≡ gives (pair_type w.0 w.1)
listed_types-then (gives (pair_type t u)) w h = let k = some-same (t, u) w h in λ i. gives (pair_type ((k i).0) ((k i).1))
listed_types-then _ w h = absurd (cc)

-- a set whose elements have names has as many as names
as-many-names : (sets : List SetEntry) → All IsCounted sets → (s : ℕ) (n : List ℕ) (ns : List (List ℕ)) → option_map (λ x. x.elements) (slice_get sets s) ≡ Some (n ∷ ns) → option_map_or (λ x. at_least_one x.size) (slice_get sets s) 0 ≡ length (n ∷ ns)
as-many-names [] all s n ns h = absurd (cc)
as-many-names (x ∷ sets) all zero n ns h = by_names x.elements (some-same x.elements (n ∷ ns) h) (All-head IsCounted x sets all)
  where
    by_names : (es : List (List ℕ)) → es ≡ n ∷ ns → (es ≡ []) ⊎ (x.size ≡ length es) → at_least_one x.size ≡ length (n ∷ ns)
    by_names es q (inl k) = absurd (cc)
    by_names es q (inr k) = ap at_least_one (k ∙ ap length q)
as-many-names (x ∷ sets) all (suc s) n ns h = as-many-names sets (All-tail IsCounted x sets all) s n ns h

module _ (table : Table) (well : IsWellFormed table) (find : Finder) (law : IsSearch find) (st : State) (typed : IsTyped (at_state table st)) where
  abbrev H : Formula → Type 0
  H p = Holds table well find law st typed p

  abbrev L : Branch → Type 0
  L b = Leads table well find law st typed b

  abbrev val : Formula → MathValue
  val f = value find (at_state table st) f

  -- where one of them is true, and each leads to the goal, the goal is true
  one-leads : (g : Formula) (ps : List Formula) → OneHolds find (at_state table st) ps → Each L (one_for_each g ps) → H g
  one-leads g [] h l = absurd h
  one-leads g (p ∷ ps) (inl h) l = l.0 (h, tt)
  one-leads g (p ∷ ps) (inr h) l = one-leads g ps h l.1

  -- the term has the value of one of them
  abbrev Among : Formula → List Formula → Type 0
  Among e [] = ⊥
  Among e (f ∷ fs) = (val e ≡ val f) ⊎ Among e fs

  one-equal : (e : Formula) (fs : List Formula) → Among e fs → OneHolds find (at_state table st) (equations e fs)
  one-equal e [] h = absurd h
  one-equal e (f ∷ fs) (inl h) = inl (subst (λ x. is_equal (val e) x ≡ true) h (value_eq-self (val e)))
  one-equal e (f ∷ fs) (inr h) = inr (one-equal e fs h)

  among-elements : (e : Formula) (v : MathValue) → val e ≡ v → (s n i : ℕ) → Has v (elements_from s i n) → Among e (elements_of s i n)
  among-elements e v q s zero i h = absurd h
  among-elements e v q s (suc n) i (inl h) = inl (q ∙ h)
  among-elements e v q s (suc n) i (inr h) = inr (among-elements e v q s n (suc i) h)

  -- ---- elements
  lt-then : (m n : ℕ) → nat_lt m n ≡ true → m < n
  lt-then m n h = grind (arith, nat_tests)

  eq-then : (m n : ℕ) → nat_eq m n ≡ true → m ≡ n
  eq-then m n h = grind (arith, nat_tests)

  among-booleans : (e : Formula) (v : MathValue) → val e ≡ v → is_value_of (set_size table) bool_type v ≡ true → Among e (truth_value false ∷ truth_value true ∷ [])
  among-booleans e (bool false) q h = inl q
  among-booleans e (bool true) q h = inr (inl q)
  among-booleans e _ q h = absurd (cc)

  among-enum : (e : Formula) (v : MathValue) → val e ≡ v → (s : ℕ) → is_value_of (set_size table) (enum_type s) v ≡ true → Among e (elements_of s 0 (set_size table s))
  among-enum e (elem r i) q s h =
      let k = and-both (nat_eq r s) (nat_lt i (set_size table s)) h in
      let less = lt-then i (set_size table s) k.1 in
      among-elements e (elem s i) (q ∙ ap (λ x. elem x i) (eq-then r s k.0)) s (set_size table s) 0 (elements-if s (set_size table s) 0 i (omega arith) (omega arith))
  among-enum e _ q s h = absurd (cc)

  among-all : (e : Formula) (r : Role) (fs : List Formula) → role table [] e ≡ r → elements_of_type table r ≡ Some fs → Among e fs
  among-all e (gives bool_type) fs h k = subst (Among e) (some-same (truth_value false ∷ truth_value true ∷ []) fs k) (among-booleans e (val e) refl (typed-value find (at_state table st) well typed e bool_type h))
  among-all e (gives (enum_type s)) fs h k = by_names (set_elements table s) refl k
    where
      by_names : (o : Option (List (List ℕ))) → set_elements table s ≡ o → named_elements s o ≡ Some fs → Among e fs
      by_names (Some (n ∷ ns)) q d =
          let many : set_size table s ≡ length (n ∷ ns) = as-many-names table.sets well.counted s n ns q in
          subst (Among e) (ap (elements_of s 0) many ∙ some-same (elements_of s 0 (length (n ∷ ns))) fs d) (among-enum e (val e) refl s (typed-value find (at_state table st) well typed e (enum_type s) h))
      by_names _ q d = absurd (cc)
  among-all e _ fs h k = absurd (cc)

  -- ---- pairs
  pair-exists : (e : Formula) (t u : ValueType) → role table [] e ≡ gives (pair_type t u) → H (for_some (t ∷ u ∷ []) (binary Eq e (binary Maps (bound 1) (bound 0))))
  pair-exists e t u h =
      let here = at_state table st in
      let p = pair-of (set_size table) t u (val e) (typed-value find here well typed e (pair_type t u) h) in
      let vs = p.left ∷ p.right ∷ [] in
      let alone = term-closed table (pair_type t u) e h in
      let same : value find (under here (t ∷ u ∷ []) vs) e ≡ pair p.left p.right = ap (λ m. m.value) (meaning-closed find here ((u, p.right) ∷ (t, p.left) ∷ []) [] e alone) ∙ p.is_pair in
      (for_some-true find law here (t ∷ u ∷ []) (binary Eq e (binary Maps (bound 1) (bound 0)))).1
      (vs, and-true (is_value_of (set_size table) t p.left) (are_of_types (set_size table) (u ∷ []) (p.right ∷ [])) p.left_of (and-true (is_value_of (set_size table) u p.right) true p.right_of refl), subst (λ v. is_equal v (pair p.left p.right) ≡ true) (sym same) (value_eq-self (pair p.left p.right)))

  -- ---- induction
  over_naturals-then : (f p : Formula) → over_naturals f ≡ Some p → f ≡ for_all (int_type ∷ []) (binary Imp (binary In (bound 0) (named Natural)) p)
  over_naturals-then (for_all (int_type ∷ []) (binary Imp (binary In (bound zero) (named Natural)) q)) p h = ap (λ x. for_all (int_type ∷ []) (binary Imp (binary In (bound 0) (named Natural)) x)) (some-same q p h)
  over_naturals-then _ p h = absurd (cc)

  -- the truth of the body at a number
  abbrev at_number : Formula → ℤ → Bool
  at_number p z = truth find (under (at_state table st) (int_type ∷ []) (int z ∷ [])) p

  from-zero : (p : Formula) → H (opened (literal (pos 0) ∷ []) p) → at_number p (pos 0) ≡ true
  from-zero p h = sym (opened-truth table well find law st typed (int_type ∷ []) (literal (pos 0) ∷ []) (refl, tt) p) ∙ h

  step-then : (a b c : Bool) → implies (a && b) c ≡ true → a ≡ true → b ≡ true → c ≡ true
  step-then true true c h k l = h
  step-then true false c h k l = absurd (cc)
  step-then false b c h k l = absurd (cc)

  go-on : (p : Formula) (n : ℕ) → H (next_case p) → at_number p (pos n) ≡ true → at_number p (pos (suc n)) ≡ true
  go-on p n h k =
      let all = (for_all-true find law (at_state table st) (int_type ∷ []) (binary Imp (binary And (binary In (bound 0) (named Natural)) p) (at_next p))).0 h (int (pos n) ∷ []) refl in
      let next = step-then (int_le (pos 0) (pos n)) (at_number p (pos n)) (at_number (at_next p) (pos n)) all (natural n) k in
      let sum : pos n +ℤ pos 1 ≡ pos (suc n) = omega (arith, ints) in
      ap (at_number p) (sym sum) ∙ sym (ap (λ m. m.truth) (next_means find table st (pos n) p)) ∙ next
    where
      natural : (n : ℕ) → int_le (pos 0) (pos n) ≡ true
      natural n = grind (arith, nat_tests, ints)

  all-naturals : (p : Formula) → H (opened (literal (pos 0) ∷ []) p) → H (next_case p) → (n : ℕ) → at_number p (pos n) ≡ true
  all-naturals p zero-case steps zero = from-zero p zero-case
  all-naturals p zero-case steps (suc n) = go-on p n steps (all-naturals p zero-case steps n)

  no-negative : (n : ℕ) → int_le (pos 0) (negsuc n) ≡ false
  no-negative n = grind (arith, nat_tests, ints)

  implied : (a b : Bool) → b ≡ true → implies a b ≡ true
  implied true b h = h
  implied false b h = refl

  denied : (a b : Bool) → a ≡ false → implies a b ≡ true
  denied true b h = absurd (cc)
  denied false b h = refl

  at-each : (p : Formula) → ((n : ℕ) → at_number p (pos n) ≡ true) → (vs : List MathValue) → are_of_types (set_size table) (int_type ∷ []) vs ≡ true → truth find (under (at_state table st) (int_type ∷ []) vs) (binary Imp (binary In (bound 0) (named Natural)) p) ≡ true
  at-each p h (int (pos n) ∷ []) o = implied (int_le (pos 0) (pos n)) (at_number p (pos n)) (h n)
  at-each p h (int (negsuc n) ∷ []) o = denied (int_le (pos 0) (negsuc n)) (at_number p (negsuc n)) (no-negative n)
  at-each p h _ o = absurd (cc)

  module _ (s : Sequent) (hold : AllHold find (at_state table st) s.0) (bs : List Branch) (leads : Each L bs) where
    led : (cs : List Branch) → cs ≡ bs → Each L cs
    led cs e = subst (λ x. Each L x) (sym e) leads

    abbrev Of : Rule → Type 0
    Of rule = branches table s rule ≡ Some bs → H s.1

    pub pairs-sound : (e : Formula) → Of (Pair e)
    pairs-sound e h =
        let made : ValueType × ValueType → Formula = λ w. for_some (w.0 ∷ w.1 ∷ []) (binary Eq e (binary Maps (bound 1) (bound 0))) in
        let k = mapped (λ w. more s (made w ∷ [])) (listed_types (role table [] e)) bs h in
        (led (more s (made k.0 ∷ [])) k.2).0 (pair-exists e k.0.0 k.0.1 (listed_types-then (role table [] e) k.0 k.1), tt)

    pub elems-sound : (e : Formula) → Of (Elems e)
    elems-sound e h =
        let k = mapped (λ fs. one_for_each s.1 (equations e fs)) (elements_of_type table (role table [] e)) bs h in
        one-leads s.1 (equations e k.0) (one-equal e k.0 (among-all e (role table [] e) k.0 refl k.1)) (led (one_for_each s.1 (equations e k.0)) k.2)

    pub interval-sound : (i : ℕ) → Of (Interval i)
    interval-sound i h =
        let k = chained (λ f. option_map (one_for_each s.1) (interval_cases f)) (numbered_item s.0 i) bs h in
        let m = mapped (one_for_each s.1) (interval_cases k.0) bs k.2 in
        let there : H k.0 = hold-item find (at_state table st) s.0 i k.0 hold k.1 in
        one-leads s.1 m.0 (cases_are_all find (at_state table st) k.0 m.0 m.1 there) (led (one_for_each s.1 m.0) m.2)

    pub induct-sound : Of Induct
    induct-sound h =
        let k = mapped (λ p. goal (opened (literal (pos 0) ∷ []) p) ∷ goal (next_case p) ∷ []) (over_naturals s.1) bs h in
        let p = k.0 in
        let l = led (goal (opened (literal (pos 0) ∷ []) p) ∷ goal (next_case p) ∷ []) k.2 in
        let body = binary Imp (binary In (bound 0) (named Natural)) p in
        subst H (sym (over_naturals-then s.1 p k.1)) ((for_all-true find law (at_state table st) (int_type ∷ []) body).1 (at-each p (all-naturals p (l.0 tt) (l.1.0 tt))))
