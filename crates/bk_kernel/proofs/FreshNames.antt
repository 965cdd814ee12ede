-- The rules that bring names: values for the names, in a state in which everything else is as it was.
use Rattle.std.proofs.Common.{◌≡◌, ℕ, List, [], ◌∷◌, map, refl, sym, ◌∙◌, ap, subst, Bool, true, false, not, ◌&&◌, ◌||◌, cond, nat_eq, arith}
use Rattle.std.proofs.lemmas.Bool.Decides.{nat_tests}
use Rattle.std.specs.Prelude.{Some}
use Rattle.std.specs.Option.{option_and_then}
use Rattle.std.specs.List.{list_any, list_all}
use Rattle.std.specs.Global.{Vec}
use Rattle.bk_val.specs.Value.{MathValue}
use Rattle.bk_val.specs.ValueType.{ValueType, is_value_of, are_of_types}
use Rattle.bk_form.specs.Table.{Table, set_size, variable_type, IsWellFormed}
use Rattle.bk_form.specs.Formula.{Formula, for_all}
use Rattle.bk_form.specs.Search.{Finder}
use Rattle.bk_form.specs.Environment.{State, IsTypedState, under, at_state}
use Rattle.bk_form.specs.Role.{gives, given_by}
use Rattle.bk_form.specs.Replacement.{occurs}
use Rattle.bk_form.specs.Meaning.{meaning, value, truth}
use Rattle.bk_form.proofs.Members.{and-both}
use Rattle.bk_form.proofs.Truth.{for_all-true, for_some-true}
use Rattle.bk_form.specs.Predicates.{AllHold}
use Rattle.bk_seq.specs.Paths.{numbered_item}
use Rattle.bk_bind.specs.Opening.{opened}
use Rattle.bk_bind.specs.Laws.{TermsGive}
use Rattle.bk_seq.specs.Sequents.{Sequent}
use Rattle.bk_kernel.specs.declared.rule.Rule.TheVariants.{Fix, OpenSome}
use Rattle.bk_kernel.specs.Branches.{Branch, extended, goal, more, universal, existential, when}
use Rattle.bk_kernel.specs.Naming.{names_of, give_each, is_new, are_distinct, are_fresh}
use Rattle.bk_kernel.specs.Rules.{branches}
use Rattle.bk_form.specs.Each.{Each}
use Rattle.bk_seq.specs.Sequents.{IsValidSequent}
use Rattle.bk_bind.proofs.UnderTerms.{opening_means}
use Rattle.bk_form.proofs.Agreement.{meaning-agrees}
use Rattle.bk_arith.proofs.Options.{chained}
use Rattle.bk_kernel.proofs.EachItem.{hold-append, hold-item, each-item}
use Rattle.bk_kernel.proofs.Viewed.{when-then, universal-then, existential-then, give_each-then}

-- the state with these values for the names
abbrev assigned : List ℕ → List MathValue → State → State
assigned (n ∷ ns) (v ∷ vs) st m = cond (nat_eq m n) v (assigned ns vs st m)
assigned _ _ st m = st m

-- none of the names stands in the formula
abbrev Untouched : List ℕ → Formula → Type 0
Untouched ns f = Each (λ n. occurs n f ≡ false) ns

eq-self : (n : ℕ) → nat_eq n n ≡ true
eq-self n = grind (arith, nat_tests)

eq-then : (m n : ℕ) → nat_eq m n ≡ true → m ≡ n
eq-then m n h = grind (arith, nat_tests)

eq-turned : (m n : ℕ) → nat_eq m n ≡ nat_eq n m
eq-turned m n = grind (arith, nat_tests)

not-then : (b : Bool) → not b ≡ true → b ≡ false
not-then false h = refl
not-then true h = absurd (cc)

or-false : (a b : Bool) → (a || b) ≡ false → (a ≡ false) × (b ≡ false)
or-false false b h = (refl, h)
or-false true b h = absurd (cc)

clash : {A : Type 0} (b : Bool) → b ≡ true → b ≡ false → A
clash b h k = let never : true ≡ false = sym h ∙ k in absurd (cc)

-- ---- freshness, formula by formula
none-first : (f : Formula) (fs : List Formula) (ns : List ℕ) → list_all (is_new (f ∷ fs)) ns ≡ true → Untouched ns f × (list_all (is_new fs) ns ≡ true)
none-first f fs [] h = (tt, refl)
none-first f fs (n ∷ ns) h =
    let k = and-both (is_new (f ∷ fs) n) (list_all (is_new (f ∷ fs)) ns) h in
    let m = and-both (not (occurs n f)) (is_new fs n) k.0 in
    let rest = none-first f fs ns k.1 in
    ((not-then (occurs n f) m.0, rest.0), (λ i. m.1 i && rest.1 i))

untouched-each : (fs : List Formula) (ns : List ℕ) → list_all (is_new fs) ns ≡ true → Each (Untouched ns) fs
untouched-each [] ns h = tt
untouched-each (f ∷ fs) ns h = let k = none-first f fs ns h in (k.0, untouched-each fs ns k.1)

module _ (table : Table) (well : IsWellFormed table) (find : Finder) (st : State) where
  -- what is assigned to other names is kept
  assigned-other : (f : Formula) (ns : List ℕ) (vs : List MathValue) (m : ℕ) → Untouched ns f → occurs m f ≡ true → assigned ns vs st m ≡ st m
  assigned-other f [] vs m h k = refl
  assigned-other f (n ∷ ns) [] m h k = refl
  assigned-other f (n ∷ ns) (v ∷ vs) m h k = at (nat_eq m n) refl (assigned-other f ns vs m h.1 k)
    where
      at : (b : Bool) → nat_eq m n ≡ b → assigned ns vs st m ≡ st m → cond b v (assigned ns vs st m) ≡ st m
      at true e rest = clash (occurs n f) (subst (λ x. occurs x f ≡ true) (eq-then m n e) k) h.0
      at false e rest = rest

  keeps : (f : Formula) (ns : List ℕ) (vs : List MathValue) → Untouched ns f → meaning find (at_state table (assigned ns vs st)) f ≡ meaning find (at_state table st) f
  keeps f ns vs h = meaning-agrees find (at_state table st) (assigned ns vs st) f (λ m k. assigned-other f ns vs m h k)

  keep-all : (fs : List Formula) (ns : List ℕ) (vs : List MathValue) → Each (Untouched ns) fs → AllHold find (at_state table st) fs → AllHold find (at_state table (assigned ns vs st)) fs
  keep-all [] ns vs h k = tt
  keep-all (f ∷ fs) ns vs h k = (ap (λ m. m.truth) (keeps f ns vs h.0) ∙ k.0, keep-all fs ns vs h.1 k.1)

  assigned-types : (ts : List ValueType) (ns : List ℕ) (vs : List MathValue) → TermsGive table ts (names_of ns) → are_of_types (set_size table) ts vs ≡ true → IsTypedState table st → (m : ℕ) (t : ValueType) → variable_type table m ≡ Some t → is_value_of (set_size table) t (assigned ns vs st m) ≡ true
  assigned-types ts [] vs g o typed m t e = typed.typed m t e
  assigned-types [] (n ∷ ns) vs g o typed m t e = absurd g
  assigned-types (u ∷ us) (n ∷ ns) [] g o typed m t e = absurd (cc)
  assigned-types (u ∷ us) (n ∷ ns) (v ∷ vs) g o typed m t e =
      let both = and-both (is_value_of (set_size table) u v) (are_of_types (set_size table) us vs) o in
      at both.0 (nat_eq m n) refl (assigned-types us ns vs g.1 both.1 typed m t e)
    where
      at : is_value_of (set_size table) u v ≡ true → (b : Bool) → nat_eq m n ≡ b → is_value_of (set_size table) t (assigned ns vs st m) ≡ true → is_value_of (set_size table) t (cond b v (assigned ns vs st m)) ≡ true
      at of true q rest =
          let here : given_by (Some t) ≡ gives u = ap given_by (sym e) ∙ ap (λ x. given_by (variable_type table x)) (eq-then m n q) ∙ g.0 in
          let same : t ≡ u = cc in
          subst (λ x. is_value_of (set_size table) x v ≡ true) (sym same) of
      at of false q rest = rest

  assigned-typed : (ts : List ValueType) (ns : List ℕ) (vs : List MathValue) → TermsGive table ts (names_of ns) → are_of_types (set_size table) ts vs ≡ true → IsTypedState table st → IsTypedState table (assigned ns vs st)
  assigned-typed ts ns vs g o typed = record { typed = assigned-types ts ns vs g o typed }

  -- further names do not change what stands for the others
  values-skip : (n : ℕ) (v : MathValue) (ns ms : List ℕ) (vs : List MathValue) → list_any (nat_eq n) ms ≡ false → map (value find (at_state table (assigned (n ∷ ns) (v ∷ vs) st))) (names_of ms) ≡ map (value find (at_state table (assigned ns vs st))) (names_of ms)
  values-skip n v ns [] vs h = refl
  values-skip n v ns (m ∷ ms) vs h =
      let k = or-false (nat_eq n m) (list_any (nat_eq n) ms) h in
      λ i. cond ((eq-turned m n ∙ k.0) i) v (assigned ns vs st m) ∷ values-skip n v ns ms vs k.1 i

  values-are : (ts : List ValueType) (ns : List ℕ) (vs : List MathValue) → TermsGive table ts (names_of ns) → are_of_types (set_size table) ts vs ≡ true → are_distinct ns ≡ true → map (value find (at_state table (assigned ns vs st))) (names_of ns) ≡ vs
  values-are [] [] [] g o d = refl
  values-are [] [] (v ∷ vs) g o d = absurd (cc)
  values-are (t ∷ ts) [] vs g o d = absurd g
  values-are [] (n ∷ ns) vs g o d = absurd g
  values-are (t ∷ ts) (n ∷ ns) [] g o d = absurd (cc)
  values-are (t ∷ ts) (n ∷ ns) (v ∷ vs) g o d =
      let both = and-both (is_value_of (set_size table) t v) (are_of_types (set_size table) ts vs) o in
      let k = and-both (not (list_any (nat_eq n) ns)) (are_distinct ns) d in
      λ i. cond (eq-self n i) v (assigned ns vs st n) ∷ (values-skip n v ns ns vs (not-then (list_any (nat_eq n) ns) k.0) ∙ values-are ts ns vs g.1 both.1 k.1) i

  opens : (ts : List ValueType) (ns : List ℕ) (vs : List MathValue) → TermsGive table ts (names_of ns) → are_of_types (set_size table) ts vs ≡ true → are_distinct ns ≡ true → (p : Formula) → Untouched ns p → truth find (at_state table (assigned ns vs st)) (opened (names_of ns) p) ≡ truth find (under (at_state table st) ts vs) p
  opens ts ns vs g o d p u =
      let w = assigned ns vs st in
      ap (λ m. m.truth) (opening_means find table well w ts (names_of ns) g p)
      ∙ ap (λ xs. truth find (under (at_state table w) ts xs) p) (values-are ts ns vs g o d)
      ∙ ap (λ m. m.truth) (meaning-agrees find (under (at_state table st) ts vs) w p (λ m k. assigned-other p ns vs m u k))

pub record Fresh (table : Table) (s : Sequent) (ts : List ValueType) (ns : List ℕ) : Type 0 where
  pub give : TermsGive table ts (names_of ns)
  pub distinct : are_distinct ns ≡ true
  pub goal_untouched : Untouched ns s.1
  pub hyps_untouched : Each (Untouched ns) s.0

fresh-then : (table : Table) (s : Sequent) (ts : List ValueType) (ns : List ℕ) → are_fresh table s ts ns ≡ true → Fresh table s ts ns
fresh-then table s ts ns h =
    let k = and-both (give_each table ts (names_of ns) && are_distinct ns) (list_all (is_new (s.1 ∷ s.0)) ns) h in
    let m = and-both (give_each table ts (names_of ns)) (are_distinct ns) k.0 in
    let u = untouched-each (s.1 ∷ s.0) ns k.1 in
    record { give = give_each-then table ts (names_of ns) m.0; distinct = m.1; goal_untouched = u.0; hyps_untouched = u.1 }

module _ (table : Table) (well : IsWellFormed table) (s : Sequent) (bs : List Branch) (valid : Each (IsValidSequent table) (map (extended s) bs)) where
  the-branches : (cs : List Branch) → cs ≡ bs → Each (IsValidSequent table) (map (extended s) cs)
  the-branches cs e = subst (λ x. Each (IsValidSequent table) (map (extended s) x)) (sym e) valid

  pub fix-sound : (names : Vec ℕ) → branches table s (Fix names) ≡ Some bs → IsValidSequent table s
  fix-sound names e find law st typed hold =
      let ns = names.items in
      let k = chained (λ q. when (are_fresh table s q.0 ns) (goal (opened (names_of ns) q.1) ∷ [])) (universal s.1) bs e in
      let ts = k.0.0 in
      let p = k.0.1 in
      let m = when-then (are_fresh table s ts ns) (goal (opened (names_of ns) p) ∷ []) bs k.2 in
      let only = (the-branches (goal (opened (names_of ns) p) ∷ []) m.1).0 in
      let fresh = fresh-then table s ts ns m.0 in
      let is_all = universal-then s.1 k.0 k.1 in
      let untouched : Untouched ns p = subst (Untouched ns) is_all fresh.goal_untouched in
      let all : truth find (at_state table st) (for_all ts p) ≡ true = (for_all-true find law (at_state table st) ts p).1 (λ vs o.
      let w = assigned ns vs st in
      sym (opens table well find st ts ns vs fresh.give o fresh.distinct p untouched)
      ∙ only find law w (assigned-typed table well find st ts ns vs fresh.give o typed) (hold-append find (at_state table w) s.0 [] (keep-all table well find st s.0 ns vs fresh.hyps_untouched hold) tt)) in
      subst (λ g. truth find (at_state table st) g ≡ true) (sym is_all) all

  pub open-sound : (i : ℕ) (names : Vec ℕ) → branches table s (OpenSome i names) ≡ Some bs → IsValidSequent table s
  open-sound i names e find law st typed hold =
      let ns = names.items in
      let k = chained (λ h. option_and_then (λ q. when (are_fresh table s q.0 ns) (more s (opened (names_of ns) q.1 ∷ []))) (existential h)) (numbered_item s.0 i) bs e in
      let h = k.0 in
      let l = chained (λ q. when (are_fresh table s q.0 ns) (more s (opened (names_of ns) q.1 ∷ []))) (existential h) bs k.2 in
      let ts = l.0.0 in
      let p = l.0.1 in
      let m = when-then (are_fresh table s ts ns) (more s (opened (names_of ns) p ∷ [])) bs l.2 in
      let only = (the-branches (more s (opened (names_of ns) p ∷ [])) m.1).0 in
      let fresh = fresh-then table s ts ns m.0 in
      let is_some = existential-then h l.0 l.1 in
      let untouched : Untouched ns p = subst (Untouched ns) is_some (each-item (Untouched ns) s.0 i h fresh.hyps_untouched k.1) in
      let there = (for_some-true find law (at_state table st) ts p).0 (subst (λ g. truth find (at_state table st) g ≡ true) is_some (hold-item find (at_state table st) s.0 i h hold k.1)) in
      let vs = there.0 in
      let w = assigned ns vs st in
      let now = opens table well find st ts ns vs fresh.give there.1 fresh.distinct p untouched ∙ there.2 in
      sym (ap (λ m. m.truth) (keeps table well find st s.1 ns vs fresh.goal_untouched))
      ∙ only find law w (assigned-typed table well find st ts ns vs fresh.give there.1 typed) (hold-append find (at_state table w) s.0 (opened (names_of ns) p ∷ []) (keep-all table well find st s.0 ns vs fresh.hyps_untouched hold) (now, tt))
