-- The names in sight of a term by itself are those of the table; its formula types, and it has one or a fault.
use Rattle.std.proofs.Common.{◌≡◌, ℕ, zero, suc, ◌+◌, ◌<◌, List, [], ◌∷◌, ◌++◌, length, refl, sym, ◌∙◌, ap, subst, Bool, true, false, arith, nat_lt}
use Rattle.std.specs.Prelude.{◌⊎◌, ◌≤◌, All, Option, None, Some, slice_get}
use Rattle.std.specs.Option.{option_map_or}
use Rattle.std.proofs.Common.{inl, inr}
use Rattle.std.proofs.lemmas.List.Elements.{All-head, All-tail}
use Rattle.std.proofs.lemmas.Option.{same_Some, slice_get_within}
use Rattle.std.proofs.lemmas.Bool.Decides.{nat_tests}
use Rattle.bk_val.specs.ValueType.{ValueType, enum_type}
use Rattle.bk_form.specs.Table.{Table, SetEntry, listed_size, variable_type, lists_type, IsCounted, IsWellFormed}
use Rattle.bk_form.specs.Formula.{Formula}
use Rattle.bk_form.specs.Role.{role, gives}
use Rattle.bk_form.specs.Wider.{IsTypedRole}
use Rattle.bk_form.proofs.Widening.{type-listed}
use Rattle.bk_form.specs.declared.token.Token.{Token}
use Rattle.bk_raw.specs.Trees.RawTree.{RawTree}
use Rattle.bk_raw.specs.Grammar.Spelling.{Spells}
use Rattle.bk_raw.specs.Meaning.Names.{Names, Agree, MeaningAgrees}
use Rattle.bk_raw.specs.Meaning.Outcome.{whole, hollow, single_of, pair_of, joint_of, Outcome, partial, ranging, holding, silent}
use Rattle.bk_raw.specs.Meaning.TermReading.{place_of, is_predicate}
use Rattle.bk_raw.specs.Meaning.RightReading.{IsRight}
use Rattle.bk_raw.specs.Meaning.Speaking.{HasType, AreTyped, Fits, IsTold}
use Rattle.bk_raw.specs.Meaning.ScopeReading.{ScopeNames, element_names, set_names, variable_meaning, scope_names, names_in, ask_formula, reading_in, formula_in}
use Rattle.bk_raw.proofs.Exact.{one_for_its_tokens}
use Rattle.bk_raw.proofs.ReadingRight.{reading-right}
use Rattle.bk_raw.proofs.ReadingFits.{reading-speaks}
use Rattle.bk_raw.proofs.ReadingClean.{reading-clean}
use Rattle.bk_raw.proofs.RulesFit.{none-left, none-right, some-fault}
use Rattle.bk_raw.specs.Errors.Faults.{without_type}

-- ---- names
less-then : (m n : ℕ) → m < n → nat_lt m n ≡ true
less-then m n h = grind (arith, nat_tests)

-- a set has no more names than elements
pub names-below : (e : SetEntry) → IsCounted e → length e.elements ≤ e.size
names-below e (inl h) = let none : length e.elements ≡ 0 = ap length h in omega (arith, none)
names-below e (inr h) = omega (arith, h)

each-counted : (es : List SetEntry) → All IsCounted es → (s : ℕ) (e : SetEntry) → slice_get es s ≡ Some e → IsCounted e
each-counted [] all s e h = absurd (cc)
each-counted (x ∷ es) all zero e h = let same : x ≡ e = cc in subst IsCounted same (All-head IsCounted x es all)
each-counted (x ∷ es) all (suc s) e h = each-counted es (All-tail IsCounted x es all) s e h

module _ (table : Table) where
  -- the elements of a listed set, in front of names that agree
  element-agree : (s : ℕ) (size : ℕ) → listed_size table s ≡ size → lists_type table (enum_type s) ≡ true → (i : ℕ) (xs : List (List ℕ)) → i + length xs ≤ size → (rest : Names) → Agree table [] rest → Agree table [] (element_names s i xs ++ rest)
  element-agree s size e l i [] h rest g = g
  element-agree s size e l i (x ∷ xs) h rest g =
      let below : i < size = omega (arith, h) in
      (ap (nat_lt i) e ∙ less-then i size below, l, element-agree s size e l (suc i) xs (omega (arith, h)) rest g)

  -- what the s-th set of the table is
  size-of : (s : ℕ) (e : SetEntry) → slice_get table.sets s ≡ Some e → listed_size table s ≡ e.size
  size-of s e h = ap (λ o. option_map_or (λ (x : SetEntry). x.size) o 0) h

  listed-set : (s : ℕ) (e : SetEntry) → slice_get table.sets s ≡ Some e → lists_type table (enum_type s) ≡ true
  listed-set s e h = less-then s (length table.sets) (slice_get_within table.sets s e h)

  -- these sets stand in the table from the s-th on
  abbrev StandFrom : ℕ → List SetEntry → Type 0
  StandFrom s es = (i : ℕ) (e : SetEntry) → slice_get es i ≡ Some e → slice_get table.sets (s + i) ≡ Some e

  all-stand : StandFrom 0 table.sets
  all-stand i e h =
      let same : 0 + i ≡ i = omega arith in
      ap (slice_get table.sets) same ∙ h

  first-stands : (s : ℕ) (e : SetEntry) (es : List SetEntry) → StandFrom s (e ∷ es) → slice_get table.sets s ≡ Some e
  first-stands s e es h =
      let same : s ≡ s + zero = omega arith in
      ap (slice_get table.sets) same ∙ h zero e refl

  later-stand : (s : ℕ) (e : SetEntry) (es : List SetEntry) → StandFrom s (e ∷ es) → StandFrom (suc s) es
  later-stand s e es h i d g =
      let same : suc s + i ≡ s + suc i = omega arith in
      ap (slice_get table.sets) same ∙ h (suc i) d g

  set-agree : IsWellFormed table → (s : ℕ) (es : List SetEntry) → StandFrom s es → Agree table [] (set_names s es)
  set-agree w s [] h = tt
  set-agree w s (e ∷ es) h =
      let here = first-stands s e es h in
      let listed = listed-set s e here in
      let few : length e.elements ≤ e.size = names-below e (each-counted table.sets w.counted s e here) in
      let counted : 0 + length e.elements ≤ e.size = omega (arith, few) in
      (listed, element-agree s e.size (size-of s e here) listed 0 e.elements counted (set_names (suc s) es) (set-agree w (suc s) es (later-stand s e es h)))

  variable-agree : IsWellFormed table → (n : ℕ) (o : Option ValueType) → variable_type table n ≡ o → (rest : Names) → Agree table [] rest → MeaningAgrees table [] (variable_meaning n o) (λ us. Agree table us rest)
  variable-agree w n None e rest h = h
  variable-agree w n (Some t) e rest h = (e, type-listed table w n t e, h)

  scope-agree : IsWellFormed table → (ps : List (List ℕ × ℕ)) (around : Names) → Agree table [] around → Agree table [] (scope_names table ps around)
  scope-agree w [] around h = h
  scope-agree w (p ∷ ps) around h = scope-agree w ps (record { text = p.0; meaning = variable_meaning p.1 (variable_type table p.1) } ∷ around) (variable-agree w p.1 (variable_type table p.1) refl around h)

  pub names-agree : IsWellFormed table → (scope : ScopeNames) → Agree table [] (names_in table scope)
  names-agree w scope = scope-agree w scope.names (set_names 0 table.sets) (set-agree w 0 table.sets all-stand)

  element-typed : (s i : ℕ) (xs : List (List ℕ)) (rest : Names) → AreTyped rest → AreTyped (element_names s i xs ++ rest)
  element-typed s i [] rest h = h
  element-typed s i (x ∷ xs) rest h = (tt, element-typed s (suc i) xs rest h)

  set-typed : (s : ℕ) (es : List SetEntry) → AreTyped (set_names s es)
  set-typed s [] = tt
  set-typed s (e ∷ es) = (tt, element-typed s 0 e.elements (set_names (suc s) es) (set-typed (suc s) es))

  variable-typed : (n : ℕ) (o : Option ValueType) → HasType (variable_meaning n o)
  variable-typed n None = tt
  variable-typed n (Some t) = tt

  scope-typed : (ps : List (List ℕ × ℕ)) (around : Names) → AreTyped around → AreTyped (scope_names table ps around)
  scope-typed [] around h = h
  scope-typed (p ∷ ps) around h = scope-typed ps (record { text = p.0; meaning = variable_meaning p.1 (variable_type table p.1) } ∷ around) (variable-typed p.1 (variable_type table p.1), h)

  pub names-typed : (scope : ScopeNames) → AreTyped (names_in table scope)
  names-typed scope = scope-typed scope.names (set_names 0 table.sets) (set-typed 0 table.sets)

  -- ---- formulas
  typed-as : (f : Formula) (t : ValueType) → role table [] f ≡ gives t → IsTypedRole (role table [] f)
  typed-as f t h = subst IsTypedRole (sym h) tt

  asked-types : (at : ℕ) (o : Outcome) → IsRight table [] o → (f : Formula) → (ask_formula at o).answer ≡ Some f → IsTypedRole (role table [] f)
  asked-types at (partial (whole g t)) h f e = subst (λ x. IsTypedRole (role table [] x)) (same_Some g f e) (typed-as g t h.0)
  asked-types at (partial hollow) h f e = absurd (cc)
  asked-types at (partial (single_of p)) h f e = absurd (cc)
  asked-types at (partial (pair_of p q)) h f e = absurd (cc)
  asked-types at (partial (joint_of j p q)) h f e = absurd (cc)
  asked-types at (ranging g t there) h f e = subst (λ x. IsTypedRole (role table [] x)) (same_Some g f e) (subst IsTypedRole (sym h.0) tt)
  asked-types at (holding p) h f e = subst (λ x. IsTypedRole (role table [] x)) (same_Some p f e) (subst IsTypedRole (sym h) tt)
  asked-types at silent h f e = absurd (cc)

  pub formula-types : IsWellFormed table → (scope : ScopeNames) (t : RawTree) (f : Formula) → (formula_in table scope t).answer ≡ Some f → IsTypedRole (role table [] f)
  formula-types w scope t f e = asked-types (place_of t) (reading_in table scope t).outcome (reading-right scope.max table t (names_in table scope) [] (names-agree w scope)) f e

  -- what fits its form and is asked without a fault has a formula
  asked-speaks : (at : ℕ) (kind : Bool) (o : Outcome) → Fits kind o → (ask_formula at o).faults ≡ [] → (f : Formula) × ((ask_formula at o).answer ≡ Some f)
  asked-speaks at true (holding p) h e = (p, refl)
  asked-speaks at true (partial p) h e = absurd h
  asked-speaks at true (ranging g t there) h e = absurd h
  asked-speaks at true silent h e = absurd h
  asked-speaks at false (partial (whole g t)) h e = (g, refl)
  asked-speaks at false (partial hollow) h e = some-fault (without_type at) [] e
  asked-speaks at false (partial (single_of p)) h e = some-fault (without_type at) [] e
  asked-speaks at false (partial (pair_of p q)) h e = some-fault (without_type at) [] e
  asked-speaks at false (partial (joint_of j p q)) h e = some-fault (without_type at) [] e
  asked-speaks at false (ranging g t there) h e = (g, refl)
  asked-speaks at false (holding p) h e = absurd h
  asked-speaks at false silent h e = absurd h

  pub formula-speaks : (scope : ScopeNames) (t : RawTree) → (formula_in table scope t).faults ≡ [] → (f : Formula) × ((formula_in table scope t).answer ≡ Some f)
  formula-speaks scope t e =
      let r = reading_in table scope t in
      let asked = (ask_formula (place_of t) r.outcome).faults in
      asked-speaks (place_of t) (is_predicate t) r.outcome (reading-speaks scope.max t (names_in table scope) (names-typed scope) (none-left r.faults asked e)) (none-right r.faults asked e)

  -- what answers is told, and adds no fault
  asked-clean : (at : ℕ) (o : Outcome) (f : Formula) → (ask_formula at o).answer ≡ Some f → IsTold o × ((ask_formula at o).faults ≡ [])
  asked-clean at (partial (whole g t)) f e = (tt, refl)
  asked-clean at (partial hollow) f e = absurd (cc)
  asked-clean at (partial (single_of p)) f e = absurd (cc)
  asked-clean at (partial (pair_of p q)) f e = absurd (cc)
  asked-clean at (partial (joint_of j p q)) f e = absurd (cc)
  asked-clean at (ranging g t there) f e = (tt, refl)
  asked-clean at (holding p) f e = (tt, refl)
  asked-clean at silent f e = absurd (cc)

  pub formula-clean : (scope : ScopeNames) (t : RawTree) (f : Formula) → (formula_in table scope t).answer ≡ Some f → (formula_in table scope t).faults ≡ []
  formula-clean scope t f e =
      let r = reading_in table scope t in
      let k = asked-clean (place_of t) r.outcome f e in
      rw (reading-clean scope.max t (names_in table scope) k.0, k.1) refl

  pub read-once : (scope : ScopeNames) (tokens : List Token) (one other : RawTree) → Spells one tokens → Spells other tokens → formula_in table scope one ≡ formula_in table scope other
  read-once scope tokens one other h k = ap (formula_in table scope) (one_for_its_tokens tokens one other h k)
