-- A call of the last level's body is one of the machine's.
use Rattle.std.proofs.Common.{◌≡◌, ◌⊎◌, inl, inr, ◌<◌, ◌≤◌, ℕ, zero, suc, List, [], ◌∷◌, ◌++◌, length, map, refl, sym, ◌∙◌, ap, subst, Bool, true, false, cond, ◌||◌, nat_eq, nat_lt, arith, Some, None, pos, ◌-ℤ◌}
use Rattle.std.specs.Prelude.{slice_index_or}
use Rattle.std.specs.List.{filter}
use Rattle.std.proofs.lemmas.Bool.Decides.{nat_tests}
use Rattle.bk_form.specs.Table.{variable_type}
use Rattle.bk_form.specs.Formula.{Formula, literal, truth_value, element, btrue, binary}
use Rattle.bk_form.specs.Operators.{is_equal}
use Rattle.bk_form.specs.Meaning.{within as is_within}
use Rattle.bk_form.specs.declared.operator.BinOp.TheVariants.{Range}
use Rattle.bk_form.specs.Search.{Finder}
use Rattle.bk_form.specs.Environment.{State, at_state, IsTypedState}
use Rattle.bk_form.specs.Predicates.{AllHold, conjuncts, equation}
use Rattle.bk_form.proofs.Members.{or-left, or-right}
use Rattle.bk_form.proofs.Conjuncts.{true-append, true-first, parts-true, whole-true}
use Rattle.bk_gsl.specs.Substitution.{Substitution, pre}
use Rattle.bk_gsl.specs.State.{holds, value_at, among}
use Rattle.bk_gsl.specs.Run.{Runs, Ends}
use Rattle.bk_gsl.specs.Clean.{Clean}
use Rattle.bk_gsl.proofs.States.{nat_eq-self}
use Rattle.bk_gsl.proofs.Runs.{run-typed}
use Rattle.bk_dev.specs.Development.{Head, Body, Level, Development, int_max, level_at, body_of, body_at, inputs_of, last, is_btrue, is_implementation, is_complete, whole}
use Rattle.bk_form.specs.Each.{Each}
use Rattle.bk_dev.specs.Facts.{is_constant, IsValue, IsLiteral, is_input, is_variable_of, is_inner_of, home_of, names_own, names_joined, is_variable_above, IsLevelOf, IsBodyOf, IsHeadOf, IsLink, IsLawful}
use Rattle.bk_dev.specs.Hypotheses.{size_equations, value_equation, properties_of, values_at, joining, joinings_of, conditions_of, is_number, in_machine_range, input_ranges, init_hypotheses, unasserted_hypotheses}
use Rattle.bk_dev.specs.Machine.{HasValues}
use Rattle.bk_dev.specs.Claims.{arrays_at, beside, IsBetweenCalls, Establishes, Answered, KeepsFlat, CarriesFlat, CarriesFromEqual, LastCarriesFromEqual, ValuesMeet}
use Rattle.bk_dev.specs.Layout.{arrays_of}
use Rattle.bk_dev.proofs.Levels.{each-at, body-at, level_fact}
use Rattle.bk_dev.proofs.InTable.{blank_head}
use Rattle.bk_dev.proofs.Agree.{holds-same, joining-same, all-among}
use Rattle.bk_dev.proofs.Sizes.{sizes_hold}
use Rattle.bk_dev.proofs.Climb.{flat-then, flat-if, is_before, constant-before, input-before, variable-before, above-before, inner-before, joined-before, own-before, Climbed, Carry, climbed}
use Rattle.bk_dev.specs.Climbing.{StartsCall, EndsCall, IsCalled, EndsOpening, IsOpened}
use Rattle.bk_dev.specs.Laws.{CallsClimb, OpeningsClimb}

-- constants' values, in a state with the same constants
pub values-kept : (find : Finder) (dev : Development) (x e : State) → ((n : ℕ) → is_constant (home_of dev n) ≡ true → x n ≡ e n) → (ps : List (ℕ × Formula)) → Each (IsValue dev) ps → AllHold find (at_state dev.table e) (map value_equation ps) → AllHold find (at_state dev.table x) (map value_equation ps)
values-kept find dev x e same [] w h = tt
values-kept find dev x e same (p ∷ ps) w h = ((λ i. is_equal (same p.0 w.0.constant i) (closed p.1 w.0.is_literal i)) ∙ h.0, values-kept find dev x e same ps w.1 h.1)
  where
    closed : (g : Formula) → IsLiteral dev g → value_at find dev.table x g ≡ value_at find dev.table e g
    closed (literal z) l = refl
    closed (truth_value b) l = refl
    closed (element s i) l = refl
    closed _ l = absurd l

no_links : (dev : Development) (ls : List (ℕ × ℕ)) → Each (IsLink dev 0) ls → ls ≡ []
no_links dev [] e = refl
no_links dev (p ∷ ls) e = let k : 0 ≡ suc e.0.above.0 = e.0.above.1 in absurd (omega (arith, k))

whole-runs : (find : Finder) (dev : Development) (b : Body) (e f : State) → Runs find dev.table b.sub e f → Runs find dev.table (whole b) e f
whole-runs find dev b e f r = elim (is_btrue b.condition) as (λ t. Runs find dev.table (cond t b.sub (pre b.condition b.sub)) e f) [ true ↦ r | false ↦ r ]

ends-condition : (find : Finder) (dev : Development) (p : Formula) (s : Substitution) (e : State) → Ends find dev.table (cond (is_btrue p) s (pre p s)) e → holds find dev.table e p ≡ true
ends-condition find dev btrue s e h = refl
ends-condition find dev p s e h = h.0

-- equations of outputs, in a state with the same values
pub equal-same : (find : Finder) (dev : Development) (xs ys : List ℕ) (x e : State) → ((n : ℕ) → among xs n ≡ true → x n ≡ e n) → ((n : ℕ) → among ys n ≡ true → x n ≡ e n) → AllHold find (at_state dev.table e) (map equation (beside xs ys)) → AllHold find (at_state dev.table x) (map equation (beside xs ys))
equal-same find dev [] ys x e p q h = tt
equal-same find dev (a ∷ xs) [] x e p q h = tt
equal-same find dev (a ∷ xs) (b ∷ ys) x e p q h =
    let low = p a (or-left (nat_eq a a) (among xs a) (nat_eq-self a)) in
    let high = q b (or-left (nat_eq b b) (among ys b) (nat_eq-self b)) in
    ((λ i. is_equal (low i) (high i)) ∙ h.0, equal-same find dev xs ys x e (λ n k. p n (or-right (nat_eq n a) (among xs n) k)) (λ n k. q n (or-right (nat_eq n b) (among ys n) k)) h.1)

-- ranges of inputs
pub ranges-same : (find : Finder) (dev : Development) (xs : List ℕ) (x e : State) → ((n : ℕ) → among xs n ≡ true → x n ≡ e n) → AllHold find (at_state dev.table e) (map (in_machine_range dev) (filter (λ n. is_number (variable_type dev.table n)) xs)) → AllHold find (at_state dev.table x) (map (in_machine_range dev) (filter (λ n. is_number (variable_type dev.table n)) xs))
ranges-same find dev [] x e p h = tt
ranges-same find dev (a ∷ xs) x e p h = by_test (is_number (variable_type dev.table a)) h (λ k. ranges-same find dev xs x e (λ n m. p n (or-right (nat_eq n a) (among xs n) m)) k)
  where
    here : x a ≡ e a
    here = p a (or-left (nat_eq a a) (among xs a) (nat_eq-self a))

    rest : List Formula
    rest = map (in_machine_range dev) (filter (λ n. is_number (variable_type dev.table n)) xs)

    by_test : (b : Bool) → AllHold find (at_state dev.table e) (map (in_machine_range dev) (cond b (a ∷ filter (λ n. is_number (variable_type dev.table n)) xs) (filter (λ n. is_number (variable_type dev.table n)) xs))) → (AllHold find (at_state dev.table e) rest → AllHold find (at_state dev.table x) rest) →
        AllHold find (at_state dev.table x) (map (in_machine_range dev) (cond b (a ∷ filter (λ n. is_number (variable_type dev.table n)) xs) (filter (λ n. is_number (variable_type dev.table n)) xs)))
    by_test true h on = (ap (λ v. is_within find (at_state dev.table e) v (binary Range (literal (pos 0 -ℤ int_max dev)) (literal (int_max dev)))) here ∙ h.0, on h.1)
    by_test false h on = on h

module _ (find : Finder) (dev : Development) (f : IsLawful dev) (complete : is_complete dev ≡ true) (meet : ValuesMeet find dev) (keeps : KeepsFlat find dev) (carries : (j : ℕ) → suc j ≤ last dev → CarriesFromEqual find dev j) where
  abbrev high : Level
  high = level_at dev 0

  within : (k : ℕ) → k ≤ last dev → k < length dev.levels
  within k m = let some : 0 < length dev.levels = f.some_level in omega arith

  values-there : (k : ℕ) (e : State) → HasValues find dev e → AllHold find (at_state dev.table e) (values_at dev k)
  values-there k e v = elim (is_implementation (level_at dev k)) as (λ c. AllHold find (at_state dev.table e) (cond c (size_equations dev ++ map value_equation dev.values) [])) [ true ↦ true-append find (at_state dev.table e) (size_equations dev) (map value_equation dev.values) (sizes_hold find dev f.sets (at_state dev.table e) refl) v | false ↦ tt ]

  properties-hold : (k : ℕ) (e : State) → IsTypedState dev.table e → HasValues find dev e → AllHold find (at_state dev.table e) (properties_of dev k)
  properties-hold k e t v = flat-if find dev e (λ l. conjuncts l.properties) k dev.levels (λ j p q. flat-then find dev e (λ l. conjuncts l.properties) (length dev.levels) dev.levels (meet e t v) j q q)

  init-hyps : (k : ℕ) (e : State) → IsTypedState dev.table e → HasValues find dev e → AllHold find (at_state dev.table e) (init_hypotheses dev k)
  init-hyps k e t v = true-append find (at_state dev.table e) (properties_of dev (suc k)) (values_at dev k) (properties-hold (suc k) e t v) (values-there k e v)

  -- a state that is e in the constants has their values
  values-from : (k : ℕ) (x e : State) → ((n : ℕ) → is_before k (home_of dev n) ≡ true → x n ≡ e n) → HasValues find dev e → HasValues find dev x
  values-from k x e same v = values-kept find dev x e (λ n h. same n (constant-before k (home_of dev n) h)) dev.values f.values v

  body_fact : (o : ℕ) → o < length dev.heads → (k : ℕ) → k ≤ last dev → IsBodyOf dev k (slice_index_or dev.heads o blank_head) (body_at dev 0 o) (body_at dev k o)
  body_fact o h k m = body-at dev k dev.heads (level_at dev 0).bodies (level_at dev k).bodies blank_head o h (level_fact dev f k (within k m)).bodies

  arrays-last : (k : ℕ) → last dev ≡ k → arrays_at dev k ≡ Some (arrays_of dev)
  arrays-last k h = ap (λ c. cond c (Some (arrays_of dev)) None) (subst (λ n. is_implementation (level_at dev n) ≡ true) h complete)

  -- ---- a call
  module _ (o : ℕ) (is : o < length dev.heads) (e : State) (start : StartsCall find dev o e) where
    abbrev head : Head
    head = slice_index_or dev.heads o blank_head

    abbrev sub : ℕ → Substitution
    sub k = (body_at dev k o).sub

    abbrev outs : ℕ → List ℕ
    outs k = (body_at dev k o).outputs

    abbrev condition : ℕ → Formula
    condition k = (body_at dev k o).condition

    fact : (k : ℕ) → k ≤ last dev → IsBodyOf dev k head (body_at dev 0 o) (body_at dev k o)
    fact k m = body_fact o is k m

    head_fact : IsHeadOf dev head
    head_fact = each-at (IsHeadOf dev) dev.heads o blank_head is f.heads

    as_many : (k : ℕ) → suc k ≤ last dev → length (outs (suc k)) ≡ length (outs k)
    as_many k m = (fact (suc k) m).as_many_outputs ∙ sym (fact k (omega arith)).as_many_outputs

    is-input : (n : ℕ) → among head.inputs n ≡ true → is_input (home_of dev n) ≡ true
    is-input n h = all-among (λ y. is_input (home_of dev y)) head.inputs head_fact.inputs n h

    joining-e : (j : ℕ) → j < length dev.levels → AllHold find (at_state dev.table e) (joining (level_at dev j))
    joining-e j h = flat-then find dev e joining (length dev.levels) dev.levels start.joined j h h

    ranges-there : (k : ℕ) (x : State) → ((n : ℕ) → among head.inputs n ≡ true → x n ≡ e n) → AllHold find (at_state dev.table x) (input_ranges dev k o)
    ranges-there k x same = elim (is_implementation (level_at dev k)) as (λ q. AllHold find (at_state dev.table x) (cond q (map (in_machine_range dev) (filter (λ y. is_number (variable_type dev.table y)) (inputs_of dev o))) [])) [
      | true ↦ ranges-same find dev head.inputs x e same start.ranges
      | false ↦ tt
    ]

    -- level k's hypotheses hold where the preconditions of the levels above it are true at the start
    Before : ℕ → Type 0
    Before k = (j : ℕ) → j ≤ k → holds find dev.table e (condition j) ≡ true

    hyps : (k : ℕ) → suc k ≤ last dev → Before k → (x : State) → IsTypedState dev.table x → ((n : ℕ) → is_before (suc (suc k)) (home_of dev n) ≡ true → x n ≡ e n) → AllHold find (at_state dev.table x) (unasserted_hypotheses dev (suc k) o)
    unfolding Before
    hyps k m conditions x t same =
        true-append find (at_state dev.table x) (init_hypotheses dev (suc k) ++ joinings_of dev (suc (suc k)) ++ conditions_of dev (suc k) o) (input_ranges dev (suc k) o)
        (true-append find (at_state dev.table x) (init_hypotheses dev (suc k) ++ joinings_of dev (suc (suc k))) (conditions_of dev (suc k) o)
        (true-append find (at_state dev.table x) (init_hypotheses dev (suc k)) (joinings_of dev (suc (suc k))) (init-hyps (suc k) x t (values-from (suc (suc k)) x e same start.values)) (flat-if find dev x joining (suc (suc k)) dev.levels joins))
        (flat-if find dev x (λ w. conjuncts (body_of w o).condition) (suc k) dev.levels conds))
        (ranges-there (suc k) x (λ n h. same n (input-before (suc (suc k)) (home_of dev n) (is-input n h))))
      where
        joins : (j : ℕ) → j < suc (suc k) → j < length dev.levels → AllHold find (at_state dev.table x) (joining (level_at dev j))
        joins j p q =
            let w = level_fact dev f j q in
            joining-same find dev.table dev j (level_at dev j) w.invariant.names w.links e x (λ n h. sym (same n (joined-before dev (suc (suc k)) j p n h))) (joining-e j q)

        conds : (j : ℕ) → j < suc k → j < length dev.levels → AllHold find (at_state dev.table x) (conjuncts (condition j))
        conds j p q =
            let w = fact j (omega arith) in
            let here : holds find dev.table x (condition j) ≡ holds find dev.table e (condition j) = holds-same find dev.table x e (names_own dev j head.inputs (outs j)) (condition j) w.condition_names (λ n h. same n (own-before dev (suc (suc k)) j (omega arith) head.inputs (outs j) head_fact.inputs w.outputs n h)) in
            parts-true find (at_state dev.table x) (condition j) (here ∙ conditions j (omega arith))

    -- the outputs of two levels have the same values there too
    outputs-equal : (k : ℕ) → suc k ≤ last dev → (x : State) → ((n : ℕ) → is_before (suc (suc k)) (home_of dev n) ≡ true → x n ≡ e n) → AllHold find (at_state dev.table x) (map equation (beside (outs (suc k)) (outs k)))
    outputs-equal k m x same = equal-same find dev (outs (suc k)) (outs k) x e
        (λ n h. same n (inner-before (suc (suc k)) (suc k) (omega arith) (home_of dev n) (all-among (λ y. is_inner_of (suc k) (home_of dev y)) (outs (suc k)) (fact (suc k) m).outputs n h)))
        (λ n h. same n (inner-before (suc (suc k)) k (omega arith) (home_of dev n) (all-among (λ y. is_inner_of k (home_of dev y)) (outs k) (fact k (omega arith)).outputs n h)))
        (start.outputs k m)

    below-or-same : (j k : ℕ) → j ≤ suc k → (j ≤ k) ⊎ (j ≡ suc k)
    below-or-same j k h = by_test (nat_lt j (suc k)) refl
      where
        by_test : (b : Bool) → nat_lt j (suc k) ≡ b → (j ≤ k) ⊎ (j ≡ suc k)
        by_test true x = inl (grind (arith, nat_tests))
        by_test false x = inr (grind (arith, nat_tests))

    conditions-hold : (k : ℕ) → k ≤ last dev → Before k
    unfolding Before
    conditions-hold zero m j p =
        let none : j ≡ 0 = omega arith in
        subst (λ i. holds find dev.table e (condition i) ≡ true) (sym none) start.condition
    conditions-hold (suc k) m j p =
        let above : (i : ℕ) → i ≤ k → holds find dev.table e (condition i) ≡ true = conditions-hold k (omega arith) in
        let here = ends-condition find dev (condition (suc k)) (sub (suc k)) e ((carries k m).operations o is e start.typed (hyps k m above e start.typed (λ n h. refl)) (outputs-equal k m e (λ n h. refl))).ends in
        elim (below-or-same j k p) [ inl q ↦ above j q | inr q ↦ subst (λ i. holds find dev.table e (condition i) ≡ true) (sym q) here ]

    carry-call : Carry find dev sub outs e
    carry-call k m x y t same r = ((carries k m).operations o is x t (hyps k m (conditions-hold k (omega arith)) x t same) (outputs-equal k m x same)).results y (whole-runs find dev (body_at dev (suc k) o) x y r)

    invariant-e : holds find dev.table e high.invariant ≡ true
    invariant-e = whole-true find (at_state dev.table e) high.invariant (true-first find (at_state dev.table e) (conjuncts high.invariant) (map equation high.links) (joining-e 0 (within 0 (omega arith))))

    between : IsBetweenCalls find dev e
    between = record { typed = start.typed; properties = properties-hold 1 e start.typed start.values; invariant = invariant-e }

    body-clean : Clean find dev.table (Some (arrays_of dev)) (sub (last dev)) e
    body-clean = at (last dev) refl
      where
        of_whole : (k : ℕ) → Clean find dev.table (Some (arrays_of dev)) (whole (body_at dev k o)) e → Clean find dev.table (Some (arrays_of dev)) (sub k) e
        of_whole k = elim (is_btrue (condition k)) as (λ t. Clean find dev.table (Some (arrays_of dev)) (cond t (sub k) (pre (condition k) (sub k))) e → Clean find dev.table (Some (arrays_of dev)) (sub k) e) [ true ↦ λ h. h | false ↦ λ h. h.1 ]

        at : (k : ℕ) → last dev ≡ k → Clean find dev.table (Some (arrays_of dev)) (sub k) e
        at zero h = subst (λ z. Clean find dev.table z (sub 0) e) (arrays-last 0 h) (keeps.operations o is e between start.condition).clean
        at (suc k) h =
            let below : suc k ≤ last dev = omega (arith, h) in
            of_whole (suc k) (subst (λ z. Clean find dev.table z (whole (body_at dev (suc k) o)) e) (arrays-last (suc k) h) ((carries k below).operations o is e start.typed (hyps k below (conditions-hold k (omega arith)) e start.typed (λ n q. refl)) (outputs-equal k below e (λ n q. refl))).clean)

    body-ends : Ends find dev.table (sub (last dev)) e
    body-ends = at (last dev) refl
      where
        of_whole : (k : ℕ) → Ends find dev.table (whole (body_at dev k o)) e → Ends find dev.table (sub k) e
        of_whole k = elim (is_btrue (condition k)) as (λ t. Ends find dev.table (cond t (sub k) (pre (condition k) (sub k))) e → Ends find dev.table (sub k) e) [ true ↦ λ h. h | false ↦ λ h. h.1 ]

        at : (k : ℕ) → last dev ≡ k → Ends find dev.table (sub k) e
        at zero h = (keeps.operations o is e between start.condition).ends
        at (suc k) h =
            let below : suc k ≤ last dev = omega (arith, h) in
            of_whole (suc k) ((carries k below).operations o is e start.typed (hyps k below (conditions-hold k (omega arith)) e start.typed (λ n q. refl)) (outputs-equal k below e (λ n q. refl))).ends

    -- ---- its runs
    module _ (top : State) (r : Runs find dev.table (sub (last dev)) e top) where
      c : Climbed find dev sub outs e top zero
      c = climbed find dev f head.inputs sub outs (λ k m. (fact k m).sub) (λ k m. (fact k m).outputs) as_many e top carry-call start.typed r

      values-before : HasValues find dev c.before
      values-before = values-from 1 c.before e c.same start.values

      condition-before : holds find dev.table c.before (condition 0) ≡ true
      condition-before = holds-same find dev.table c.before e (names_own dev 0 head.inputs (outs 0)) (condition 0) (fact 0 (omega arith)).condition_names (λ n h. c.same n (own-before dev 1 0 (omega arith) head.inputs (outs 0) head_fact.inputs (fact 0 (omega arith)).outputs n h)) ∙ start.condition

      invariant-before : holds find dev.table c.before high.invariant ≡ true
      invariant-before = holds-same find dev.table c.before e (names_joined dev 0) high.invariant (level_fact dev f 0 (within 0 (omega arith))).invariant.names (λ n h. c.same n (joined-before dev 1 0 (omega arith) n h)) ∙ invariant-e

      invariant-after : holds find dev.table c.after high.invariant ≡ true
      invariant-after = (keeps.operations o is c.before (record { typed = c.typed; properties = properties-hold 1 c.before c.typed values-before; invariant = invariant-before }) condition-before).results c.after c.runs

      joined : (j : ℕ) → j < length dev.levels → AllHold find (at_state dev.table c.after) (joining (level_at dev j))
      joined zero h =
          let l = level_fact dev f 0 h in
          true-append find (at_state dev.table c.after) (conjuncts high.invariant) (map equation high.links) (parts-true find (at_state dev.table c.after) high.invariant invariant-after)
          (subst (λ ls. AllHold find (at_state dev.table c.after) (map equation ls)) (sym (no_links dev high.links l.links)) tt)
      joined (suc j) h = c.joins (suc j) (omega arith) (omega arith)

      ends-call : EndsCall find dev o e top
      ends-call = record {
        before = c.before;
        after = c.after;
        typed = c.typed;
        runs = c.runs;
        same = λ n h. c.same n (variable-before 1 0 (omega arith) (home_of dev n) h);
        same_inputs = λ n h. c.same n (input-before 1 (home_of dev n) h);
        same_inner = λ n h. c.same n (inner-before 1 0 (omega arith) (home_of dev n) h);
        joined = flat-if find dev c.after joining (length dev.levels) dev.levels (λ j p q. joined j p);
        kept = λ n h.
            let v = is_variable_of (last dev) (home_of dev n) in
            let i = is_input (home_of dev n) in
            let w = is_inner_of (last dev) (home_of dev n) in
            c.kept n (or-left (v || i) w (or-left v i h));
        gives = c.gives;
        typed_after = run-typed find dev.table f.table (sub 0) (fact 0 (omega arith)).sub.types c.before c.after c.typed c.runs;
      }

    pub is-called : IsCalled find dev o e
    is-called = record { ends = body-ends; clean = body-clean; runs = ends-call }

pub calls_climb : CallsClimb
calls_climb = λ find dev k carries o is e start. is-called find dev k.lawful k.complete k.values k.keeps carries o is e start

-- ---- openings
module _ (find : Finder) (dev : Development) (f : IsLawful dev) (complete : is_complete dev ≡ true) (meet : ValuesMeet find dev) (keeps : KeepsFlat find dev) (carries : (j : ℕ) → suc j < last dev → CarriesFlat find dev j)
    (lasts : ((j : ℕ) → suc j ≡ last dev → CarriesFlat find dev j) ⊎ LastCarriesFromEqual find dev) (e : State) (typed : IsTypedState dev.table e) (values : HasValues find dev e)
    (linked : ((j : ℕ) → suc j ≡ last dev → CarriesFlat find dev j) ⊎ AllHold find (at_state dev.table e) (map equation (level_at dev (last dev)).links)) where
  inside : (k : ℕ) → k ≤ last dev → k < length dev.levels
  inside k m = let some : 0 < length dev.levels = f.some_level in omega arith

  there : (k : ℕ) (x : State) → HasValues find dev x → AllHold find (at_state dev.table x) (values_at dev k)
  there k x v = elim (is_implementation (level_at dev k)) as (λ c. AllHold find (at_state dev.table x) (cond c (size_equations dev ++ map value_equation dev.values) [])) [ true ↦ true-append find (at_state dev.table x) (size_equations dev) (map value_equation dev.values) (sizes_hold find dev f.sets (at_state dev.table x) refl) v | false ↦ tt ]

  hyps-at : (k : ℕ) (x : State) → IsTypedState dev.table x → HasValues find dev x → AllHold find (at_state dev.table x) (init_hypotheses dev k)
  hyps-at k x t v = true-append find (at_state dev.table x) (properties_of dev (suc k)) (values_at dev k) (flat-if find dev x (λ l. conjuncts l.properties) (suc k) dev.levels (λ j p q. flat-then find dev x (λ l. conjuncts l.properties) (length dev.levels) dev.levels (meet x t v) j q q)) (there k x v)

  from : (k : ℕ) (x : State) → ((n : ℕ) → is_before k (home_of dev n) ≡ true → x n ≡ e n) → HasValues find dev x
  from k x same = values-kept find dev x e (λ n h. same n (constant-before k (home_of dev n) h)) dev.values f.values values

  abbrev inits : ℕ → Substitution
  inits k = (level_at dev k).init

  abbrev no_outputs : ℕ → List ℕ
  no_outputs k = []

  links-same : (k : ℕ) (x : State) → suc k ≡ last dev → ((n : ℕ) → is_before (suc (suc k)) (home_of dev n) ≡ true → x n ≡ e n) → (ls : List (ℕ × ℕ)) → Each (IsLink dev (suc k)) ls → AllHold find (at_state dev.table e) (map equation ls) → AllHold find (at_state dev.table x) (map equation ls)
  links-same k x h same [] w l = tt
  links-same k x h same (p ∷ ls) w l =
      let up : is_variable_above (suc k) (home_of dev p.1) ≡ true = subst (λ j. is_variable_above j (home_of dev p.1) ≡ true) (sym w.0.above.1) w.0.above.2 in
      let low = same p.0 (variable-before (suc (suc k)) (suc k) (omega arith) (home_of dev p.0) w.0.below) in
      let high = same p.1 (above-before (suc (suc k)) (suc k) (omega arith) (home_of dev p.1) up) in
      ((λ i. is_equal (low i) (high i)) ∙ l.0, links-same k x h same ls w.1 l.1)

  carry-opening : (k : ℕ) → suc k ≤ last dev → (x : State) → IsTypedState dev.table x → ((n : ℕ) → is_before (suc (suc k)) (home_of dev n) ≡ true → x n ≡ e n) → Establishes find dev (suc k) (inits (suc k)) x (Answered find dev (suc k) (inits k) [] [])
  carry-opening k m x t same = by_test (nat_lt (suc k) (last dev)) refl
    where
      hyps : AllHold find (at_state dev.table x) (init_hypotheses dev (suc k))
      hyps = hyps-at (suc k) x t (from (suc (suc k)) x same)

      at-last : suc k ≡ last dev → Establishes find dev (suc k) (inits (suc k)) x (Answered find dev (suc k) (inits k) [] [])
      at-last h = elim linked [
        | inl c ↦ (c k h).init x t hyps
        | inr l ↦ elim lasts [
          | inl c ↦ (c k h).init x t hyps
          | inr c ↦ (c.carries k h).init x t hyps (links-same k x h same (level_at dev (suc k)).links (level_fact dev f (suc k) (inside (suc k) m)).links (subst (λ j. AllHold find (at_state dev.table e) (map equation (level_at dev j).links)) (sym h) l))
        ]
      ]

      by_test : (b : Bool) → nat_lt (suc k) (last dev) ≡ b → Establishes find dev (suc k) (inits (suc k)) x (Answered find dev (suc k) (inits k) [] [])
      by_test true q = (carries k (grind (arith, nat_tests))).init x t hyps
      by_test false q = at-last (grind (arith, nat_tests))

  carry-inits : Carry find dev inits no_outputs e
  carry-inits k m x y t same r = (carry-opening k m x t same).results y r

  opening-clean : Clean find dev.table (Some (arrays_of dev)) (inits (last dev)) e
  opening-clean = at (last dev) refl
    where
      arrays-there : (k : ℕ) → last dev ≡ k → arrays_at dev k ≡ Some (arrays_of dev)
      arrays-there k h = ap (λ c. cond c (Some (arrays_of dev)) None) (subst (λ n. is_implementation (level_at dev n) ≡ true) h complete)

      at : (k : ℕ) → last dev ≡ k → Clean find dev.table (Some (arrays_of dev)) (inits k) e
      at zero h = subst (λ z. Clean find dev.table z (inits 0) e) (arrays-there 0 h) (keeps.init e typed (hyps-at 0 e typed values)).clean
      at (suc k) h = subst (λ z. Clean find dev.table z (inits (suc k)) e) (arrays-there (suc k) h) (carry-opening k (omega (arith, h)) e typed (λ n q. refl)).clean

  opening-ends : Ends find dev.table (inits (last dev)) e
  opening-ends = at (last dev) refl
    where
      at : (k : ℕ) → last dev ≡ k → Ends find dev.table (inits k) e
      at zero h = (keeps.init e typed (hyps-at 0 e typed values)).ends
      at (suc k) h = (carry-opening k (omega (arith, h)) e typed (λ n q. refl)).ends

  module _ (top : State) (r : Runs find dev.table (inits (last dev)) e top) where
    w : Climbed find dev inits no_outputs e top zero
    w = climbed find dev f [] inits no_outputs (λ i m. (level_fact dev f i (inside i m)).init) (λ i m. tt) (λ i m. refl) e top carry-inits typed r

    first_fact : IsLevelOf dev 0 (level_at dev 0)
    first_fact = level_fact dev f 0 (inside 0 (omega arith))

    after-invariant : holds find dev.table w.after (level_at dev 0).invariant ≡ true
    after-invariant = (keeps.init w.before w.typed (hyps-at 0 w.before w.typed (from 1 w.before w.same))).results w.after w.runs

    joined-after : (j : ℕ) → j < length dev.levels → AllHold find (at_state dev.table w.after) (joining (level_at dev j))
    joined-after zero h =
        true-append find (at_state dev.table w.after) (conjuncts (level_at dev 0).invariant) (map equation (level_at dev 0).links) (parts-true find (at_state dev.table w.after) (level_at dev 0).invariant after-invariant)
        (subst (λ ls. AllHold find (at_state dev.table w.after) (map equation ls)) (sym (no_links dev (level_at dev 0).links first_fact.links)) tt)
    joined-after (suc j) h = w.joins (suc j) (omega arith) (omega arith)

    ends-opening : EndsOpening find dev e top
    ends-opening = record {
      before = w.before;
      after = w.after;
      typed = w.typed;
      runs = w.runs;
      same = λ n h. w.same n (variable-before 1 0 (omega arith) (home_of dev n) h);
      same_inner = λ n h. w.same n (inner-before 1 0 (omega arith) (home_of dev n) h);
      joined = flat-if find dev w.after joining (length dev.levels) dev.levels (λ j p q. joined-after j p);
      kept = λ n h.
          let v = is_variable_of (last dev) (home_of dev n) in
          let i = is_input (home_of dev n) in
          let u = is_inner_of (last dev) (home_of dev n) in
          w.kept n (or-left (v || i) u (or-left v i h));
      typed_after = run-typed find dev.table f.table (inits 0) first_fact.init.types w.before w.after w.typed w.runs;
    }

  pub is-opened : IsOpened find dev e
  is-opened = record { ends = opening-ends; clean = opening-clean; runs = ends-opening }

pub openings_climb : OpeningsClimb
openings_climb = λ find dev k carries lasts e start. is-opened find dev k.lawful k.complete k.values k.keeps carries (inr lasts) e start.typed start.values (inr start.linked)
