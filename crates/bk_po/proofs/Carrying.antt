-- Where the obligations of a development are valid, the machine keeps its invariant, each level carries the one above, the constants' values
-- meet the properties, and what is stated is defined.
use Rattle.std.proofs.Common.{◌≡◌, ◌<◌, ◌≤◌, ℕ, zero, suc, List, [], ◌∷◌, ◌++◌, map, take, length, refl, sym, ◌∙◌, ap, subst, Bool, true, false, cond, nat_eq, nat_lt, arith}
use Rattle.std.specs.List.{filter, flat_map}
use Rattle.std.proofs.lemmas.Bool.Decides.{nat_tests}
use Rattle.bk_val.specs.CmpLaws.{same_value}
use Rattle.bk_form.specs.Table.{Table, variable_type}
use Rattle.bk_form.specs.Formula.{Formula, binary}
use Rattle.bk_form.specs.Replacement.{looked_up}
use Rattle.bk_form.specs.declared.operator.BinOp.TheVariants.{Imp}
use Rattle.bk_form.specs.Search.{Finder, IsSearch}
use Rattle.bk_form.specs.Environment.{State, at_state, IsTypedState}
use Rattle.bk_form.proofs.Members.{and-both}
use Rattle.bk_gsl.specs.State.{holds, value_at}
use Rattle.bk_gsl.specs.Run.{assigned}
use Rattle.bk_gsl.specs.Typed.{AreTypedTerms}
use Rattle.bk_form.specs.Predicates.{IsPredicate, AllHold, conjuncts, equation}
use Rattle.bk_gsl.proofs.States.{nat_eq-same}
use Rattle.bk_dev.specs.declared.kind.Kind.{Kind}
use Rattle.bk_dev.specs.declared.kind.Kind.TheVariants.{Machine, Refinement, Implementation}
use Rattle.bk_dev.specs.Development.{Level, Development, level_at, body_of, body_at, inputs_of, is_implementing, is_implementation, is_complete, last, with_set_sizes}
use Rattle.bk_dev.specs.Flattened.{flattened}
use Rattle.bk_dev.specs.Hypotheses.{size_equations, value_equation, properties_of, values_at, joining, facts, facts_of, joinings_of, conditions_of, is_number, in_machine_range, input_ranges, init_hypotheses, assertion_hypotheses, body_hypotheses, unasserted_hypotheses}
use Rattle.bk_dev.specs.Facts.{IsValue, IsLink, IsStated, IsKindAt, IsLevelOf, IsLawful, IsFlatDevelopment, OnlyLastIsImplementation, IsDevelopment}
use Rattle.bk_dev.proofs.Sizes.{development-sized, development-whole, sizes_hold}
use Rattle.bk_form.specs.Sized.{with_sizes}
use Rattle.bk_seq.proofs.SizedValidity.{one-each, ones-are-sizes}
use Rattle.bk_form.specs.Each.{Each}
use Rattle.bk_dev.specs.Claims.{ValuesMeet}
use Rattle.bk_wp.proofs.Steps.{implies-then, holds-assign}
use Rattle.bk_form.proofs.Conjuncts.{true-append, true-first, true-second, parts-true}
use Rattle.bk_dev.proofs.Climb.{flat-then, flat-if}
use Rattle.bk_dev.proofs.Levels.{level_fact}
use Rattle.bk_dev.proofs.FlatLevels.{flattened_lawful}
use Rattle.bk_dev.proofs.FlatSame.{levels-many}
use Rattle.bk_po.specs.declared.clause.Clause.{Clause}
use Rattle.bk_po.specs.declared.clause.Clause.TheVariants.{PropertiesDefined, ValuesMeet as ValuesClause, InvariantDefined, AssertionsDefined, AssertionsHold, Initialisation, InitialisationDefined, Operation, OperationDefined}
use Rattle.bk_po.specs.Obligations.{each_after, defined_in_turn, hypotheses_of, goal_of, conjunction, flat_obligations, numbered_sequents, numbered_obligations, AreValid}
use Rattle.bk_seq.specs.Sequents.{split}
use Rattle.bk_po.specs.Laws.{IsCorrect, ValidObligationsCarry, WholeIsCorrect}
use Rattle.bk_po.proofs.Sizes.{sizes_keep_obligations, valid-at}
use Rattle.bk_po.proofs.Lists.{each-so}
use Rattle.bk_po.proofs.Clauses.{Stands}
use Rattle.bk_po.proofs.Splitting.{IsSound, clause-met, split-holds, conjunction-true}
use Rattle.bk_po.proofs.FlatArrays.{complete-same}
use Rattle.bk_po.proofs.MovedValues.{values_moved}
use Rattle.bk_po.specs.Levels.{BoxesHold, ConditionsHold, AreDefinedInTurn, IsWellStated}
use Rattle.bk_wd.specs.Joining.{where_true}
use Rattle.bk_wd.specs.WellDefined.{defined}
use Rattle.bk_wp.proofs.Cleaning.{split as parted, given, predicate-at}
use Rattle.bk_po.proofs.Enough.{boxes_carry}
use Rattle.bk_po.proofs.Conditions.{conditions_are_clean}

-- ---- assertions
module _ (find : Finder) (table : Table) (e : State) where
  after-true : (ps : List Formula) → holds find table e (each_after ps) ≡ true → AllHold find (at_state table e) (flat_map conjuncts ps)
  after-true [] h = tt
  after-true (p ∷ []) h = true-append find (at_state table e) (conjuncts p) [] (parts-true find (at_state table e) p h) tt
  after-true (p ∷ q ∷ qs) h =
      let rest = each_after (q ∷ qs) in
      let both = and-both (holds find table e p) (holds find table e (binary Imp p rest)) h in
      true-append find (at_state table e) (conjuncts p) (flat_map conjuncts (q ∷ qs)) (parts-true find (at_state table e) p both.0) (after-true (q ∷ qs) (implies-then (holds find table e p) (holds find table e rest) both.1 both.0))

  all-parts : (ls : List Level) → AllHold find (at_state table e) (map (λ l. l.properties) ls) → AllHold find (at_state table e) (flat_map (λ l. conjuncts l.properties) ls)
  all-parts [] h = tt
  all-parts (l ∷ ls) h = true-append find (at_state table e) (conjuncts l.properties) (flat_map (λ l. conjuncts l.properties) ls) (parts-true find (at_state table e) l.properties h.0) (all-parts ls h.1)

  -- where the variables have the terms' values, an assignment of the terms changes none
  value-kept : (ps : List (ℕ × Formula)) → AllHold find (at_state table e) (map value_equation ps) → (n : ℕ) → value_at find table e (looked_up ps n) ≡ e n
  value-kept [] h n = refl
  value-kept (p ∷ ps) h n = by_test (value-kept ps h.1 n) (nat_eq n p.0) refl
    where
      by_test : value_at find table e (looked_up ps n) ≡ e n → (b : Bool) → nat_eq n p.0 ≡ b → value_at find table e (cond b p.1 (looked_up ps n)) ≡ e n
      by_test on true k = sym (same_value (e p.0) (value_at find table e p.1) h.0) ∙ ap e (sym (nat_eq-same n p.0 k))
      by_test on false k = on

-- ---- levels
-- the machine is no implementation
machine-kind : (kind : Kind) → IsKindAt 0 kind → is_implementing kind ≡ false
machine-kind Machine h = refl
machine-kind Refinement h = absurd (let less : 0 < 0 = h in omega (arith, less))
machine-kind Implementation h = absurd (let less : 0 < 0 = h in omega (arith, less))

no-links : (find : Finder) (dev : Development) (e : State) (ls : List (ℕ × ℕ)) → Each (IsLink dev 0) ls → AllHold find (at_state dev.table e) (map equation ls)
no-links find dev e [] h = tt
no-links find dev e (l ∷ ls) h = absurd (let same : 0 ≡ suc h.0.above.0 = h.0.above.1 in omega (arith, same))

values-typed : (dev : Development) (ps : List (ℕ × Formula)) → Each (IsValue dev) ps → AreTypedTerms dev.table ps
values-typed dev [] h = tt
values-typed dev (p ∷ ps) h = (h.0.of_type, values-typed dev ps h.1)

-- ---- the claims
module _ (find : Finder) (law : IsSearch find) (dev : Development) (f : IsLawful dev) (only : OnlyLastIsImplementation dev) (valid : AreValid dev.table (numbered_sequents (flat_obligations dev))) where
  fact : (k : ℕ) → k < length dev.levels → IsLevelOf dev k (level_at dev k)
  fact k h = level_fact dev f k h

  -- ---- what the obligations say
  meets : (hyps : List Formula) (goal : Formula) → Each (IsSound dev.table) (split hyps goal) → (e : State) → IsTypedState dev.table e → AllHold find (at_state dev.table e) hyps → holds find dev.table e goal ≡ true
  meets hyps goal m e t h = split-holds find law dev.table e t hyps goal m h

  -- of one clause
  says : (k : ℕ) → k < length dev.levels → (c : Clause) → Stands dev k c → (e : State) → IsTypedState dev.table e → AllHold find (at_state dev.table e) (hypotheses_of dev k c) → holds find dev.table e (goal_of dev k c) ≡ true
  says k h c s e t hyps = meets (hypotheses_of dev k c) (goal_of dev k c) (clause-met dev valid k h c s) e t hyps

  assertions-hold : (k : ℕ) → k < length dev.levels → (e : State) → IsTypedState dev.table e → AllHold find (at_state dev.table e) (assertion_hypotheses dev k) → AllHold find (at_state dev.table e) (flat_map conjuncts (level_at dev k).assertions)
  assertions-hold k h e t hyps = after-true find dev.table e (level_at dev k).assertions (says k h AssertionsHold tt e t hyps)

  -- ---- hypotheses
  no-values : (k : ℕ) → is_implementation (level_at dev k) ≡ false → (e : State) → AllHold find (at_state dev.table e) (values_at dev k)
  no-values k i e = subst (λ x. AllHold find (at_state dev.table e) (cond x (size_equations dev ++ map value_equation dev.values) [])) (sym i) tt

  no-ranges : (k o : ℕ) → is_implementation (level_at dev k) ≡ false → (e : State) → AllHold find (at_state dev.table e) (input_ranges dev k o)
  no-ranges k o i e = subst (λ x. AllHold find (at_state dev.table e) (cond x (map (in_machine_range dev) (filter (λ x. is_number (variable_type dev.table x)) (inputs_of dev o))) [])) (sym i) tt

  -- at a level where the invariants and links down to it are true, so are the assertions
  module _ (k : ℕ) (h : k < length dev.levels) (e : State) (t : IsTypedState dev.table e) (begins : AllHold find (at_state dev.table e) (init_hypotheses dev k)) (joined : (j : ℕ) → j < suc k → AllHold find (at_state dev.table e) (joining (level_at dev j))) where
    values-there : (n : ℕ) → n < suc k → AllHold find (at_state dev.table e) (values_at dev n)
    values-there n p = by_test (nat_lt n k) refl
      where
        by_test : (x : Bool) → nat_lt n k ≡ x → AllHold find (at_state dev.table e) (values_at dev n)
        by_test true q = let more : n < k = grind (arith, nat_tests) in no-values n (only n (omega (arith, more, h))) e
        by_test false q = let same : k ≡ n = grind (arith, nat_tests) in subst (λ m. AllHold find (at_state dev.table e) (values_at dev m)) same (true-second find (at_state dev.table e) (properties_of dev (suc k)) (values_at dev k) begins)

    properties-there : (n : ℕ) → n < suc k → AllHold find (at_state dev.table e) (properties_of dev (suc n))
    properties-there n p =
        let all = true-first find (at_state dev.table e) (properties_of dev (suc k)) (values_at dev k) begins in
        flat-if find dev e (λ l. conjuncts l.properties) (suc n) dev.levels (λ j q r. flat-then find dev e (λ l. conjuncts l.properties) (suc k) dev.levels all j (omega (arith, p, q)) r)

    facts-there : (n : ℕ) → n ≤ suc k → (j : ℕ) → j < n → AllHold find (at_state dev.table e) (facts (level_at dev j))
    facts-there zero p j q = absurd (omega (arith, q))
    facts-there (suc n) p j q = by_test (facts-there n (omega (arith, p))) (nat_lt j n) refl
      where
        here : ((i : ℕ) → i < n → AllHold find (at_state dev.table e) (facts (level_at dev i))) → AllHold find (at_state dev.table e) (facts (level_at dev n))
        here above =
            let less : n < suc k = omega (arith, p) in
            let known : AllHold find (at_state dev.table e) (facts_of dev n) = flat-if find dev e facts n dev.levels (λ i q r. above i q) in
            let first = true-append find (at_state dev.table e) (properties_of dev (suc n)) (values_at dev n) (properties-there n less) (values-there n less) in
            let more = true-append find (at_state dev.table e) (properties_of dev (suc n) ++ values_at dev n) (facts_of dev n) first known in
            let all = true-append find (at_state dev.table e) (properties_of dev (suc n) ++ values_at dev n ++ facts_of dev n) (joining (level_at dev n)) more (joined n less) in
            true-append find (at_state dev.table e) (joining (level_at dev n)) (flat_map conjuncts (level_at dev n).assertions) (joined n less) (assertions-hold n (omega (arith, less, h)) e t all)

        by_test : ((i : ℕ) → i < n → AllHold find (at_state dev.table e) (facts (level_at dev i))) → (x : Bool) → nat_lt j n ≡ x → AllHold find (at_state dev.table e) (facts (level_at dev j))
        by_test above true r = above j (grind (arith, nat_tests))
        by_test above false r = let same : n ≡ j = grind (arith, nat_tests) in subst (λ i. AllHold find (at_state dev.table e) (facts (level_at dev i))) same (here above)

    facts-known : AllHold find (at_state dev.table e) (facts_of dev (suc k))
    facts-known = flat-if find dev e facts (suc k) dev.levels (λ j q r. facts-there (suc k) (omega arith) j q)

  body-hyps : (k : ℕ) → k < length dev.levels → (o : ℕ) (e : State) → IsTypedState dev.table e → AllHold find (at_state dev.table e) (unasserted_hypotheses dev k o) → AllHold find (at_state dev.table e) (body_hypotheses dev k o)
  body-hyps k h o e t hyps =
      let table = dev.table in
      let before = init_hypotheses dev k ++ joinings_of dev (suc k) in
      let ranged = true-second find (at_state table e) (before ++ conditions_of dev k o) (input_ranges dev k o) hyps in
      let unranged = true-first find (at_state table e) (before ++ conditions_of dev k o) (input_ranges dev k o) hyps in
      let conditioned = true-second find (at_state table e) before (conditions_of dev k o) unranged in
      let first = true-first find (at_state table e) before (conditions_of dev k o) unranged in
      let begins = true-first find (at_state table e) (init_hypotheses dev k) (joinings_of dev (suc k)) first in
      let joined = true-second find (at_state table e) (init_hypotheses dev k) (joinings_of dev (suc k)) first in
      let known = facts-known k h e t begins (λ j q. flat-then find dev e joining (suc k) dev.levels joined j q (omega (arith, q, h))) in
      let more = true-append find (at_state table e) (init_hypotheses dev k ++ facts_of dev (suc k)) (conditions_of dev k o) (true-append find (at_state table e) (init_hypotheses dev k) (facts_of dev (suc k)) begins known) conditioned in
      true-append find (at_state table e) (init_hypotheses dev k ++ facts_of dev (suc k) ++ conditions_of dev k o) (input_ranges dev k o) more ranged

  -- at the machine
  machine-only : is_implementation (level_at dev 0) ≡ false
  machine-only = machine-kind (level_at dev 0).kind (fact 0 f.some_level).kind

  machine-begins : (e : State) → AllHold find (at_state dev.table e) (properties_of dev 1) → AllHold find (at_state dev.table e) (init_hypotheses dev 0)
  machine-begins e h = true-append find (at_state dev.table e) (properties_of dev 1) (values_at dev 0) h (no-values 0 machine-only e)

  machine-facts : (e : State) → IsTypedState dev.table e → AllHold find (at_state dev.table e) (properties_of dev 1) → holds find dev.table e (level_at dev 0).invariant ≡ true → AllHold find (at_state dev.table e) (facts_of dev 1)
  machine-facts e t h i =
      let l = level_at dev 0 in
      let joined = true-append find (at_state dev.table e) (conjuncts l.invariant) (map equation l.links) (parts-true find (at_state dev.table e) l.invariant i) (no-links find dev e l.links (fact 0 f.some_level).links) in
      facts-known 0 f.some_level e t (machine-begins e h) (λ j q. let same : 0 ≡ j = omega (arith, q) in subst (λ j. AllHold find (at_state dev.table e) (joining (level_at dev j))) same joined)

  -- under the preconditions of the first n levels
  machine-hyps : (n o : ℕ) (e : State) → IsTypedState dev.table e → AllHold find (at_state dev.table e) (properties_of dev 1) → holds find dev.table e (level_at dev 0).invariant ≡ true → AllHold find (at_state dev.table e) (conditions_of dev n o) → AllHold find (at_state dev.table e) (init_hypotheses dev 0 ++ facts_of dev 1 ++ conditions_of dev n o ++ input_ranges dev 0 o)
  machine-hyps n o e t h i c =
      let known = true-append find (at_state dev.table e) (init_hypotheses dev 0) (facts_of dev 1) (machine-begins e h) (machine-facts e t h i) in
      let more = true-append find (at_state dev.table e) (init_hypotheses dev 0 ++ facts_of dev 1) (conditions_of dev n o) known c in
      true-append find (at_state dev.table e) (init_hypotheses dev 0 ++ facts_of dev 1 ++ conditions_of dev n o) (input_ranges dev 0 o) more (no-ranges 0 o machine-only e)

  no-conditions : (o : ℕ) (e : State) → AllHold find (at_state dev.table e) (conditions_of dev 0 o)
  no-conditions o e = flat-if find dev e (λ l. conjuncts (body_of l o).condition) 0 dev.levels (λ j q r. absurd (omega (arith, q)))

  own-condition : (o : ℕ) (e : State) → holds find dev.table e (body_at dev 0 o).condition ≡ true → AllHold find (at_state dev.table e) (conditions_of dev 1 o)
  own-condition o e c = flat-if find dev e (λ l. conjuncts (body_of l o).condition) 1 dev.levels (λ j q r. let same : 0 ≡ j = omega (arith, q) in subst (λ j. AllHold find (at_state dev.table e) (conjuncts (body_at dev j o).condition)) same (parts-true find (at_state dev.table e) (body_at dev 0 o).condition c))

  -- ---- boxes and conditions
  pub boxes-hold : BoxesHold find dev
  boxes-hold = record {
    inits = λ k h e t hyps. says k h Initialisation tt e t hyps;
    machine = λ o l e s c. says 0 f.some_level (Operation o) l e s.typed (machine-hyps 1 o e s.typed s.properties s.invariant (own-condition o e c));
    operations = λ j h o l e t hyps. says (suc j) h (Operation o) l e t (body-hyps (suc j) h o e t hyps);
  }

  pub conditions-hold : ConditionsHold find dev
  conditions-hold = record {
    inits = λ k h e t hyps. says k h InitialisationDefined tt e t hyps;
    machine = λ o l e s. says 0 f.some_level (OperationDefined o) l e s.typed (machine-hyps 0 o e s.typed s.properties s.invariant (no-conditions o e));
    operations = λ j h o l e t hyps. says (suc j) h (OperationDefined o) l e t (body-hyps (suc j) h o e t hyps);
  }

  -- ---- the constants' values
  pub values-meet : is_complete dev ≡ true → ValuesMeet find dev
  values-meet complete e t h =
      let some : 0 < length dev.levels = f.some_level in
      let all : suc (last dev) ≡ length dev.levels = omega (arith, some) in
      let levels = take (suc (last dev)) dev.levels in
      let goal = conjunction (map (λ l. l.properties) levels) in
      let replaced = sym (holds-assign find dev.table dev.values (values-typed dev dev.values f.values) e goal) ∙ says (last dev) (omega (arith, some)) ValuesClause complete e t (sizes_hold find dev f.sets (at_state dev.table e) refl) in
      let same : assigned find dev.table dev.values e ≡ e = λ i n. value-kept find dev.table e dev.values h n i in
      let true-there : holds find dev.table e goal ≡ true = subst (λ g. holds find dev.table g goal ≡ true) same replaced in
      subst (λ n. AllHold find (at_state dev.table e) (properties_of dev n)) all (all-parts find dev.table e levels (conjunction-true find dev.table e (map (λ l. l.properties) levels) true-there))

  -- ---- what is stated
  in-turn : (e : State) → IsTypedState dev.table e → (ps : List Formula) → Each (IsPredicate dev.table) ps → holds find dev.table e (defined_in_turn dev.table ps) ≡ true → AreDefinedInTurn find dev e ps
  in-turn e t [] w h = tt
  in-turn e t (p ∷ ps) w h =
      let both = parted find law dev.table f.table e (defined dev.table [] p) (where_true p (defined_in_turn dev.table ps)) h in
      (predicate-at find law dev.table f.table e t p w.0 both.0, λ k. in-turn e t ps w.1 (given find law dev.table f.table e p (defined_in_turn dev.table ps) both.1 k))

  pub stated : IsWellStated find dev
  stated = record {
    properties = λ k h e t hyps. predicate-at find law dev.table f.table e t (level_at dev k).properties (fact k h).properties (says k h PropertiesDefined tt e t hyps);
    invariants = λ k h e t hyps. predicate-at find law dev.table f.table e t (level_at dev k).invariant (fact k h).invariant.is_predicate (says k h InvariantDefined tt e t hyps);
    assertions = λ k h e t hyps.
        let predicates = each-so (IsStated dev k) (IsPredicate dev.table) (level_at dev k).assertions (λ p w. w.is_predicate) (fact k h).assertions in
        (in-turn e t (level_at dev k).assertions predicates (says k h AssertionsDefined tt e t hyps), assertions-hold k h e t hyps);
  }

-- of sets with sizes
valid-here : (find : Finder) → IsSearch find → (dev : Development) → IsDevelopment dev → AreValid (flattened dev).table (numbered_obligations dev) → IsCorrect find dev
valid-here find law dev d valid =
    let flat : Development = flattened dev in
    let f : IsLawful flat = flattened_lawful.every dev d in
    let only : OnlyLastIsImplementation flat = flattened_lawful.only_last dev d.only_last in
    let levels : IsFlatDevelopment flat = flattened_lawful.flat dev in
    let boxes = boxes-hold find law flat f only valid in
    let carried = boxes_carry find law flat (record { lawful = f; only_last = only; flat = levels }) boxes
    (conditions_are_clean find law flat (record { lawful = f; only_last = only; flat = levels }) boxes (conditions-hold find law flat f only valid)) in
    record {
      keeps = carried.keeps;
      carries = λ j h. carried.carries j (subst (λ n. suc j < n) (sym (levels-many (length dev.table.variables) dev.levels)) h);
      values = λ complete. values_moved dev d (λ g l. values-meet g l flat f only valid (complete-same dev d.lawful ∙ complete)) find law;
      stated = stated find law flat f only valid;
    }

pub valid_obligations_carry : ValidObligationsCarry
valid_obligations_carry find law dev d valid sizes p =
    let here = valid-at sizes p (flattened dev).table (numbered_obligations dev) valid in
    valid-here find law (with_set_sizes sizes dev) (development-sized sizes dev p d) (subst (AreValid (with_sizes sizes (flattened dev).table)) (sym (sizes_keep_obligations sizes dev d)) here)

pub whole_is_correct : WholeIsCorrect
whole_is_correct find dev d c h = subst (IsCorrect find) (development-whole one-each dev d c) (h one-each ones-are-sizes)
