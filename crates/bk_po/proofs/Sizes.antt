-- The obligations of a development are the same whatever sizes its deferred sets get.
use Rattle.std.proofs.Common.{◌≡◌, ◌<◌, ℕ, zero, suc, List, [], ◌∷◌, ◌++◌, map, length, refl, sym, ◌∙◌, ap, subst, Bool, true, false, cond, arith, Some, None}
use Rattle.std.specs.Prelude.{slice_index_or, nat_lt, ◌≤◌}
use Rattle.std.proofs.lemmas.Bool.Decides.{nat_tests}
use Rattle.std.specs.List.{flat_map}
use Rattle.bk_val.specs.ValueType.{ValueType, set_type, pair_type}
use Rattle.bk_form.specs.Table.{Table, IsWellFormed}
use Rattle.bk_form.specs.Formula.{Formula, variable, bound, literal, truth_value, element, empty_set, named, btrue, bfalse, unary, binary, for_all, for_some, comprehension, lambda, Formulas, no_formulas, formula_and}
use Rattle.bk_form.specs.Role.{Role, gives, predicate, if_predicate, if_value, role, roles, bind, are_ranges, element_types, tuple_type, all_listed}
use Rattle.bk_form.specs.Replacement.{count, replaced, looked_up}
use Rattle.bk_form.specs.declared.operator.UnOp.TheVariants.{Not}
use Rattle.bk_form.specs.declared.operator.BinOp.TheVariants.{And, Or, Imp, Lt, In}
use Rattle.bk_form.specs.declared.operator.Domain.TheVariants.{Natural}
use Rattle.bk_form.specs.Predicates.{IsPredicate}
use Rattle.bk_form.specs.Each.{Each}
use Rattle.bk_form.specs.Wider.{IsTypedRole}
use Rattle.bk_form.specs.Sized.{with_sizes, AreSizes}
use Rattle.bk_form.proofs.Operands.{holds-op, predicate-op, value-op, unary-op, binary-op}
use Rattle.bk_form.proofs.Sizing.{EachTypes, ranges-type, role-sized, roles-sized}
use Rattle.bk_gsl.specs.Substitution.{Substitution, skip, assign, pre, guard, choice, if_else, any, seq, par, assert, becomes_such, loop}
use Rattle.bk_gsl.specs.State.{firsts}
use Rattle.bk_gsl.specs.Writes.{writes}
use Rattle.bk_gsl.specs.Typed.{AreTypedTerms, AreTypedPairs, Types as GslTypes}
use Rattle.bk_seq.specs.Sequents.{Sequent, IsValidForAllSizes}
use Rattle.bk_wd.specs.Joining.{both, where_true, all_over}
use Rattle.bk_wd.specs.Operands.{right_met, sides_asked}
use Rattle.bk_wd.specs.WellDefined.{unary_own, binary_own, all_in_ranges, defined, all_defined}
use Rattle.bk_wp.specs.Quantifiers.{types_of, all_of, some_of, all_written}
use Rattle.bk_wp.specs.Box.{new_values, all_new, some_new, loop_box, variant_before, box, diamond}
use Rattle.bk_wp.specs.Guarded.{over_variables, over_written, box_where, evaluated, evaluated_onto, such_condition, loop_condition, guarded}
use Rattle.bk_wp.proofs.Predicates.{new-role}
use Rattle.bk_dev.specs.Development.{Head, Body, Level, Development, level_at, body_at, is_implementation, is_complete, is_btrue, last, whole, with_set_sizes}
use Rattle.bk_dev.specs.Flattened.{flattened}
use Rattle.bk_dev.specs.Layout.{arrays_of}
use Rattle.bk_dev.specs.Hypotheses.{size_equations, values_at, properties_of, joining, facts_of, conditions_of, input_ranges, init_hypotheses}
use Rattle.bk_dev.specs.Facts.{IsLawful, OnlyLastIsImplementation, IsDevelopment}
use Rattle.bk_dev.specs.Claims.{arrays_at}
use Rattle.bk_dev.proofs.Sizes.{development-sized, development-whole}
use Rattle.bk_po.specs.declared.clause.Clause.{Clause}
use Rattle.bk_po.specs.declared.clause.Clause.TheVariants.{PropertiesDefined, ValuesMeet, InvariantDefined, AssertionsDefined, AssertionsHold, Initialisation, InitialisationDefined, Operation, OperationDefined}
use Rattle.bk_po.specs.Obligations.{Obligation, numbers_below, defined_in_turn, init_goal, operation_goal, evaluation_goal, values_goal, joining_goal, hypotheses_of, goal_of, clause_name, clauses_of, obligation, obligation_of, level_obligations, flat_obligations, numbered_sequents, numbered_obligations, AreValid, AreValidForAllSizes}
use Rattle.bk_po.specs.FlatFacts.{IsFlattened}
use Rattle.bk_po.specs.Laws.{SizesKeepObligations}
use Rattle.bk_po.proofs.Clauses.{Stands, each-clause}
use Rattle.bk_po.proofs.FlatStands.{flattened_stands}
use Rattle.bk_po.proofs.FlatArrays.{complete-same}
use Rattle.bk_po.proofs.Lists.{below-each}
use Rattle.bk_po.proofs.TypedGoals.{fact, whole-types, stated}

-- ---- lists
map-same : {A B : Type 0} (f g : A → B) (xs : List A) → Each (λ x. f x ≡ g x) xs → map f xs ≡ map g xs
map-same f g [] h = refl
map-same f g (x ∷ xs) h = λ i. h.0 i ∷ map-same f g xs h.1 i

flat-same : {A B : Type 0} (f g : A → List B) (xs : List A) → Each (λ x. f x ≡ g x) xs → flat_map f xs ≡ flat_map g xs
flat-same f g [] h = refl
flat-same f g (x ∷ xs) h = λ i. h.0 i ++ flat-same f g xs h.1 i

-- ---- formulas
module _ (sizes : ℕ → ℕ) (table : Table) where
  abbrev sized : Table
  sized = with_sizes sizes table

  mutual
    pub defined-sized : (around : List ValueType) (f : Formula) → IsTypedRole (role table around f) → defined sized around f ≡ defined table around f
    defined-sized around (unary o a) h = ap (λ x. both x (unary_own o a)) (defined-sized around a (unary-op o (role table around a) h))
    defined-sized around (binary o a b) h =
        let k = binary-op o (role table around a) (role table around b) h in
        λ i. both (sides_asked (right_met o) a (defined-sized around a k.0 i) (defined-sized around b k.1 i)) (binary_own o (role-sized sizes table around a k.0 i) a b)
    defined-sized around (for_all ts p) h =
        let body = role table (bind ts around) p in
        let k = holds-op (all_listed table ts) (if_predicate predicate body) h in
        ap (all_over ts) (defined-sized (bind ts around) p (predicate-op predicate body k.1).0)
    defined-sized around (for_some ts p) h =
        let body = role table (bind ts around) p in
        let k = holds-op (all_listed table ts) (if_predicate predicate body) h in
        ap (all_over ts) (defined-sized (bind ts around) p (predicate-op predicate body k.1).0)
    defined-sized around (comprehension rs p) h =
        let rr = roles table around rs in
        let ts = element_types rr in
        let k = holds-op (are_ranges rr) (if_predicate (gives (set_type (tuple_type ts))) (role table (bind ts around) p)) h in
        let n = (predicate-op (gives (set_type (tuple_type ts))) (role table (bind ts around) p) k.1).0 in
        let r = ranges-type rr k.0 in
        ap (λ x. both (all_defined sized around btrue rs) (all_in_ranges (count rs) (element_types x) rs (defined sized (bind (element_types x) around) p))) (roles-sized sizes table around rs r)
        ∙ λ i. both (all-sized around btrue rs r i) (all_in_ranges (count rs) ts rs (defined-sized (bind ts around) p n i))
    defined-sized around (lambda rs p v) h =
        let rr = roles table around rs in
        let ts = element_types rr in
        let image = role table (bind ts around) v in
        let body = role table (bind ts around) p in
        let k = holds-op (are_ranges rr) (if_predicate (if_value (λ u. gives (set_type (pair_type (tuple_type ts) u))) image) body) h in
        let n = predicate-op (if_value (λ u. gives (set_type (pair_type (tuple_type ts) u))) image) body k.1 in
        let q = (value-op (λ u. gives (set_type (pair_type (tuple_type ts) u))) image n.1).0 in
        let r = ranges-type rr k.0 in
        ap (λ x. both (all_defined sized around btrue rs) (all_in_ranges (count rs) (element_types x) rs (both (defined sized (bind (element_types x) around) p) (where_true p (defined sized (bind (element_types x) around) v))))) (roles-sized sizes table around rs r)
        ∙ λ i. both (all-sized around btrue rs r i) (all_in_ranges (count rs) ts rs (both (defined-sized (bind ts around) p n.0 i) (where_true p (defined-sized (bind ts around) v q i))))
    defined-sized around _ h = refl

    all-sized : (around : List ValueType) (f : Formula) (rs : Formulas) → EachTypes (roles table around rs) → all_defined sized around f rs ≡ all_defined table around f rs
    all-sized around f no_formulas h = refl
    all-sized around f (formula_and r rs) h = ap (λ x. all_defined sized around (both f x) rs) (defined-sized around r h.0) ∙ all-sized around (both f (defined table around r)) rs h.1

  pub predicate-defined : (p : Formula) → IsPredicate table p → defined sized [] p ≡ defined table [] p
  predicate-defined p h = defined-sized [] p (subst IsTypedRole (sym h) tt)

  pub in-turn-sized : (ps : List Formula) → Each (IsPredicate table) ps → defined_in_turn sized ps ≡ defined_in_turn table ps
  in-turn-sized [] h = refl
  in-turn-sized (p ∷ ps) h = λ i. both (predicate-defined p h.0 i) (where_true p (in-turn-sized ps h.1 i))

  -- ---- substitutions
  written-sized : (xs : List ℕ) (f : Formula) → all_written sized xs f ≡ all_written table xs f
  written-sized [] f = refl
  written-sized (x ∷ xs) f = refl

  loop-sized : (xs : List ℕ) (p i v r body falls : Formula) → loop_box sized xs p i v r body falls ≡ loop_box table xs p i v r body falls
  loop-sized xs p i v r body falls =
      λ j. binary And (binary And (binary And (binary And i
      (written-sized xs (binary Imp (binary And i p) body) j))
      (written-sized xs (binary Imp (binary And i p) (binary In v (named Natural))) j))
      (written-sized xs (binary Imp (binary And i p) (replaced (looked_up ((variant_before table, v) ∷ [])) falls)) j))
      (written-sized xs (binary Imp (binary And i (unary Not p)) r) j)

  pub box-sized : (s : Substitution) (r : Formula) → box sized s r ≡ box table s r
  box-sized skip r = refl
  box-sized (assign ps) r = refl
  box-sized (pre p s) r = λ i. binary And p (box-sized s r i)
  box-sized (guard p s) r = λ i. binary Imp p (box-sized s r i)
  box-sized (choice s t) r = λ i. binary And (box-sized s r i) (box-sized t r i)
  box-sized (if_else p s t) r =
      λ i. binary And (binary Imp p (box-sized s r i)) (binary Imp (unary Not p) (box-sized t r i))
  box-sized (any zs s) r = ap (all_of table zs) (box-sized s r)
  box-sized (seq s t) r = ap (box sized s) (box-sized t r) ∙ box-sized s (box table t r)
  box-sized (assert p s) r = λ i. binary And p (binary Imp p (box-sized s r i))
  box-sized (becomes_such xs p) r = refl
  box-sized (loop p s i v) r =
      loop-sized (writes s) p i v r (box sized s i) (box sized s (binary Lt v (variable (variant_before table))))
      ∙ λ j. loop_box table (writes s) p i v r (box-sized s i j) (box-sized s (binary Lt v (variable (variant_before table))) j)
  box-sized (par s t) r = refl

  pub diamond-sized : (s : Substitution) (r : Formula) → diamond sized s r ≡ diamond table s r
  diamond-sized skip r = refl
  diamond-sized (assign ps) r = refl
  diamond-sized (pre p s) r = λ i. binary Imp p (diamond-sized s r i)
  diamond-sized (guard p s) r = λ i. binary And p (diamond-sized s r i)
  diamond-sized (choice s t) r = λ i. binary Or (diamond-sized s r i) (diamond-sized t r i)
  diamond-sized (if_else p s t) r =
      λ i. binary Or (binary And p (diamond-sized s r i)) (binary And (unary Not p) (diamond-sized t r i))
  diamond-sized (any zs s) r = ap (some_of table zs) (diamond-sized s r)
  diamond-sized (seq s t) r = ap (diamond sized s) (diamond-sized t r) ∙ diamond-sized s (diamond table t r)
  diamond-sized (assert p s) r = λ i. binary Imp p (binary And p (diamond-sized s r i))
  diamond-sized (becomes_such xs p) r = refl
  diamond-sized (par s t) r = refl
  diamond-sized (loop p s i v) r = refl

  terms-sized : (f : Formula) (ps : List (ℕ × Formula)) → AreTypedTerms table ps → evaluated_onto sized None f ps ≡ evaluated_onto table None f ps
  terms-sized f [] h = refl
  terms-sized f (p ∷ ps) h =
      ap (λ x. evaluated_onto sized None (both f x) ps) (defined-sized [] p.1 (subst IsTypedRole (sym h.0.2) tt)) ∙ terms-sized (both f (defined table [] p.1)) ps h.1

  box-where-sized : (s : Substitution) (q : Formula) → box_where sized s q ≡ box_where table s q
  box-where-sized s btrue = refl
  box-where-sized s q = box-sized s q

  over-sized : (zs : List ℕ) (f : Formula) → over_variables sized zs f ≡ over_variables table zs f
  over-sized zs btrue = refl
  over-sized zs f = refl

  over-written-sized : (zs : List ℕ) (f : Formula) → over_written sized zs f ≡ over_written table zs f
  over-written-sized zs btrue = refl
  over-written-sized zs f = written-sized zs f

  module _ (well : IsWellFormed table) where
    such-sized : (xs : List (ℕ × ℕ)) (p : Formula) → AreTypedPairs table xs → IsPredicate table p → such_condition sized xs p ≡ such_condition table xs p
    such-sized xs p w h =
        let ts = types_of table (firsts xs) in
        ap (all_over ts) (defined-sized (bind ts []) (new_values xs p) (subst IsTypedRole (sym (new-role table well xs p w h)) tt))

    pub guarded-sized : (s : Substitution) → GslTypes table s → guarded sized None s ≡ guarded table None s
    guarded-sized skip h = refl
    guarded-sized (assign ps) h = terms-sized btrue ps h
    guarded-sized (pre p s) h = λ i. both (predicate-defined p h.0 i) (where_true p (guarded-sized s h.1 i))
    guarded-sized (guard p s) h = λ i. both (predicate-defined p h.0 i) (where_true p (guarded-sized s h.1 i))
    guarded-sized (choice s t) h = λ i. both (guarded-sized s h.0 i) (guarded-sized t h.1 i)
    guarded-sized (if_else p s t) h = λ i. both (both (predicate-defined p h.0 i) (where_true p (guarded-sized s h.1 i))) (where_true (unary Not p) (guarded-sized t h.2 i))
    guarded-sized (any zs s) h = over-sized zs (guarded sized None s) ∙ ap (over_variables table zs) (guarded-sized s h.1)
    guarded-sized (seq s t) h =
        (λ i. both (guarded-sized s h.0 i) (box-where-sized s (guarded sized None t) i)) ∙ ap (λ x. both (guarded table None s) (box_where table s x)) (guarded-sized t h.1)
    guarded-sized (assert p s) h = λ i. both (predicate-defined p h.0 i) (where_true p (guarded-sized s h.1 i))
    guarded-sized (becomes_such xs p) h = such-sized xs p h.0 h.1
    guarded-sized (loop p s i v) h =
        let xs = writes s in
        let variant = defined-sized [] v (subst IsTypedRole (sym h.3) tt) in
        let inner = where_true i (both (defined sized [] p) (where_true p (both (guarded sized None s) (defined sized [] v)))) in
        (λ j. both (over-written-sized xs (defined sized [] i) j) (over-written-sized xs inner j))
        ∙ λ j. both (over_written table xs (predicate-defined i h.2 j)) (over_written table xs (where_true i (both (predicate-defined p h.0 j) (where_true p (both (guarded-sized s h.1 j) (variant j))))))
    guarded-sized (par s t) h = refl

-- ---- developments without an implementation
module _ (sizes : ℕ → ℕ) (dev : Development) (f : IsFlattened dev) (none : (k : ℕ) → is_implementation (level_at dev k) ≡ false) where
  abbrev big : Development
  big = with_set_sizes sizes dev

  values-sized : (k : ℕ) → values_at big k ≡ values_at dev k
  values-sized k =
      ap (λ b. cond b (size_equations big ++ map Rattle.bk_dev.specs.Hypotheses.value_equation dev.values) []) (none k)
      ∙ ap (λ b. cond b (size_equations dev ++ map Rattle.bk_dev.specs.Hypotheses.value_equation dev.values) []) (sym (none k))

  init-sized : (k : ℕ) → init_hypotheses big k ≡ init_hypotheses dev k
  init-sized k = ap (λ vs. properties_of dev (suc k) ++ vs) (values-sized k)

  -- clauses of what stands
  hypotheses-sized : (k : ℕ) (c : Clause) → Stands dev k c → hypotheses_of big k c ≡ hypotheses_of dev k c
  hypotheses-sized k PropertiesDefined s = refl
  hypotheses-sized k ValuesMeet s = let never : false ≡ true = sym (none k) ∙ s in absurd (cc)
  hypotheses-sized k InvariantDefined s = ap (λ vs. properties_of dev (suc k) ++ vs ++ facts_of dev k) (values-sized k)
  hypotheses-sized k AssertionsDefined s = ap (λ vs. (properties_of dev (suc k) ++ vs ++ facts_of dev k) ++ joining (level_at dev k)) (values-sized k)
  hypotheses-sized k AssertionsHold s = ap (λ vs. (properties_of dev (suc k) ++ vs ++ facts_of dev k) ++ joining (level_at dev k)) (values-sized k)
  hypotheses-sized k Initialisation s = init-sized k
  hypotheses-sized k InitialisationDefined s = init-sized k
  hypotheses-sized zero (Operation o) s = ap (λ hs. hs ++ facts_of dev 1 ++ conditions_of dev 1 o ++ input_ranges dev 0 o) (init-sized 0)
  hypotheses-sized (suc k) (Operation o) s = ap (λ hs. hs ++ facts_of dev (suc (suc k)) ++ conditions_of dev (suc k) o ++ input_ranges dev (suc k) o) (init-sized (suc k))
  hypotheses-sized k (OperationDefined o) s = ap (λ hs. hs ++ facts_of dev (suc k) ++ conditions_of dev k o ++ input_ranges dev k o) (init-sized k)

  boxed-sized : (s t : Substitution) (r : Formula) → box big.table s (diamond big.table t r) ≡ box dev.table s (diamond dev.table t r)
  boxed-sized s t r = box-sized sizes dev.table s (diamond big.table t r) ∙ ap (box dev.table s) (diamond-sized sizes dev.table t r)

  init-goal-sized : (k : ℕ) → init_goal big k ≡ init_goal dev k
  init-goal-sized zero = box-sized sizes dev.table (level_at dev 0).init (level_at dev 0).invariant
  init-goal-sized (suc j) = boxed-sized (level_at dev (suc j)).init (level_at dev j).init (joining_goal dev (suc j) [] [])

  operation-goal-sized : (k o : ℕ) → operation_goal big k o ≡ operation_goal dev k o
  operation-goal-sized zero o = box-sized sizes dev.table (body_at dev 0 o).sub (level_at dev 0).invariant
  operation-goal-sized (suc j) o = boxed-sized (whole (body_at dev (suc j) o)) (body_at dev j o).sub (joining_goal dev (suc j) (body_at dev (suc j) o).outputs (body_at dev j o).outputs)

  evaluation-sized : (k : ℕ) (s : Substitution) → GslTypes dev.table s → evaluation_goal big k s ≡ evaluation_goal dev k s
  evaluation-sized k s h =
      ap (λ b. guarded big.table (cond b (Some (arrays_of big)) None) s) (none k)
      ∙ guarded-sized sizes dev.table f.lawful.table s h
      ∙ ap (λ b. guarded dev.table (cond b (Some (arrays_of dev)) None) s) (sym (none k))

  goal-sized : (k : ℕ) → k < length dev.levels → (c : Clause) → Stands dev k c → goal_of big k c ≡ goal_of dev k c
  goal-sized k h PropertiesDefined s = predicate-defined sizes dev.table (level_at dev k).properties (fact dev f k h).properties
  goal-sized k h ValuesMeet s = refl
  goal-sized k h InvariantDefined s = predicate-defined sizes dev.table (level_at dev k).invariant (fact dev f k h).invariant.is_predicate
  goal-sized k h AssertionsDefined s = in-turn-sized sizes dev.table (level_at dev k).assertions (stated dev f k h)
  goal-sized k h AssertionsHold s = refl
  goal-sized k h Initialisation s = init-goal-sized k
  goal-sized k h InitialisationDefined s = evaluation-sized k (level_at dev k).init (fact dev f k h).init.types
  goal-sized k h (Operation o) s = operation-goal-sized k o
  goal-sized k h (OperationDefined o) s = evaluation-sized k (whole (body_at dev k o)) (whole-types dev f k h o s)

  name-sized : (k : ℕ) (c : Clause) → clause_name big k c ≡ clause_name dev k c
  name-sized k PropertiesDefined = refl
  name-sized k ValuesMeet = refl
  name-sized k InvariantDefined = refl
  name-sized k AssertionsDefined = refl
  name-sized k AssertionsHold = refl
  name-sized k Initialisation = refl
  name-sized k InitialisationDefined = refl
  name-sized k (Operation o) = refl
  name-sized k (OperationDefined o) = refl

  obligation-sized : (k : ℕ) → k < length dev.levels → (c : Clause) → Stands dev k c → obligation_of big k c ≡ obligation_of dev k c
  obligation-sized k h c s = λ i. obligation ((level_at dev k).name ++ Rattle.std.specs.Prelude.codes "." ++ name-sized k c i) (hypotheses-sized k c s i) (goal-sized k h c s i)

  level-sized : (k : ℕ) → k < length dev.levels → level_obligations big k ≡ level_obligations dev k
  level-sized k h = map-same (obligation_of big k) (obligation_of dev k) (clauses_of dev k) (each-clause dev k (λ c. obligation_of big k c ≡ obligation_of dev k c) (obligation-sized k h))

  pub flat-sized : flat_obligations big ≡ flat_obligations dev
  flat-sized = flat-same (level_obligations big) (level_obligations dev) (numbers_below (length dev.levels)) (below-each (λ k. level_obligations big k ≡ level_obligations dev k) (length dev.levels) level-sized)

-- no level is an implementation where the last is none
none-implements : (dev : Development) → OnlyLastIsImplementation dev → is_complete dev ≡ false → (k : ℕ) → is_implementation (level_at dev k) ≡ false
none-implements dev only c k = by_place (nat_lt (suc k) (length dev.levels)) refl
  where
    beyond : (ls : List Level) (k : ℕ) → length ls ≤ k → is_implementation (slice_index_or ls k Rattle.bk_dev.specs.Development.blank_level) ≡ false
    beyond [] k h = refl
    beyond (l ∷ ls) zero h = absurd (omega (arith, h))
    beyond (l ∷ ls) (suc k) h = beyond ls k (omega (arith, h))

    by_last : (b : Bool) → nat_lt k (length dev.levels) ≡ b → nat_lt (suc k) (length dev.levels) ≡ false → is_implementation (level_at dev k) ≡ false
    by_last true q r = let same : last dev ≡ k = grind (arith, nat_tests) in subst (λ m. is_implementation (level_at dev m) ≡ false) same c
    by_last false q r = beyond dev.levels k (grind (arith, nat_tests))

    by_place : (b : Bool) → nat_lt (suc k) (length dev.levels) ≡ b → is_implementation (level_at dev k) ≡ false
    by_place true q = only k (grind (arith, nat_tests))
    by_place false q = by_last (nat_lt k (length dev.levels)) refl q

pub sizes_keep_obligations : SizesKeepObligations
sizes_keep_obligations sizes dev d = by_end (is_complete dev) refl
  where
    by_end : (b : Bool) → is_complete dev ≡ b → numbered_obligations (with_set_sizes sizes dev) ≡ numbered_obligations dev
    by_end true c = ap numbered_obligations (development-whole sizes dev d (d.sizes c))
    by_end false c =
        let stands = flattened_stands dev d in
        ap numbered_sequents (flat-sized sizes (flattened dev) stands (none-implements (flattened dev) stands.only_last (complete-same dev d.lawful ∙ c)))

-- the sequents at a choice of sizes
pub valid-at : (sizes : ℕ → ℕ) → AreSizes sizes → (table : Table) (ss : List (List ℕ × Sequent)) → AreValidForAllSizes table ss → AreValid (with_sizes sizes table) ss
valid-at sizes p table [] h = tt
valid-at sizes p table (s ∷ ss) h = (h.0 sizes p, valid-at sizes p table ss h.1)
