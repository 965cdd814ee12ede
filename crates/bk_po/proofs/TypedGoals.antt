-- In a development whose substitutions are flat every hypothesis and every goal is a predicate over the development's table.
use Rattle.std.proofs.Common.{◌≡◌, ◌<◌, ℕ, zero, suc, List, [], ◌∷◌, map, take, length, subst, Bool, true, false, cond, arith, Some, None}
use Rattle.std.specs.Prelude.{slice_index_or}
use Rattle.bk_form.specs.ArrayTable.{ArrayTable}
use Rattle.bk_form.specs.Formula.{Formula}
use Rattle.bk_form.specs.Predicates.{IsPredicate, equation}
use Rattle.bk_form.specs.Each.{Each}
use Rattle.bk_gsl.specs.Substitution.{Substitution, pre}
use Rattle.bk_gsl.specs.Flat.{IsFlat}
use Rattle.bk_gsl.specs.Typed.{AreTypedTerms, Types}
use Rattle.bk_dev.specs.Development.{Head, Level, Development, level_at, body_at, is_btrue, is_implementation, whole}
use Rattle.bk_dev.specs.Facts.{AreAlike, IsStated, IsValue, IsLevelOf, IsBodyOf}
use Rattle.bk_dev.specs.Layout.{arrays_of}
use Rattle.bk_dev.specs.Claims.{arrays_at, beside}
use Rattle.bk_dev.proofs.Levels.{level_fact, body-at}
use Rattle.bk_wd.specs.Laws.{AreTypedArrays}
use Rattle.bk_wd.proofs.Predicates.{defined-predicate}
use Rattle.bk_wp.specs.Box.{box, diamond}
use Rattle.bk_wp.proofs.Boxes.{box-here, room-formed, guarded_is_predicate}
use Rattle.bk_wp.proofs.Predicates.{terms-predicate, diamond-predicate}
use Rattle.bk_po.specs.declared.clause.Clause.{Clause}
use Rattle.bk_po.specs.declared.clause.Clause.TheVariants.{PropertiesDefined, ValuesMeet, InvariantDefined, AssertionsDefined, AssertionsHold, Initialisation, InitialisationDefined, Operation, OperationDefined}
use Rattle.bk_po.specs.Obligations.{Obligation, numbers_below, conjunction, values_goal, joining_goal, init_goal, operation_goal, evaluation_goal, hypotheses_of, goal_of, clauses_of, obligation_of, level_obligations, flat_obligations}
use Rattle.bk_po.specs.FlatFacts.{IsFlattened}
use Rattle.bk_po.proofs.ArrayTypes.{arrays-typed}
use Rattle.bk_po.proofs.Clauses.{Stands, each-clause}
use Rattle.bk_po.proofs.FlatParts.{upper_init, upper_body, whole_is_flat}
use Rattle.bk_po.proofs.Lists.{flat-each, map-each, below-each, take-each, each-so}
use Rattle.bk_po.proofs.Predicates.{conjunction-predicate, after-predicate, in-turn-predicate, links-predicate, beside-alike}
use Rattle.bk_po.proofs.TypedHypotheses.{each-level, links-alike, sizes-typed, properties-typed, init-typed, known-typed, assertion-typed, under-typed, operation-typed}

module _ (dev : Development) (f : IsFlattened dev) where
  abbrev HasPredicates : Obligation → Type 0
  HasPredicates o = Each (IsPredicate dev.table) o.hypotheses × IsPredicate dev.table o.goal

  boxed : (s : Substitution) (r : Formula) → Types dev.table s → IsFlat s → IsPredicate dev.table r → IsPredicate dev.table (box dev.table s r)
  boxed s r w n h = box-here dev.table f.lawful.table (room-formed dev.table f.lawful.table f.room) s r w n h

  values-typed : (ps : List (ℕ × Formula)) → Each (IsValue dev) ps → AreTypedTerms dev.table ps
  values-typed [] h = tt
  values-typed (p ∷ ps) h = (h.0.of_type, values-typed ps h.1)

  values-goal : (k : ℕ) → IsPredicate dev.table (values_goal dev k)
  values-goal k =
      let first : List Level = take (suc k) dev.levels in
      let each = take-each (λ l. IsPredicate dev.table l.properties) (suc k) dev.levels (each-level dev f.lawful (λ l. IsPredicate dev.table l.properties) (λ k l h. h.properties) 0 dev.levels f.lawful.levels) in
      terms-predicate dev.table dev.values (conjunction (map (λ l. l.properties) first)) (values-typed dev.values f.lawful.values) (conjunction-predicate dev.table (map (λ l. l.properties) first) (map-each (IsPredicate dev.table) (λ l. l.properties) first each))

  pub fact : (k : ℕ) → k < length dev.levels → IsLevelOf dev k (level_at dev k)
  fact k h = level_fact dev f.lawful k h

  abbrev no_head : Head
  no_head = record { name = []; inputs = []; outputs = 0 }

  pub body-fact : (k : ℕ) → k < length dev.levels → (o : ℕ) → o < length dev.heads → IsBodyOf dev k (slice_index_or dev.heads o no_head) (body_at dev 0 o) (body_at dev k o)
  body-fact k h o l = body-at dev k dev.heads (level_at dev 0).bodies (level_at dev k).bodies no_head o l (fact k h).bodies

  pub whole-types : (k : ℕ) → k < length dev.levels → (o : ℕ) → o < length dev.heads → Types dev.table (whole (body_at dev k o))
  whole-types k h o l =
      let b = body_at dev k o in
      let w = body-fact k h o l in
      elim (is_btrue b.condition) as (λ x. Types dev.table (cond x b.sub (pre b.condition b.sub))) [ true ↦ w.sub.types | false ↦ (w.condition, w.sub.types) ]

  whole-flat : (k : ℕ) → k < length dev.levels → (o : ℕ) → o < length dev.heads → IsFlat (whole (body_at dev k o))
  whole-flat k h o l = whole_is_flat (body_at dev k o) (f.flat.bodies k h o l)

  joining-goal : (k : ℕ) → k < length dev.levels → (outputs above : List ℕ) → Each (λ p. AreAlike dev.table p.0 p.1) (beside outputs above) → IsPredicate dev.table (joining_goal dev k outputs above)
  joining-goal k h outputs above alike =
      let l = level_at dev k in
      conjunction-predicate dev.table (l.invariant ∷ conjunction (map equation l.links) ∷ conjunction (map equation (beside outputs above)) ∷ []) ((fact k h).invariant.is_predicate, (links-predicate dev.table l.links (links-alike dev f.lawful k l (fact k h)), (links-predicate dev.table (beside outputs above) alike, tt)))

  init-goal : (k : ℕ) → k < length dev.levels → IsPredicate dev.table (init_goal dev k)
  init-goal zero h = boxed (level_at dev 0).init (level_at dev 0).invariant (fact 0 h).init.types (f.flat.init 0 h) (fact 0 h).invariant.is_predicate
  init-goal (suc j) h =
      let joined = joining_goal dev (suc j) [] [] in
      let answered = diamond-predicate dev.table f.lawful.table (level_at dev j).init joined (fact j (omega (arith, h))).init.types (upper_init dev f j h) (joining-goal (suc j) h [] [] tt) in
      boxed (level_at dev (suc j)).init (diamond dev.table (level_at dev j).init joined) (fact (suc j) h).init.types (f.flat.init (suc j) h) answered

  operation-goal : (k : ℕ) → k < length dev.levels → (o : ℕ) → o < length dev.heads → IsPredicate dev.table (operation_goal dev k o)
  operation-goal zero h o l = boxed (body_at dev 0 o).sub (level_at dev 0).invariant (body-fact 0 h o l).sub.types (f.flat.bodies 0 h o l) (fact 0 h).invariant.is_predicate
  operation-goal (suc j) h o l =
      let lower = body_at dev (suc j) o in
      let upper = body_at dev j o in
      let upper-fact = body-fact j (omega (arith, h)) o l in
      let joined = joining_goal dev (suc j) lower.outputs upper.outputs in
      let alike = beside-alike dev.table lower.outputs upper.outputs (body_at dev 0 o).outputs (body-fact (suc j) h o l).output_types upper-fact.output_types in
      let answered = diamond-predicate dev.table f.lawful.table upper.sub joined upper-fact.sub.types (upper_body dev f j h o l) (joining-goal (suc j) h lower.outputs upper.outputs alike) in
      boxed (whole lower) (diamond dev.table upper.sub joined) (whole-types (suc j) h o l) (whole-flat (suc j) h o l) answered

  pub stated : (k : ℕ) → k < length dev.levels → Each (IsPredicate dev.table) (level_at dev k).assertions
  stated k h = each-so (IsStated dev k) (IsPredicate dev.table) (level_at dev k).assertions (λ p s. s.is_predicate) (fact k h).assertions

  -- ---- what is met is defined or fits
  arrays-are : (k : ℕ) (a : ArrayTable) → arrays_at dev k ≡ Some a → AreTypedArrays dev.table a
  arrays-are k a h = by_kind (is_implementation (level_at dev k)) h
    where
      by_kind : (b : Bool) → cond b (Some (arrays_of dev)) None ≡ Some a → AreTypedArrays dev.table a
      by_kind true q = let same : arrays_of dev ≡ a = cc in subst (AreTypedArrays dev.table) same (arrays-typed dev f.lawful)
      by_kind false q = absurd (cc)

  evaluation-goal : (k : ℕ) (s : Substitution) → Types dev.table s → IsFlat s → IsPredicate dev.table (evaluation_goal dev k s)
  evaluation-goal k s w n = guarded_is_predicate dev.table f.lawful.table f.room (arrays_at dev k) (arrays-are k) s n w

  -- ---- down the list
  hypotheses-typed : (k : ℕ) → k < length dev.levels → (c : Clause) → Each (IsPredicate dev.table) (hypotheses_of dev k c)
  hypotheses-typed k h PropertiesDefined = properties-typed dev f.lawful k
  hypotheses-typed k h ValuesMeet = sizes-typed dev f.lawful
  hypotheses-typed k h InvariantDefined = known-typed dev f.lawful k k
  hypotheses-typed k h AssertionsDefined = assertion-typed dev f.lawful k h
  hypotheses-typed k h AssertionsHold = assertion-typed dev f.lawful k h
  hypotheses-typed k h Initialisation = init-typed dev f.lawful k
  hypotheses-typed k h InitialisationDefined = init-typed dev f.lawful k
  hypotheses-typed k h (Operation o) = operation-typed dev f.lawful k o
  hypotheses-typed k h (OperationDefined o) = under-typed dev f.lawful k k o

  goal-typed : (k : ℕ) → k < length dev.levels → (c : Clause) → Stands dev k c → IsPredicate dev.table (goal_of dev k c)
  goal-typed k h PropertiesDefined s = defined-predicate dev.table f.lawful.table (level_at dev k).properties (fact k h).properties
  goal-typed k h ValuesMeet s = values-goal k
  goal-typed k h InvariantDefined s = defined-predicate dev.table f.lawful.table (level_at dev k).invariant (fact k h).invariant.is_predicate
  goal-typed k h AssertionsDefined s = in-turn-predicate dev.table f.lawful.table (level_at dev k).assertions (stated k h)
  goal-typed k h AssertionsHold s = after-predicate dev.table (level_at dev k).assertions (stated k h)
  goal-typed k h Initialisation s = init-goal k h
  goal-typed k h InitialisationDefined s = evaluation-goal k (level_at dev k).init (fact k h).init.types (f.flat.init k h)
  goal-typed k h (Operation o) s = operation-goal k h o s
  goal-typed k h (OperationDefined o) s = evaluation-goal k (whole (body_at dev k o)) (whole-types k h o s) (whole-flat k h o s)

  level-typed : (k : ℕ) → k < length dev.levels → Each HasPredicates (level_obligations dev k)
  level-typed k h = map-each HasPredicates (obligation_of dev k) (clauses_of dev k) (each-clause dev k (λ c. HasPredicates (obligation_of dev k c)) (λ c s. (hypotheses-typed k h c, goal-typed k h c s)))

  pub obligations-typed : Each (λ o. Each (IsPredicate dev.table) o.hypotheses × IsPredicate dev.table o.goal) (flat_obligations dev)
  obligations-typed = flat-each HasPredicates (level_obligations dev) (numbers_below (length dev.levels)) (below-each (λ k. Each HasPredicates (level_obligations dev k)) (length dev.levels) (λ k h. level-typed k h))
