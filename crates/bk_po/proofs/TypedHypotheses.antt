-- Every hypothesis of a development's obligations is a predicate over its table.
use Rattle.std.proofs.Common.{◌≡◌, ◌<◌, ℕ, zero, suc, List, [], ◌∷◌, ◌++◌, map, take, length, refl, ap, true, false, cond, Option, Some, None, ◌∙◌, arith}
use Rattle.std.specs.List.{filter, flat_map}
use Rattle.bk_val.specs.ValueType.{ValueType, int_type, bool_type, enum_type, pair_type, set_type}
use Rattle.bk_form.specs.Table.{SetEntry, lists_type, variable_type}
use Rattle.std.specs.Prelude.{◌+◌, ◌≤◌}
use Rattle.std.proofs.lemmas.Bool.Decides.{nat_tests}
use Rattle.bk_form.specs.declared.operator.UnOp.TheVariants.{Card}
use Rattle.bk_form.specs.Formula.{Formula}
use Rattle.bk_form.specs.Role.{predicate, gives, given_by, if_holds, unary_role, equality_role, membership_role}
use Rattle.bk_form.specs.Predicates.{IsPredicate, conjuncts, equation}
use Rattle.bk_dev.specs.Development.{Head, Body, Level, Development, blank_body, level_at, body_of, inputs_of, is_implementation}
use Rattle.bk_dev.specs.Hypotheses.{size_equations_of, size_equations_from, size_equations, value_equation, properties_of, values_at, joining, facts, facts_of, conditions_of, is_number, in_machine_range, input_ranges, init_hypotheses, invariant_hypotheses, assertion_hypotheses, operation_hypotheses}
use Rattle.bk_dev.specs.Facts.{AreAlike, IsStated, IsLink, IsValue, IsLevelOf, EachBody, EachLevel, IsLawful}
use Rattle.bk_form.specs.Each.{Each}
use Rattle.bk_form.proofs.Equations.{same_type-self}
use Rattle.bk_dev.proofs.Levels.{level_fact}
use Rattle.bk_po.proofs.FlatParts.{each-or}
use Rattle.bk_po.proofs.Lists.{append-each, flat-each, map-each, take-each, filter-true, each-so}
use Rattle.bk_po.proofs.Predicates.{links-predicates, parts-predicates}

number-type : (o : Option ValueType) → is_number o ≡ true → o ≡ Some int_type
number-type None h = absurd (cc)
number-type (Some int_type) h = refl
number-type (Some bool_type) h = absurd (cc)
number-type (Some (enum_type n)) h = absurd (cc)
number-type (Some (pair_type t u)) h = absurd (cc)
number-type (Some (set_type t)) h = absurd (cc)

module _ (dev : Development) (f : IsLawful dev) where
  abbrev pub ArePredicates : List Formula → Type 0
  ArePredicates ps = Each (IsPredicate dev.table) ps

  -- ---- levels and bodies
  pub each-level : (P : Level → Type 0) → ((k : ℕ) (l : Level) → IsLevelOf dev k l → P l) → (k : ℕ) (ls : List Level) → EachLevel dev k ls → Each P ls
  each-level P so k [] h = tt
  each-level P so k (l ∷ ls) h = (so k l h.0, each-level P so (suc k) ls h.1)

  first-levels : (F : Level → List Formula) → ((k : ℕ) (l : Level) → IsLevelOf dev k l → ArePredicates (F l)) → (n : ℕ) → ArePredicates (flat_map F (take n dev.levels))
  first-levels F so n = flat-each (IsPredicate dev.table) F (take n dev.levels) (take-each (λ l. ArePredicates (F l)) n dev.levels (each-level (λ l. ArePredicates (F l)) so 0 dev.levels f.levels))

  each-condition : (k : ℕ) (hs : List Head) (ms bs : List Body) → EachBody dev k hs ms bs → Each (λ b. IsPredicate dev.table b.condition) bs
  each-condition k [] [] [] h = tt
  each-condition k (x ∷ hs) (m ∷ ms) (b ∷ bs) h = (h.0.condition, each-condition k hs ms bs h.1)
  each-condition k _ _ _ h = absurd h

  -- ---- hypotheses
  value-predicate : (p : ℕ × Formula) → IsValue dev p → IsPredicate dev.table (value_equation p)
  value-predicate p h = (λ i. equality_role (given_by (h.of_type.1 i)) (h.of_type.2 i)) ∙ ap (λ b. if_holds b predicate) (same_type-self h.of_type.0)

  pub links-alike : (k : ℕ) (l : Level) → IsLevelOf dev k l → Each (λ p. AreAlike dev.table p.0 p.1) l.links
  links-alike k l h = each-so (IsLink dev k) (λ p. AreAlike dev.table p.0 p.1) l.links (λ p w. w.alike) h.links

  joining-typed : (k : ℕ) (l : Level) → IsLevelOf dev k l → ArePredicates (joining l)
  joining-typed k l h = append-each (IsPredicate dev.table) (conjuncts l.invariant) (map equation l.links) (parts-predicates dev.table l.invariant h.invariant.is_predicate) (links-predicates dev.table l.links (links-alike k l h))

  facts-typed : (k : ℕ) (l : Level) → IsLevelOf dev k l → ArePredicates (facts l)
  facts-typed k l h =
      let stated = each-so (IsStated dev k) (λ p. ArePredicates (conjuncts p)) l.assertions (λ p s. parts-predicates dev.table p s.is_predicate) h.assertions in
      append-each (IsPredicate dev.table) (joining l) (flat_map conjuncts l.assertions) (joining-typed k l h) (flat-each (IsPredicate dev.table) conjuncts l.assertions stated)

  condition-typed : (o k : ℕ) (l : Level) → IsLevelOf dev k l → ArePredicates (conjuncts (body_of l o).condition)
  condition-typed o k l h = parts-predicates dev.table (body_of l o).condition (each-or (λ b. IsPredicate dev.table b.condition) l.bodies o blank_body refl (each-condition k dev.heads (level_at dev 0).bodies l.bodies h.bodies))

  range-predicate : (x : ℕ) → is_number (variable_type dev.table x) ≡ true → IsPredicate dev.table (in_machine_range dev x)
  range-predicate x h = λ i. membership_role (given_by (number-type (variable_type dev.table x) h i)) (gives (set_type int_type))

  pub properties-typed : (n : ℕ) → ArePredicates (properties_of dev n)
  properties-typed n = first-levels (λ l. conjuncts l.properties) (λ k l h. parts-predicates dev.table l.properties h.properties) n

  pub equations-typed : ArePredicates (map value_equation dev.values)
  equations-typed = map-each (IsPredicate dev.table) value_equation dev.values (each-so (IsValue dev) (λ p. IsPredicate dev.table (value_equation p)) dev.values value-predicate f.values)

  size-predicate : (k : ℕ) (es : List (List ℕ)) (n : ℕ) → k < length dev.table.sets → ArePredicates (size_equations_of k es n)
  size-predicate k [] (suc n) h =
      let q : lists_type dev.table (enum_type k) ≡ true = grind (arith, nat_tests) in
      (ap (λ b. equality_role (unary_role Card (if_holds b (gives (set_type (enum_type k))))) (gives int_type)) q, tt)
  size-predicate k [] zero h = tt
  size-predicate k (e ∷ es) n h = tt

  size-predicates : (k : ℕ) (ss : List SetEntry) → k + length ss ≤ length dev.table.sets → ArePredicates (size_equations_from k ss)
  size-predicates k [] h = tt
  size-predicates k (s ∷ ss) h =
      append-each (IsPredicate dev.table) (size_equations_of k s.elements s.size) (size_equations_from (suc k) ss) (size-predicate k s.elements s.size (omega (arith, h))) (size-predicates (suc k) ss (omega (arith, h)))

  pub sizes-typed : ArePredicates (size_equations dev)
  sizes-typed = size-predicates 0 dev.sets (let e : length dev.sets ≡ length dev.table.sets = ap length f.sets in omega (arith, e))

  pub init-typed : (k : ℕ) → ArePredicates (init_hypotheses dev k)
  init-typed k =
      let values : ArePredicates (values_at dev k) = elim (is_implementation (level_at dev k)) as (λ b. ArePredicates (cond b (size_equations dev ++ map value_equation dev.values) [])) [ true ↦ append-each (IsPredicate dev.table) (size_equations dev) (map value_equation dev.values) sizes-typed equations-typed | false ↦ tt ] in
      append-each (IsPredicate dev.table) (properties_of dev (suc k)) (values_at dev k) (properties-typed (suc k)) values

  pub known-typed : (k n : ℕ) → ArePredicates (init_hypotheses dev k ++ facts_of dev n)
  known-typed k n = append-each (IsPredicate dev.table) (init_hypotheses dev k) (facts_of dev n) (init-typed k) (first-levels facts facts-typed n)

  pub assertion-typed : (k : ℕ) → k < length dev.levels → ArePredicates (assertion_hypotheses dev k)
  assertion-typed k h = append-each (IsPredicate dev.table) (invariant_hypotheses dev k) (joining (level_at dev k)) (known-typed k k) (joining-typed k (level_at dev k) (level_fact dev f k h))

  pub under-typed : (k n o : ℕ) → ArePredicates (init_hypotheses dev k ++ facts_of dev (suc k) ++ conditions_of dev n o ++ input_ranges dev k o)
  under-typed k n o =
      let conditioned = append-each (IsPredicate dev.table) (init_hypotheses dev k ++ facts_of dev (suc k)) (conditions_of dev n o) (known-typed k (suc k)) (first-levels (λ l. conjuncts (body_of l o).condition) (condition-typed o) n) in
      let numbers = filter (λ x. is_number (variable_type dev.table x)) (inputs_of dev o) in
      let all = map-each (IsPredicate dev.table) (in_machine_range dev) numbers (each-so (λ x. is_number (variable_type dev.table x) ≡ true) (λ x. IsPredicate dev.table (in_machine_range dev x)) numbers range-predicate (filter-true (λ x. is_number (variable_type dev.table x)) (inputs_of dev o))) in
      let ranges : ArePredicates (input_ranges dev k o) = elim (is_implementation (level_at dev k)) as (λ b. ArePredicates (cond b (map (in_machine_range dev) numbers) [])) [ true ↦ all | false ↦ tt ] in
      append-each (IsPredicate dev.table) (init_hypotheses dev k ++ facts_of dev (suc k) ++ conditions_of dev n o) (input_ranges dev k o) conditioned ranges

  pub operation-typed : (k o : ℕ) → ArePredicates (operation_hypotheses dev k o)
  operation-typed zero o = under-typed 0 1 o
  operation-typed (suc j) o = under-typed (suc j) (suc j) o
