-- The translation of a development in B0 follows its machine.
use Rattle.std.proofs.Common.{◌≡◌, ◌⊎◌, inl, inr, ◌<◌, ◌≤◌, ℕ, zero, suc, ◌+◌, ℤ, pos, ◌-ℤ◌, ◌-◌, int_le, List, [], ◌∷◌, ◌++◌, length, map, replicate, refl, sym, ◌∙◌, ap, subst, Bool, true, false, cond, ◌||◌, ◌&&◌, nat_eq, nat_lt, arith, Some, None, Option}
use Rattle.std.specs.Prelude.{slice_index_or, slice_get}
use Rattle.std.specs.List.{filter}
use Rattle.std.proofs.lemmas.Bool.Decides.{nat_tests}
use Rattle.std.proofs.lemmas.Option.{same_Some}
use Rattle.std.proofs.lemmas.List.{length-map}
use Rattle.bk_val.specs.Value.{int}
use Rattle.bk_val.specs.ValueType.{ValueType, int_type, base_of, is_value_of}
use Rattle.bk_form.specs.Table.{Table, set_size, variable_type}
use Rattle.bk_form.specs.Formula.{Formula, variable, literal, binary, btrue}
use Rattle.bk_form.specs.ArrayTable.{row_of}
use Rattle.bk_form.specs.Search.{Finder}
use Rattle.bk_form.specs.Environment.{State, at_state, IsTypedState}
use Rattle.bk_form.specs.Meaning.{within as is_within}
use Rattle.bk_form.specs.declared.operator.BinOp.TheVariants.{In, Range}
use Rattle.bk_form.proofs.Domains.{interval-members}
use Rattle.bk_gsl.specs.Substitution.{Substitution, pre}
use Rattle.bk_gsl.specs.State.{holds, declared_type, are_values_for, with_value, with_values, among, firsts}
use Rattle.bk_gsl.specs.Run.{Runs, Ends}
use Rattle.bk_gsl.specs.Clean.{Clean}
use Rattle.bk_gsl.proofs.States.{cases, clash, over-at, over-off, nat_eq-self, nat_eq-same, with_values-out, with_values-typed}
use Rattle.bk_gsl.proofs.Runs.{run-typed}
use Rattle.bk_dev.specs.declared.kind.Home.{Home}
use Rattle.bk_dev.specs.declared.kind.Home.TheVariants.{Constant, Input, Abstract as AbstractHome, Concrete, Inner}
use Rattle.bk_dev.specs.Development.{Head, Body, Level, Development, int_max, blank_body, level_at, body_of, body_at, inputs_of, last, is_btrue, is_implementing, is_implementation, whole}
use Rattle.bk_form.specs.Each.{Each}
use Rattle.bk_dev.specs.Facts.{is_constant, is_input, is_variable_of, is_variable_above, is_inner_of, home_of, AreDistinct, seconds, AllAlike, HasItsValues, IsKindAt, IsLevelOf, names_own, names_joined, IsSubOf, IsBodyOf, IsHeadOf, IsLink, IsLawful}
use Rattle.bk_form.specs.Predicates.{AllHold, conjuncts, equation}
use Rattle.bk_dev.specs.Hypotheses.{size_equations, value_equation, properties_of, values_at, joining, joinings_of, conditions_of, is_number, in_machine_range, input_ranges, init_hypotheses, unasserted_hypotheses}
use Rattle.bk_dev.specs.Machine.{Abstract, HasValues, Opens, Call, IsCall, Gives, Pre}
use Rattle.bk_dev.specs.Claims.{arrays_at, beside, IsBetweenCalls, Establishes, Answered, KeepsFlat, CarriesFlat, ValuesMeet, LastCarriesFromEqual}
use Rattle.bk_dev.specs.declared.kind.Kind.{Kind}
use Rattle.bk_dev.specs.declared.kind.Kind.TheVariants.{Machine, Refinement, Implementation}
use Rattle.bk_val.specs.CmpLaws.{value_eq-self}
use Rattle.bk_form.specs.Operators.{is_equal}
use Rattle.bk_dev.specs.Layout.{arrays_of, cell_of, cell_count, cell_variables}
use Rattle.bk_code.specs.declared.image.Image.{Image}
use Rattle.bk_code.specs.declared.image.OpEntry.{OpEntry}
use Rattle.bk_code.specs.Session.{first_start, outputs_of}
use Rattle.bk_b0.specs.Translation.{parameter_of, operation_code, operations_code, init_code, translation}
use Rattle.bk_dev.proofs.Levels.{last_paired, each-at, body-at, level_fact}
use Rattle.bk_b0.specs.Kinds.{number_as, as_number, is_of_kind}
use Rattle.bk_sim.specs.Shown.{shown, seen, KindsHold}
use Rattle.bk_sim.specs.Shows.{IsLinkedBy, Linked}
use Rattle.bk_sim.specs.Within.{CallEnds, EndsWithoutLoops}
use Rattle.bk_sim.specs.Ending.{HasNoLoop}
use Rattle.bk_sim.specs.Follows.{IsEntry, as_values, replies, started, GoesWell, IsDone, IsStep, HasOperations, OpensWell, CallsGoWell, Follows}
use Rattle.bk_sim.proofs.Chain.{linked_before, calls_decide}
use Rattle.bk_sim.proofs.Ends.{done-well}
use Rattle.bk_form.proofs.Members.{or-cases, or-left, or-right, and-true}
use Rattle.bk_dev.proofs.Sizes.{sizes_hold}
use Rattle.bk_dev.proofs.Agree.{all-none, holds-same, joining-same, all-among}
use Rattle.bk_form.proofs.Conjuncts.{true-append, true-first, parts-true, whole-true}
use Rattle.bk_dev.proofs.Climb.{flat-then, flat-if, is_before, constant-before, input-before, variable-before, inner-before, above-before, joined-before, own-before, one_of_three, map-same, Climbed, Carry, climbed, stays-before}
use Rattle.bk_sim.specs.Placed.{Stands}
use Rattle.bk_dev.specs.B0.{IsScalarName, IsB0Body, IsB0Development}
use Rattle.bk_b0.specs.Cells.{IsCell, ValuesHaveKinds}
use Rattle.bk_sim.specs.Statements.{IsReturned}
use Rattle.bk_sim.proofs.Terms.{seen-cell, scalar-shown, scalar-kind}
use Rattle.bk_b0.proofs.LevelCells.{one_of_four, variable_no_constant, value-constant, constants-have, no-value, var-cell, arrays-have, known, sees, inputs-there, outputs-there}
use Rattle.bk_dev.proofs.InTable.{blank_head}
use Rattle.bk_b0.proofs.ArrayTypes.{arrays-typed}
use Rattle.bk_b0.proofs.Numbers.{translated-greatest}
use Rattle.bk_sim.proofs.Steps.{stands-first, stands-second}
use Rattle.bk_b0.proofs.Shapes.{arrays-scalar, each-among, shapes}
use Rattle.bk_sim.proofs.Entries.{entry_of, IsEntered, entered}
use Rattle.bk_sim.proofs.Starts.{declared-is, seen-typed, laid, laid-typed, base-typed, values-then, values-if, values-same, zeros-kinds, zero-fits, given, AreInputs, given-kinds, given-other, given-shown}
use Rattle.bk_sim.proofs.Followed.{none-among, operations_follow, openings_follow, returns_end}

-- ---- numbers within bounds
ranged : (find : Finder) (table : Table) (e : State) (x : ℕ) (low high z : ℤ) → e x ≡ int z → int_le low z && int_le z high ≡ true → holds find table e (binary In (variable x) (binary Range (literal low) (literal high))) ≡ true
ranged find table e x low high z is h = ap (λ v. is_within find (at_state table e) v (binary Range (literal low) (literal high))) is ∙ interval-members.numbers find (at_state table e) (literal low) (literal high) z ∙ h

-- ---- homes
variable_not_input : (k : ℕ) (o : Option Home) → is_variable_of k o ≡ true → is_input o ≡ false
variable_not_input k None h = refl
variable_not_input k (Some Constant) h = refl
variable_not_input k (Some Input) h = absurd (cc)
variable_not_input k (Some (AbstractHome i)) h = refl
variable_not_input k (Some (Concrete i)) h = refl
variable_not_input k (Some (Inner i)) h = refl

variable_not_inner : (j k : ℕ) (o : Option Home) → is_variable_of j o ≡ true → is_inner_of k o ≡ false
variable_not_inner j k None h = refl
variable_not_inner j k (Some Constant) h = refl
variable_not_inner j k (Some Input) h = refl
variable_not_inner j k (Some (AbstractHome i)) h = refl
variable_not_inner j k (Some (Concrete i)) h = refl
variable_not_inner j k (Some (Inner i)) h = absurd (cc)

input_no_constant : (o : Option Home) → is_input o ≡ true → is_constant o ≡ false
input_no_constant None h = refl
input_no_constant (Some Constant) h = absurd (cc)
input_no_constant (Some Input) h = refl
input_no_constant (Some (AbstractHome j)) h = refl
input_no_constant (Some (Concrete j)) h = refl
input_no_constant (Some (Inner j)) h = refl

-- ---- small things
no_links : (dev : Development) (ls : List (ℕ × ℕ)) → Each (IsLink dev 0) ls → ls ≡ []
no_links dev [] e = refl
no_links dev (p ∷ ls) e = let k : 0 ≡ suc e.0.above.0 = e.0.above.1 in absurd (omega (arith, k))

pointwise : (xs : List ℕ) (a b : State) → map a xs ≡ map b xs → (n : ℕ) → among xs n ≡ true → a n ≡ b n
pointwise [] a b h n q = absurd (cc)
pointwise (x ∷ xs) a b h n q =
    let here : a x ≡ b x = cc in
    let rest : map a xs ≡ map b xs = cc in
    by_test here (pointwise xs a b rest n) (nat_eq n x) refl q
  where
    by_test : a x ≡ b x → (among xs n ≡ true → a n ≡ b n) → (t : Bool) → nat_eq n x ≡ t → t || among xs n ≡ true → a n ≡ b n
    by_test here rest true k l = subst (λ m. a m ≡ b m) (sym (nat_eq-same n x k)) here
    by_test here rest false k l = rest l

whole-runs : (find : Finder) (table : Table) (b : Body) (e f : State) → Runs find table b.sub e f → Runs find table (whole b) e f
whole-runs find table b e f r = elim (is_btrue b.condition) as (λ t. Runs find table (cond t b.sub (pre b.condition b.sub)) e f) [ true ↦ r | false ↦ r ]

ends-condition : (find : Finder) (table : Table) (p : Formula) (s : Substitution) (e : State) → Ends find table (cond (is_btrue p) s (pre p s)) e → holds find table e p ≡ true
ends-condition find table btrue s e h = refl
ends-condition find table p s e h = h.0

ranges-true : (find : Finder) (table : Table) (e : State) (F : ℕ → Formula) (test : ℕ → Bool) (xs : List ℕ) → ((x : ℕ) → among xs x ≡ true → test x ≡ true → holds find table e (F x) ≡ true) → AllHold find (at_state table e) (map F (filter test xs))
ranges-true find table e F test [] h = tt
ranges-true find table e F test (x ∷ xs) h = by_test (test x) refl (h x (or-left (nat_eq x x) (among xs x) (nat_eq-self x))) (ranges-true find table e F test xs (λ y k. h y (or-right (nat_eq y x) (among xs y) k)))
  where
    by_test : (b : Bool) → test x ≡ b → (test x ≡ true → holds find table e (F x) ≡ true) → AllHold find (at_state table e) (map F (filter test xs)) → AllHold find (at_state table e) (map F (cond b (x ∷ filter test xs) (filter test xs)))
    by_test true q first rest = (first q, rest)
    by_test false q first rest = rest

number-is : (o : Option ValueType) → is_number o ≡ true → o ≡ Some int_type
number-is (Some int_type) h = refl
number-is _ h = absurd (cc)

alike-declared : (dev : Development) (xs ys : List ℕ) → AllAlike dev.table xs ys → (k : List ℤ) → as_values dev ys (outputs_of (map (parameter_of dev) xs) k) ≡ map (λ x. number_as (declared_type dev.table x) (slice_index_or k (cell_of dev x) (pos 0))) xs
alike-declared dev [] [] h k = refl
alike-declared dev [] (y ∷ ys) h k = absurd h
alike-declared dev (x ∷ xs) [] h k = absurd h
alike-declared dev (x ∷ xs) (y ∷ ys) h k =
    let same : declared_type dev.table y ≡ declared_type dev.table x = declared-is dev y h.0.0 h.0.2 ∙ sym (declared-is dev x h.0.0 h.0.1) in
    let rest = alike-declared dev xs ys h.1 k in
    λ i. number_as (same i) (slice_index_or k (cell_of dev x) (pos 0)) ∷ rest i

module _ (find : Finder) (dev : Development) (f : IsLawful dev) (b : IsB0Development dev) (meet : ValuesMeet find dev) (keeps : KeepsFlat find dev) (carries : (j : ℕ) → suc j < last dev → CarriesFlat find dev j) (lasts : ((j : ℕ) → suc j ≡ last dev → CarriesFlat find dev j) ⊎ LastCarriesFromEqual find dev) where
  abbrev low : Level
  low = level_at dev (last dev)

  abbrev high : Level
  high = level_at dev 0

  abbrev image : Image
  image = translation dev

  within : (k : ℕ) → k ≤ last dev → k < length dev.levels
  within k m = let some : 0 < length dev.levels = f.some_level in omega arith

  values : HasItsValues dev true
  values = subst (HasItsValues dev) b.complete f.complete

  constants : ValuesHaveKinds dev dev.values
  constants = constants-have dev f

  -- ---- hypotheses that hold where the constants have their values
  values-there : (k : ℕ) (e : State) → HasValues find dev e → AllHold find (at_state dev.table e) (values_at dev k)
  values-there k e v = elim (is_implementation (level_at dev k)) as (λ c. AllHold find (at_state dev.table e) (cond c (size_equations dev ++ map value_equation dev.values) [])) [ true ↦ true-append find (at_state dev.table e) (size_equations dev) (map value_equation dev.values) (sizes_hold find dev f.sets (at_state dev.table e) refl) v | false ↦ tt ]

  properties-hold : (k : ℕ) (e : State) → IsTypedState dev.table e → HasValues find dev e → AllHold find (at_state dev.table e) (properties_of dev k)
  properties-hold k e t v = flat-if find dev e (λ l. conjuncts l.properties) k dev.levels (λ j p q. flat-then find dev e (λ l. conjuncts l.properties) (length dev.levels) dev.levels (meet e t v) j q q)

  init-hyps : (k : ℕ) (e : State) → IsTypedState dev.table e → HasValues find dev e → AllHold find (at_state dev.table e) (init_hypotheses dev k)
  init-hyps k e t v = true-append find (at_state dev.table e) (properties_of dev (suc k)) (values_at dev k) (properties-hold (suc k) e t v) (values-there k e v)

  -- a state that is e in the constants has their values
  values-from : (k : ℕ) (x e : State) → ((n : ℕ) → is_before k (home_of dev n) ≡ true → x n ≡ e n) → HasValues find dev e → HasValues find dev x
  values-from k x e same v = values-same dev find x e dev.values f.values (λ n h. same n (constant-before k (home_of dev n) h)) v

  -- ---- the end of a climb is linked to the cells
  module _ (k : List ℤ) (kinds : KindsHold dev k) (inputs : List ℕ) (sub : ℕ → Substitution) (outs : ℕ → List ℕ) (e top : State) (c : Climbed find dev sub outs e top zero) (shows : (n : ℕ) → among low.vars n ≡ true → top n ≡ shown dev k n)
      (facts : IsSubOf dev 0 inputs (outs 0) (sub 0)) (invariant : holds find dev.table c.after high.invariant ≡ true) (held : HasValues find dev c.after) where
    cell-shown : (n : ℕ) → among low.vars n ≡ true → c.after n ≡ shown dev k n
    cell-shown n h =
        let v = is_variable_of (last dev) (home_of dev n) in
        let i = is_input (home_of dev n) in
        let r = is_inner_of (last dev) (home_of dev n) in
        let own : v ≡ true = all-among (λ x. is_variable_of (last dev) (home_of dev x)) low.vars (level_fact dev f (last dev) (within (last dev) (omega arith))).vars n h in
        c.kept n (or-left (v || i) r (or-left v i own)) ∙ shows n h

    joined : (j : ℕ) → j < length dev.levels → AllHold find (at_state dev.table c.after) (joining (level_at dev j))
    joined zero h =
        let l = level_fact dev f 0 h in
        true-append find (at_state dev.table c.after) (conjuncts high.invariant) (map equation high.links) (parts-true find (at_state dev.table c.after) high.invariant invariant)
        (subst (λ ls. AllHold find (at_state dev.table c.after) (map equation ls)) (sym (no_links dev high.links l.links)) tt)
    joined (suc j) h = c.joins (suc j) (omega arith) (omega arith)

    linked-after : IsLinkedBy find dev (map c.after high.vars) k c.after
    linked-after = record {
      typed = run-typed find dev.table f.table (sub 0) facts.types c.before c.after c.typed c.runs;
      values = held;
      abstract_state = refl;
      cells = record { kinds = kinds; variables = map-same low.vars c.after (shown dev k) cell-shown };
      joined = flat-if find dev c.after joining (length dev.levels) dev.levels (λ j p q. joined j p);
    }

  -- ---- the operations
  whole-stands : Stands image 0 (init_code dev ++ operations_code dev low.bodies)
  whole-stands = record { at = λ i inst is. let same : 0 + i ≡ i = omega arith in ap (slice_get image.code) same ∙ is }

  operations-stand : Stands image (length (init_code dev)) (operations_code dev low.bodies)
  operations-stand = let same : 0 + length (init_code dev) ≡ length (init_code dev) = omega arith in subst (λ n. Stands image n (operations_code dev low.bodies)) same (stands-second image 0 (init_code dev) (operations_code dev low.bodies) whole-stands)

  enter : (o : ℕ) → o < length dev.heads → IsEntered dev image (length (init_code dev)) dev.heads low.bodies o
  enter o h = entered dev image (length (init_code dev)) dev.heads low.bodies o operations-stand h (last_paired dev f)

  body_fact : (o : ℕ) → o < length dev.heads → (k : ℕ) → k ≤ last dev → IsBodyOf dev k (slice_index_or dev.heads o blank_head) (body_at dev 0 o) (body_at dev k o)
  body_fact o h k m = body-at dev k dev.heads (level_at dev 0).bodies (level_at dev k).bodies blank_head o h (level_fact dev f k (within k m)).bodies

  operations : HasOperations dev image
  operations o h =
      let w = enter o h in
      let head = slice_index_or dev.heads o blank_head in
      let body = body_at dev (last dev) o in
      let upper = body_fact o h 0 (omega arith) in
      let lower = body_fact o h (last dev) (omega arith) in
      (entry_of dev w.start head body, w.is, length-map head.inputs (parameter_of dev), length-map body.outputs (parameter_of dev) ∙ lower.as_many_outputs ∙ sym upper.as_many_outputs)

  -- a machine is no implementation
  lower : 0 < last dev
  lower = by_test (last dev) refl
    where
      kind : (l : Level) → IsKindAt 0 l.kind → is_implementation l ≡ true → ⊥
      kind l k h = of l.kind k h
        where
          of : (q : Kind) → IsKindAt 0 q → is_implementing q ≡ true → ⊥
          of Implementation k h = omega (arith, k)
          of Machine k h = absurd (cc)
          of Refinement k h = absurd (cc)

      by_test : (n : ℕ) → last dev ≡ n → 0 < n
      by_test zero h = absurd (kind (level_at dev 0) (level_fact dev f 0 (within 0 (omega arith))).kind (subst (λ n. is_implementation (level_at dev n) ≡ true) h b.complete))
      by_test (suc n) h = omega arith

  next-or-last : (k : ℕ) → suc k ≤ last dev → (suc k < last dev) ⊎ (suc k ≡ last dev)
  next-or-last k m = by_test (nat_lt (suc k) (last dev)) refl
    where
      by_test : (t : Bool) → nat_lt (suc k) (last dev) ≡ t → (suc k < last dev) ⊎ (suc k ≡ last dev)
      by_test true q = inl (grind (arith, nat_tests))
      by_test false q = inr (grind (arith, nat_tests))

  -- each level carries the one above it, the last one from equal values
  carry-body : (k : ℕ) → suc k ≤ last dev → (o : ℕ) → o < length dev.heads → (x : State) → IsTypedState dev.table x → AllHold find (at_state dev.table x) (unasserted_hypotheses dev (suc k) o) →
      (suc k ≡ last dev → AllHold find (at_state dev.table x) (map equation (beside (body_at dev (suc k) o).outputs (body_at dev k o).outputs))) →
      Establishes find dev (suc k) (whole (body_at dev (suc k) o)) x (Answered find dev (suc k) (body_at dev k o).sub (body_at dev (suc k) o).outputs (body_at dev k o).outputs)
  carry-body k m o is x t h eq = elim (next-or-last k m) [ inl p ↦ (carries k p).operations o is x t h | inr p ↦ elim lasts [ inl c ↦ (c k p).operations o is x t h | inr c ↦ (c.carries k p).operations o is x t h (eq p) ] ]

  carry-opening : (k : ℕ) → suc k ≤ last dev → (x : State) → IsTypedState dev.table x → AllHold find (at_state dev.table x) (init_hypotheses dev (suc k)) → (AreDistinct (seconds low.links) → suc k ≡ last dev → AllHold find (at_state dev.table x) (map equation (level_at dev (suc k)).links)) →
      Establishes find dev (suc k) (level_at dev (suc k)).init x (Answered find dev (suc k) (level_at dev k).init [] [])
  carry-opening k m x t h eq = elim (next-or-last k m) [ inl p ↦ (carries k p).init x t h | inr p ↦ elim lasts [ inl c ↦ (c k p).init x t h | inr c ↦ (c.carries k p).init x t h (eq c.apart p) ] ]

  -- the last level is an implementation
  arrays-last : (k : ℕ) → last dev ≡ k → arrays_at dev k ≡ Some (arrays_of dev)
  arrays-last k h = ap (λ c. cond c (Some (arrays_of dev)) None) (subst (λ n. is_implementation (level_at dev n) ≡ true) h b.complete)

  -- a state as cells show it has the constants' values, and is typed
  module _ (inputs outputs : List ℕ) (ins : (n : ℕ) → among inputs n ≡ true → among (cell_variables dev) n ≡ true) (outs : (n : ℕ) → among outputs n ≡ true → IsCell dev n) (m : List ℤ) (kinds : KindsHold dev m) (e : State) where
    abbrev scope : ℕ → Bool
    scope = names_own dev (last dev) inputs outputs

    sees-constants : (n : ℕ) → is_constant (home_of dev n) ≡ true → scope n ≡ true
    sees-constants = sees dev f b.complete inputs outputs ins outs

    laid-values : HasValues find dev (laid dev scope m e)
    laid-values = values-if dev find m (laid dev scope m e) dev.values f.values constants values.0 (λ n h. over-at scope (seen dev m) e n (sees-constants n (value-constant dev dev.values f.values n h)))

    laid-is-typed : IsTypedState dev.table e → IsTypedState dev.table (laid dev scope m e)
    laid-is-typed t = laid-typed dev scope m e (λ n h. seen-typed dev constants (arrays-have dev f) (arrays-typed dev f) m kinds (shapes dev b) n (known dev f b.complete inputs outputs ins outs n h)) t

  -- ---- the initialisation
  abbrev zeros : List ℤ
  zeros = replicate (cell_count dev) (pos 0)

  zeros-fit : KindsHold dev zeros
  zeros-fit = zeros-kinds dev (cell_variables dev) (λ x h. zero-fits dev f.range f.table (arrays-typed dev f) (arrays-scalar dev) x (shapes dev b x h))

  abbrev first_scope : ℕ → Bool
  first_scope = names_own dev (last dev) [] []

  abbrev base : State
  base n = base_of (declared_type dev.table n)

  abbrev first_laid : State
  first_laid = laid dev first_scope zeros base

  -- what the last level's variables are linked to has their values
  abbrev first_state : State
  first_state = with_values first_laid (seconds low.links) (map first_laid (firsts low.links))

  abbrev inits : ℕ → Substitution
  inits k = (level_at dev k).init

  abbrev no_outputs : ℕ → List ℕ
  no_outputs k = []

  low_fact : IsLevelOf dev (last dev) low
  low_fact = level_fact dev f (last dev) (within (last dev) (omega arith))

  typed-laid : IsTypedState dev.table first_laid
  typed-laid = laid-is-typed [] [] (λ n h. none-among n h) (λ n h. none-among n h) zeros zeros-fit base (base-typed dev f.table)

  values-laid : HasValues find dev first_laid
  values-laid = laid-values [] [] (λ n h. none-among n h) (λ n h. none-among n h) zeros zeros-fit base

  linked-types : (ls : List (ℕ × ℕ)) → Each (IsLink dev (last dev)) ls → are_values_for dev.table (seconds ls) (map first_laid (firsts ls)) ≡ true
  linked-types [] e = refl
  linked-types (p ∷ ls) e = and-true (is_value_of (set_size dev.table) (declared_type dev.table p.1) (first_laid p.0)) (are_values_for dev.table (seconds ls) (map first_laid (firsts ls)))
      (subst (λ t. is_value_of (set_size dev.table) t (first_laid p.0) ≡ true) (sym (declared-is dev p.1 e.0.alike.0 e.0.alike.2)) (typed-laid.typed p.0 e.0.alike.0 e.0.alike.1)) (linked-types ls e.1)

  typed-first : IsTypedState dev.table first_state
  typed-first = with_values-typed dev.table first_laid typed-laid (seconds low.links) (map first_laid (firsts low.links)) (linked-types low.links low_fact.links)

  -- a variable that is linked to is at home above
  linked-above : (ls : List (ℕ × ℕ)) → Each (IsLink dev (last dev)) ls → (n : ℕ) → among (seconds ls) n ≡ true → is_variable_above (last dev) (home_of dev n) ≡ true
  linked-above [] e n h = absurd (cc)
  linked-above (p ∷ ls) e n h = elim (or-cases (nat_eq n p.1) (among (seconds ls) n) h) [
    | inl q ↦ subst (λ m. is_variable_above (last dev) (home_of dev m) ≡ true) (sym (nat_eq-same n p.1 q)) (subst (λ j. is_variable_above j (home_of dev p.1) ≡ true) (sym e.0.above.1) e.0.above.2)
    | inr q ↦ linked-above ls e.1 n q
  ]

  unlinked : (n : ℕ) → is_variable_above (last dev) (home_of dev n) ≡ false → first_state n ≡ first_laid n
  unlinked n h = with_values-out first_laid (seconds low.links) (map first_laid (firsts low.links)) n (elim (cases (among (seconds low.links) n)) [ inl q ↦ clash (is_variable_above (last dev) (home_of dev n)) (linked-above low.links low_fact.links n q) h | inr q ↦ q ])

  constant-not-above : (k : ℕ) (o : Option Home) → is_constant o ≡ true → is_variable_above k o ≡ false
  constant-not-above zero o h = refl
  constant-not-above (suc k) None h = refl
  constant-not-above (suc k) (Some Constant) h = refl
  constant-not-above (suc k) (Some Input) h = refl
  constant-not-above (suc k) (Some (AbstractHome i)) h = absurd (cc)
  constant-not-above (suc k) (Some (Concrete i)) h = absurd (cc)
  constant-not-above (suc k) (Some (Inner i)) h = refl

  own-not-above : (k : ℕ) (o : Option Home) → is_variable_of k o ≡ true → is_variable_above k o ≡ false
  own-not-above zero o h = refl
  own-not-above (suc k) None h = refl
  own-not-above (suc k) (Some Constant) h = refl
  own-not-above (suc k) (Some Input) h = refl
  own-not-above (suc k) (Some (AbstractHome i)) h = grind (arith, nat_tests)
  own-not-above (suc k) (Some (Concrete i)) h = grind (arith, nat_tests)
  own-not-above (suc k) (Some (Inner i)) h = refl

  values-first : HasValues find dev first_state
  values-first = values-same dev find first_state first_laid dev.values f.values (λ n h. unlinked n (constant-not-above (last dev) (home_of dev n) h)) values-laid

  shown-first : (n : ℕ) → first_scope n ≡ true → first_state n ≡ seen dev zeros n
  shown-first n h = unlinked n (one_of_four (is_constant (home_of dev n)) (among [] n) (is_variable_of (last dev) (home_of dev n)) (among [] n) (is_variable_above (last dev) (home_of dev n) ≡ false) h
      (λ q. constant-not-above (last dev) (home_of dev n) q) (λ q. absurd (cc)) (λ q. own-not-above (last dev) (home_of dev n) q) (λ q. absurd (cc)))
      ∙ over-at first_scope (seen dev zeros) base n h

  -- linked variables start with the same values
  links-first : AreDistinct (seconds low.links) → (x : State) → ((n : ℕ) → is_before (suc (last dev)) (home_of dev n) ≡ true → x n ≡ first_state n) → AllHold find (at_state dev.table x) (map equation low.links)
  links-first apart x same = each low.links low_fact.links (λ n h. h) (values-at low.links apart first_laid)
    where
      values-at : (ls : List (ℕ × ℕ)) → AreDistinct (seconds ls) → (s : State) → map (with_values s (seconds ls) (map first_laid (firsts ls))) (seconds ls) ≡ map first_laid (firsts ls)
      values-at [] d s = refl
      values-at (p ∷ ls) d s =
          let first : with_values (with_value s p.1 (first_laid p.0)) (seconds ls) (map first_laid (firsts ls)) p.1 ≡ first_laid p.0 = with_values-out (with_value s p.1 (first_laid p.0)) (seconds ls) (map first_laid (firsts ls)) p.1 d.0 ∙ ap (λ t. cond t (first_laid p.0) (s p.1)) (nat_eq-self p.1) in
          let rest = values-at ls d.1 (with_value s p.1 (first_laid p.0)) in
          λ i. first i ∷ rest i

      each : (ls : List (ℕ × ℕ)) → Each (IsLink dev (last dev)) ls → ((n : ℕ) → among (seconds ls) n ≡ true → among (seconds ls) n ≡ true) → map first_state (seconds ls) ≡ map first_laid (firsts ls) → AllHold find (at_state dev.table x) (map equation ls)
      each [] e h v = tt
      each (p ∷ ls) e h v =
          let here : first_state p.1 ≡ first_laid p.0 = cc v in
          let rest : map first_state (seconds ls) ≡ map first_laid (firsts ls) = cc v in
          let up : is_variable_above (last dev) (home_of dev p.1) ≡ true = subst (λ j. is_variable_above j (home_of dev p.1) ≡ true) (sym e.0.above.1) e.0.above.2 in
          let equal : x p.0 ≡ x p.1 = same p.0 (variable-before (suc (last dev)) (last dev) (omega arith) (home_of dev p.0) e.0.below) ∙ unlinked p.0 (own-not-above (last dev) (home_of dev p.0) e.0.below) ∙ sym here ∙ sym (same p.1 (above-before (suc (last dev)) (last dev) (omega arith) (home_of dev p.1) up)) in
          (ap (is_equal (x p.0)) (sym equal) ∙ value_eq-self (x p.0), each ls e.1 (λ n q. q) rest)

  links-there : (k : ℕ) → (x : State) → ((n : ℕ) → is_before (suc (suc k)) (home_of dev n) ≡ true → x n ≡ first_state n) → AreDistinct (seconds low.links) → suc k ≡ last dev → AllHold find (at_state dev.table x) (map equation (level_at dev (suc k)).links)
  links-there k x same apart h = subst (λ j. AllHold find (at_state dev.table x) (map equation (level_at dev j).links)) (sym h) (links-first apart x (subst (λ j. (n : ℕ) → is_before (suc j) (home_of dev n) ≡ true → x n ≡ first_state n) h same))

  carry-init : Carry find dev inits no_outputs first_state
  carry-init k m x y t same r = (carry-opening k m x t (init-hyps (suc k) x t (values-from (suc (suc k)) x first_state same values-first)) (links-there k x same)).results y r

  init-clean : Clean find dev.table (Some (arrays_of dev)) low.init first_state
  init-clean = at (last dev) refl
    where
      at : (k : ℕ) → last dev ≡ k → Clean find dev.table (Some (arrays_of dev)) (level_at dev k).init first_state
      at zero h = subst (λ o. Clean find dev.table o (level_at dev 0).init first_state) (arrays-last 0 h) (keeps.init first_state typed-first (init-hyps 0 first_state typed-first values-first)).clean
      at (suc k) h = subst (λ o. Clean find dev.table o (level_at dev (suc k)).init first_state) (arrays-last (suc k) h) (carry-opening k (omega (arith, h)) first_state typed-first (init-hyps (suc k) first_state typed-first values-first) (links-there k first_state (λ n q. refl))).clean

  init-ends : Ends find dev.table low.init first_state
  init-ends = at (last dev) refl
    where
      at : (k : ℕ) → last dev ≡ k → Ends find dev.table (level_at dev k).init first_state
      at zero h = (keeps.init first_state typed-first (init-hyps 0 first_state typed-first values-first)).ends
      at (suc k) h = (carry-opening k (omega (arith, h)) first_state typed-first (init-hyps (suc k) first_state typed-first values-first) (links-there k first_state (λ n q. refl))).ends

  init-run : IsReturned find dev image first_scope low.init (length (init_code dev)) 0 zeros first_state
  init-run = openings_follow find dev image f b 0 zeros first_state (record {
    range = translated-greatest dev;
    stands = stands-first image 0 (init_code dev) (operations_code dev low.bodies) whole-stands;
    kinds = zeros-fit;
    shows = shown-first;
    clean = init-clean;
    ends = init-ends;
  })

  -- what the cells of the level's variables show
  vars-shown : (inputs outputs : List ℕ) (k : List ℤ) (top : State) → ((n : ℕ) → names_own dev (last dev) inputs outputs n ≡ true → top n ≡ seen dev k n) → (n : ℕ) → among low.vars n ≡ true → top n ≡ shown dev k n
  vars-shown inputs outputs k top shows n h =
      let c = is_constant (home_of dev n) in
      let i = among inputs n in
      let v = is_variable_of (last dev) (home_of dev n) in
      let o = among outputs n in
      let own : v ≡ true = all-among (λ x. is_variable_of (last dev) (home_of dev x)) low.vars (level_fact dev f (last dev) (within (last dev) (omega arith))).vars n h in
      shows n (or-left (c || i || v) o (or-right (c || i) v own)) ∙ seen-cell dev n k dev.values (var-cell dev f n h).0

  opening : OpensWell find dev image
  opening fuel =
      let run = init-run in
      let k = run.end.cells in
      let top = run.state in
      let subs = λ (i : ℕ) (m : i ≤ last dev). (level_fact dev f i (within i m)).init in
      let c = climbed find dev f [] inits no_outputs (λ i m. (level_fact dev f i (within i m)).init) (λ i m. tt) (λ i m. refl) first_state top carry-init typed-first run.runs in
      let before : HasValues find dev c.before = values-from 1 c.before first_state c.same values-first in
      let held : HasValues find dev c.after = values-from 0 c.after c.before (λ n h. stays-before find dev f [] inits no_outputs (λ i m. (level_fact dev f i (within i m)).init) (λ i m. tt) (λ i m. refl) 0 0 (omega arith) (omega arith) c.before c.after c.runs n h) before in
      let invariant = (keeps.init c.before c.typed (init-hyps 0 c.before c.typed before)).results c.after c.runs in
      let linked = linked-after k run.kinds [] inits no_outputs first_state top c (vars-shown [] [] k top run.shows) (level_fact dev f 0 (within 0 (omega arith))).init invariant held in
      let opens : Opens find dev (map c.after high.vars) = (c.before, c.after, c.typed, before, c.runs, refl) in
      let P = λ (m : List ℤ). (a : Abstract) × Opens find dev a × Linked find dev a m in
      done-well image (first_start image) P run.steps run.end run.returns (map c.after high.vars, opens, (c.after, linked)) fuel

  -- ---- a call
  module _ (a : Abstract) (mem : List ℤ) (c : Call) (e0 : State) (l : IsLinkedBy find dev a mem e0) (is : IsCall dev c) (true_before : Pre find dev c a) where
    abbrev head : Head
    head = slice_index_or dev.heads c.op blank_head

    abbrev sub : ℕ → Substitution
    sub k = (body_at dev k c.op).sub

    abbrev outs : ℕ → List ℕ
    outs k = (body_at dev k c.op).outputs

    abbrev condition : ℕ → Formula
    condition k = (body_at dev k c.op).condition

    fact : (k : ℕ) → k ≤ last dev → IsBodyOf dev k head (body_at dev 0 c.op) (body_at dev k c.op)
    fact k m = body_fact c.op is.op k m

    head_fact : IsHeadOf dev head
    head_fact = each-at (IsHeadOf dev) dev.heads c.op blank_head is.op f.heads

    as_many : (k : ℕ) → suc k ≤ last dev → length (outs (suc k)) ≡ length (outs k)
    as_many k m = (fact (suc k) m).as_many_outputs ∙ sym (fact k (omega arith)).as_many_outputs

    ins-there : (n : ℕ) → among head.inputs n ≡ true → among (cell_variables dev) n ≡ true
    ins-there = inputs-there dev f c.op is.op

    outs-there : (n : ℕ) → among (outs (last dev)) n ≡ true → IsCell dev n
    outs-there = outputs-there dev f c.op is.op

    is-input : (n : ℕ) → among head.inputs n ≡ true → is_input (home_of dev n) ≡ true
    is-input n h = all-among (λ y. is_input (home_of dev y)) head.inputs head_fact.inputs n h

    are-inputs : AreInputs dev head.inputs
    are-inputs n h = (each-among (IsScalarName dev) head.inputs (b.inputs c.op is.op) n h, (no-value dev f n (input_no_constant (home_of dev n) (is-input n h)), ins-there n h))

    -- the cells and the state at the start
    abbrev start_cells : List ℤ
    start_cells = given dev head.inputs (map as_number c.args) mem

    start-kinds : KindsHold dev start_cells
    start-kinds = given-kinds dev head.inputs c.args are-inputs is.types is.range mem l.cells.kinds

    abbrev scope_here : ℕ → Bool
    scope_here = names_own dev (last dev) head.inputs (outs (last dev))

    abbrev laid_here : State
    laid_here = laid dev scope_here start_cells e0

    -- the outputs of the level above the last start with the values of the last one's
    abbrev next : ℕ
    next = last dev - 1

    next-is : suc next ≡ last dev
    next-is = let p = lower in omega (arith, p)

    abbrev e : State
    e = with_values laid_here (outs next) (map laid_here (outs (last dev)))

    typed-laid-here : IsTypedState dev.table laid_here
    typed-laid-here = laid-is-typed head.inputs (outs (last dev)) ins-there outs-there start_cells start-kinds e0 l.typed

    output-types : (xs ys zs : List ℕ) → AllAlike dev.table xs zs → AllAlike dev.table ys zs → are_values_for dev.table xs (map laid_here ys) ≡ true
    output-types [] [] [] p q = refl
    output-types [] [] (z ∷ zs) p q = absurd p
    output-types [] (y ∷ ys) [] p q = absurd q
    output-types [] (y ∷ ys) (z ∷ zs) p q = absurd p
    output-types (x ∷ xs) ys [] p q = absurd p
    output-types (x ∷ xs) [] (z ∷ zs) p q = absurd q
    output-types (x ∷ xs) (y ∷ ys) (z ∷ zs) p q =
        let one : declared_type dev.table x ≡ declared_type dev.table y = declared-is dev x p.0.0 p.0.1 ∙ sym (declared-is dev z p.0.0 p.0.2) ∙ declared-is dev z q.0.0 q.0.2 ∙ sym (declared-is dev y q.0.0 q.0.1) in
        and-true (is_value_of (set_size dev.table) (declared_type dev.table x) (laid_here y)) (are_values_for dev.table xs (map laid_here ys))
        (subst (λ t. is_value_of (set_size dev.table) t (laid_here y) ≡ true) (sym (one ∙ declared-is dev y q.0.0 q.0.1)) (typed-laid-here.typed y q.0.0 q.0.1)) (output-types xs ys zs p.1 q.1)

    next-within : next ≤ last dev
    next-within = let p = next-is in omega (arith, p)

    typed-e : IsTypedState dev.table e
    typed-e = with_values-typed dev.table laid_here typed-laid-here (outs next) (map laid_here (outs (last dev))) (output-types (outs next) (outs (last dev)) (outs 0) (fact next next-within).output_types (fact (last dev) (omega arith)).output_types)

    -- all else is as it was
    laid-kept : (n : ℕ) → is_inner_of next (home_of dev n) ≡ false → e n ≡ laid_here n
    laid-kept n h = with_values-out laid_here (outs next) (map laid_here (outs (last dev))) n (all-none (λ y. is_inner_of next (home_of dev y)) (outs next) (fact next next-within).outputs n h)

    constant-not-inner : (j : ℕ) (o : Option Home) → is_constant o ≡ true → is_inner_of j o ≡ false
    constant-not-inner j None h = refl
    constant-not-inner j (Some Constant) h = refl
    constant-not-inner j (Some Input) h = refl
    constant-not-inner j (Some (AbstractHome i)) h = refl
    constant-not-inner j (Some (Concrete i)) h = refl
    constant-not-inner j (Some (Inner i)) h = absurd (cc)

    input-not-inner : (j : ℕ) (o : Option Home) → is_input o ≡ true → is_inner_of j o ≡ false
    input-not-inner j None h = refl
    input-not-inner j (Some Constant) h = refl
    input-not-inner j (Some Input) h = refl
    input-not-inner j (Some (AbstractHome i)) h = refl
    input-not-inner j (Some (Concrete i)) h = refl
    input-not-inner j (Some (Inner i)) h = absurd (cc)

    inner-above : (j k : ℕ) → j < k → (o : Option Home) → is_inner_of k o ≡ true → is_inner_of j o ≡ false
    inner-above j k p None h = refl
    inner-above j k p (Some Constant) h = refl
    inner-above j k p (Some Input) h = refl
    inner-above j k p (Some (AbstractHome i)) h = refl
    inner-above j k p (Some (Concrete i)) h = refl
    inner-above j k p (Some (Inner i)) h = grind (arith, nat_tests)

    scope-kept : (n : ℕ) → scope_here n ≡ true → e n ≡ laid_here n
    scope-kept n h = laid-kept n (one_of_four (is_constant (home_of dev n)) (among head.inputs n) (is_variable_of (last dev) (home_of dev n)) (among (outs (last dev)) n) (is_inner_of next (home_of dev n) ≡ false) h
        (λ q. constant-not-inner next (home_of dev n) q)
        (λ q. input-not-inner next (home_of dev n) (is-input n q))
        (λ q. variable_not_inner (last dev) next (home_of dev n) q)
        (λ q. inner-above next (last dev) (let p = next-is in omega (arith, p)) (home_of dev n) (all-among (λ x. is_inner_of (last dev) (home_of dev x)) (outs (last dev)) (fact (last dev) (omega arith)).outputs n q)))

    values-e : HasValues find dev e
    values-e = values-same dev find e laid_here dev.values f.values (λ n h. laid-kept n (constant-not-inner next (home_of dev n) h)) (laid-values head.inputs (outs (last dev)) ins-there outs-there start_cells start-kinds e0)

    shown-e : (n : ℕ) → scope_here n ≡ true → e n ≡ seen dev start_cells n
    shown-e n h = scope-kept n h ∙ over-at scope_here (seen dev start_cells) e0 n h

    -- the outputs of the last two levels have the same values
    outputs-equal : (k : ℕ) → (x : State) → ((n : ℕ) → is_before (suc (suc k)) (home_of dev n) ≡ true → x n ≡ e n) → suc k ≡ last dev → AllHold find (at_state dev.table x) (map equation (beside (outs (suc k)) (outs k)))
    outputs-equal k x same h =
        let here : k ≡ next = let p = next-is in omega (arith, h, p) in
        subst (λ j. AllHold find (at_state dev.table x) (map equation (beside (outs (suc k)) (outs j)))) (sym here) (subst (λ j. AllHold find (at_state dev.table x) (map equation (beside (outs j) (outs next)))) (sym h)
        (each (outs (last dev)) (outs next) (many-outputs next next-within) (fact next next-within).distinct_outputs laid_here
        (λ n q. same n (inner-before (suc (suc k)) (last dev) (omega (arith, h)) (home_of dev n) (last-inner n q)) ∙ laid-kept n (inner-above next (last dev) (let p = next-is in omega (arith, p)) (home_of dev n) (last-inner n q)))
        (λ n q. same n (inner-before (suc (suc k)) next (let p = next-is in omega (arith, h, p)) (home_of dev n) (all-among (λ y. is_inner_of next (home_of dev y)) (outs next) (fact next next-within).outputs n q)))))
      where
        last-inner : (n : ℕ) → among (outs (last dev)) n ≡ true → is_inner_of (last dev) (home_of dev n) ≡ true
        last-inner n q = all-among (λ y. is_inner_of (last dev) (home_of dev y)) (outs (last dev)) (fact (last dev) (omega arith)).outputs n q

        many-outputs : (j : ℕ) → j ≤ last dev → length (outs (last dev)) ≡ length (outs j)
        many-outputs j m = (fact (last dev) (omega arith)).as_many_outputs ∙ sym (fact j m).as_many_outputs

        each : (xs ys : List ℕ) → length xs ≡ length ys → AreDistinct ys → (s : State) → ((n : ℕ) → among xs n ≡ true → x n ≡ laid_here n) → ((n : ℕ) → among ys n ≡ true → x n ≡ with_values s ys (map laid_here xs) n) → AllHold find (at_state dev.table x) (map equation (beside xs ys))
        each [] ys l d s p q = tt
        each (a ∷ xs) [] l d s p q = absurd (omega (arith, l))
        each (a ∷ xs) (z ∷ ys) l d s p q =
            let low_value = p a (or-left (nat_eq a a) (among xs a) (nat_eq-self a)) in
            let high_value : x z ≡ laid_here a = q z (or-left (nat_eq z z) (among ys z) (nat_eq-self z)) ∙ with_values-out (with_value s z (laid_here a)) ys (map laid_here xs) z d.0 ∙ ap (λ t. cond t (laid_here a) (s z)) (nat_eq-self z) in
            let equal : x a ≡ x z = low_value ∙ sym high_value in
            (ap (is_equal (x a)) (sym equal) ∙ value_eq-self (x a), each xs ys (omega (arith, l)) d.1 (with_value s z (laid_here a)) (λ n k. p n (or-right (nat_eq n a) (among xs n) k)) (λ n k. q n (or-right (nat_eq n z) (among ys n) k)))

    input-in : (n : ℕ) → among head.inputs n ≡ true → scope_here n ≡ true
    input-in n h =
        let k = is_constant (home_of dev n) in
        let i = among head.inputs n in
        let v = is_variable_of (last dev) (home_of dev n) in
        let o = among (outs (last dev)) n in
        or-left (k || i || v) o (or-left (k || i) v (or-right k i h))

    variable-kept : (j n : ℕ) → is_variable_of j (home_of dev n) ≡ true → e n ≡ e0 n
    variable-kept j n h = elim (cases (scope_here n)) [
      | inl q ↦ (
          let own : is_variable_of (last dev) (home_of dev n) ≡ true = one_of_four (is_constant (home_of dev n)) (among head.inputs n) (is_variable_of (last dev) (home_of dev n)) (among (outs (last dev)) n) (is_variable_of (last dev) (home_of dev n) ≡ true) q
          (λ k. clash (is_constant (home_of dev n)) k (variable_no_constant j (home_of dev n) h))
          (λ k. clash (is_input (home_of dev n)) (is-input n k) (variable_not_input j (home_of dev n) h))
          (λ k. k)
          (λ k. clash (is_inner_of (last dev) (home_of dev n)) (all-among (λ x. is_inner_of (last dev) (home_of dev x)) (outs (last dev)) (fact (last dev) (omega arith)).outputs n k) (variable_not_inner j (last dev) (home_of dev n) h)) in
          let listed : among low.vars n ≡ true = (level_fact dev f (last dev) (within (last dev) (omega arith))).all n own in
          let no_input : among head.inputs n ≡ false = all-none (λ x. is_input (home_of dev x)) head.inputs head_fact.inputs n (variable_not_input j (home_of dev n) h) in
          let before : e0 n ≡ shown dev mem n = pointwise low.vars e0 (shown dev mem) l.cells.variables n listed in
          shown-e n q ∙ given-other dev head.inputs (map as_number c.args) are-inputs mem n no_input ∙ seen-cell dev n mem dev.values (var-cell dev f n listed).0 ∙ sym before
          )
      | inr q ↦ laid-kept n (variable_not_inner j next (home_of dev n) h) ∙ over-off scope_here (seen dev start_cells) e0 n q
    ]

    constant-kept : (n : ℕ) → is_constant (home_of dev n) ≡ true → e n ≡ e0 n
    constant-kept n h = elim (cases (scope_here n)) [
      | inl q ↦ shown-e n q ∙ sym (values-then dev find start_cells e0 dev.values f.values constants l.values n (values.1 n h))
      | inr q ↦ laid-kept n (constant-not-inner next (home_of dev n) h) ∙ over-off scope_here (seen dev start_cells) e0 n q
    ]

    above-kept : (j n : ℕ) → is_variable_above j (home_of dev n) ≡ true → e n ≡ e0 n
    above-kept zero n h = absurd (cc)
    above-kept (suc j) n h = variable-kept j n h

    joining-e : (j : ℕ) → j < length dev.levels → AllHold find (at_state dev.table e) (joining (level_at dev j))
    joining-e j h =
        let w = level_fact dev f j h in
        joining-same find dev.table dev j (level_at dev j) w.invariant.names w.links e0 e
        (λ n k. sym (one_of_three (is_constant (home_of dev n)) (is_variable_of j (home_of dev n)) (is_variable_above j (home_of dev n)) (e n ≡ e0 n) k (constant-kept n) (variable-kept j n) (above-kept j n)))
        (flat-then find dev e0 joining (length dev.levels) dev.levels l.joined j h h)

    -- a state that is e in all that is at home above shows the machine's state and has the arguments
    gives : (x : State) → IsTypedState dev.table x → ((n : ℕ) → is_before 1 (home_of dev n) ≡ true → x n ≡ e n) → Gives find dev c a x
    gives x t same = record {
      typed = t;
      values = values-from 1 x e same values-e;
      shown = map-same high.vars x e0 (λ n h.
          let own : is_variable_of 0 (home_of dev n) ≡ true = all-among (λ y. is_variable_of 0 (home_of dev y)) high.vars (level_fact dev f 0 (within 0 (omega arith))).vars n h in
          same n (variable-before 1 0 (omega arith) (home_of dev n) own) ∙ variable-kept 0 n own) ∙ l.abstract_state;
      args = map-same head.inputs x (seen dev start_cells) (λ n h. same n (input-before 1 (home_of dev n) (is-input n h)) ∙ shown-e n (input-in n h))
          ∙ given-shown dev head.inputs c.args are-inputs head_fact.distinct is.types is.range mem l.cells.kinds;
    }

    in-range : (x : State) → ((n : ℕ) → among head.inputs n ≡ true → x n ≡ e n) → (n : ℕ) → among head.inputs n ≡ true → is_number (variable_type dev.table n) ≡ true → holds find dev.table x (in_machine_range dev n) ≡ true
    in-range x same n h number =
        let z = slice_index_or start_cells (cell_of dev n) (pos 0) in
        let w = are-inputs n h in
        let own : declared_type dev.table n ≡ int_type = declared-is dev n int_type (number-is (variable_type dev.table n) number) in
        let value : x n ≡ int z = same n h ∙ shown-e n (input-in n h) ∙ seen-cell dev n start_cells dev.values w.1.0 ∙ scalar-shown dev n w.0.0 start_cells ∙ ap (λ t. number_as t z) own in
        ranged find dev.table x n (pos 0 -ℤ int_max dev) (int_max dev) z value (subst (λ t. is_of_kind dev t z ≡ true) own (scalar-kind dev n w.0.0 start_cells start-kinds w.1.1))

    ranges-there : (k : ℕ) (x : State) → ((n : ℕ) → among head.inputs n ≡ true → x n ≡ e n) → AllHold find (at_state dev.table x) (input_ranges dev k c.op)
    ranges-there k x same = elim (is_implementation (level_at dev k)) as (λ q. AllHold find (at_state dev.table x) (cond q (map (in_machine_range dev) (filter (λ y. is_number (variable_type dev.table y)) (inputs_of dev c.op))) [])) [
      | true ↦ ranges-true find dev.table x (in_machine_range dev) (λ y. is_number (variable_type dev.table y)) head.inputs (in-range x same)
      | false ↦ tt
    ]

    -- level k's hypotheses hold where the preconditions of the levels above it are true at the start
    Before : ℕ → Type 0
    Before k = (j : ℕ) → j ≤ k → holds find dev.table e (condition j) ≡ true

    hyps : (k : ℕ) → suc k ≤ last dev → Before k → (x : State) → IsTypedState dev.table x → ((n : ℕ) → is_before (suc (suc k)) (home_of dev n) ≡ true → x n ≡ e n) → AllHold find (at_state dev.table x) (unasserted_hypotheses dev (suc k) c.op)
    unfolding Before
    hyps k m conditions x t same =
        true-append find (at_state dev.table x) (init_hypotheses dev (suc k) ++ joinings_of dev (suc (suc k)) ++ conditions_of dev (suc k) c.op) (input_ranges dev (suc k) c.op)
        (true-append find (at_state dev.table x) (init_hypotheses dev (suc k) ++ joinings_of dev (suc (suc k))) (conditions_of dev (suc k) c.op)
        (true-append find (at_state dev.table x) (init_hypotheses dev (suc k)) (joinings_of dev (suc (suc k))) (init-hyps (suc k) x t (values-from (suc (suc k)) x e same values-e)) (flat-if find dev x joining (suc (suc k)) dev.levels joins))
        (flat-if find dev x (λ w. conjuncts (body_of w c.op).condition) (suc k) dev.levels conds))
        (ranges-there (suc k) x (λ n h. same n (input-before (suc (suc k)) (home_of dev n) (all-among (λ y. is_input (home_of dev y)) head.inputs head_fact.inputs n h))))
      where
        joins : (j : ℕ) → j < suc (suc k) → j < length dev.levels → AllHold find (at_state dev.table x) (joining (level_at dev j))
        joins j p q =
            let w = level_fact dev f j q in
            joining-same find dev.table dev j (level_at dev j) w.invariant.names w.links e x (λ n h. sym (same n (joined-before dev (suc (suc k)) j p n h))) (joining-e j q)

        conds : (j : ℕ) → j < suc k → j < length dev.levels → AllHold find (at_state dev.table x) (conjuncts (condition j))
        conds j p q =
            let w = fact j (omega arith) in
            let here : holds find dev.table x (condition j) ≡ holds find dev.table e (condition j) = holds-same find dev.table x e (names_own dev j head.inputs (outs j)) (condition j) w.condition_names (λ n h. same n (own-before dev (suc (suc k)) j (omega arith) head.inputs (outs j) head_fact.inputs w.outputs n h)) in
            parts-true find (at_state dev.table x) (condition j) (here ∙ conditions j (omega arith))

    below-or-same : (j k : ℕ) → j ≤ suc k → (j ≤ k) ⊎ (j ≡ suc k)
    below-or-same j k h = by_test (nat_lt j (suc k)) refl
      where
        by_test : (b : Bool) → nat_lt j (suc k) ≡ b → (j ≤ k) ⊎ (j ≡ suc k)
        by_test true x = inl (grind (arith, nat_tests))
        by_test false x = inr (grind (arith, nat_tests))

    conditions-hold : (k : ℕ) → k ≤ last dev → Before k
    unfolding Before
    conditions-hold zero m j p =
        let none : j ≡ 0 = omega arith in
        subst (λ i. holds find dev.table e (condition i) ≡ true) (sym none) (true_before e (gives e typed-e (λ n h. refl)))
    conditions-hold (suc k) m j p =
        let above : (i : ℕ) → i ≤ k → holds find dev.table e (condition i) ≡ true = conditions-hold k (omega arith) in
        let here = ends-condition find dev.table (condition (suc k)) (sub (suc k)) e (carry-body k m c.op is.op e typed-e (hyps k m above e typed-e (λ n h. refl)) (outputs-equal k e (λ n h. refl))).ends in
        elim (below-or-same j k p) [ inl q ↦ above j q | inr q ↦ subst (λ i. holds find dev.table e (condition i) ≡ true) (sym q) here ]

    carry-call : Carry find dev sub outs e
    carry-call k m x y t same r = (carry-body k m c.op is.op x t (hyps k m (conditions-hold k (omega arith)) x t same) (outputs-equal k x same)).results y (whole-runs find dev.table (body_at dev (suc k) c.op) x y r)

    abbrev last_body : Body
    last_body = body_at dev (last dev) c.op

    invariant-e : holds find dev.table e high.invariant ≡ true
    invariant-e = whole-true find (at_state dev.table e) high.invariant (true-first find (at_state dev.table e) (conjuncts high.invariant) (map equation high.links) (joining-e 0 (within 0 (omega arith))))

    between : IsBetweenCalls find dev e
    between = record { typed = typed-e; properties = properties-hold 1 e typed-e values-e; invariant = invariant-e }

    body-clean : Clean find dev.table (Some (arrays_of dev)) last_body.sub e
    body-clean = at (last dev) refl
      where
        of_whole : (k : ℕ) → Clean find dev.table (Some (arrays_of dev)) (whole (body_at dev k c.op)) e → Clean find dev.table (Some (arrays_of dev)) (sub k) e
        of_whole k = elim (is_btrue (condition k)) as (λ t. Clean find dev.table (Some (arrays_of dev)) (cond t (sub k) (pre (condition k) (sub k))) e → Clean find dev.table (Some (arrays_of dev)) (sub k) e) [ true ↦ λ h. h | false ↦ λ h. h.1 ]

        at : (k : ℕ) → last dev ≡ k → Clean find dev.table (Some (arrays_of dev)) (sub k) e
        at zero h = subst (λ o. Clean find dev.table o (sub 0) e) (arrays-last 0 h) (keeps.operations c.op is.op e between (true_before e (gives e typed-e (λ n q. refl)))).clean
        at (suc k) h =
            let below : suc k ≤ last dev = omega (arith, h) in
            of_whole (suc k) (subst (λ o. Clean find dev.table o (whole (body_at dev (suc k) c.op)) e) (arrays-last (suc k) h) (carry-body k below c.op is.op e typed-e (hyps k below (conditions-hold k (omega arith)) e typed-e (λ n q. refl)) (outputs-equal k e (λ n q. refl))).clean)

    body-ends : Ends find dev.table last_body.sub e
    body-ends = at (last dev) refl
      where
        of_whole : (k : ℕ) → Ends find dev.table (whole (body_at dev k c.op)) e → Ends find dev.table (sub k) e
        of_whole k = elim (is_btrue (condition k)) as (λ t. Ends find dev.table (cond t (sub k) (pre (condition k) (sub k))) e → Ends find dev.table (sub k) e) [ true ↦ λ h. h | false ↦ λ h. h.1 ]

        at : (k : ℕ) → last dev ≡ k → Ends find dev.table (sub k) e
        at zero h = (keeps.operations c.op is.op e between (true_before e (gives e typed-e (λ n q. refl)))).ends
        at (suc k) h =
            let below : suc k ≤ last dev = omega (arith, h) in
            of_whole (suc k) (carry-body k below c.op is.op e typed-e (hyps k below (conditions-hold k (omega arith)) e typed-e (λ n q. refl)) (outputs-equal k e (λ n q. refl))).ends

    body-run : (place : ℕ) → Stands image place (operation_code dev last_body) → IsReturned find dev image scope_here last_body.sub (length (operation_code dev last_body)) place start_cells e
    body-run place stands = operations_follow find dev image f b c.op is.op place start_cells e (record {
      range = translated-greatest dev;
      stands = stands;
      kinds = start-kinds;
      shows = shown-e;
      clean = body-clean;
      ends = body-ends;
    })

    abbrev entry_here : ℕ → OpEntry
    entry_here place = entry_of dev place head last_body

    step-from : (k : List ℤ) (top : State) → KindsHold dev k → ((n : ℕ) → scope_here n ≡ true → top n ≡ seen dev k n) → Climbed find dev sub outs e top zero → (place : ℕ) → IsStep find dev c (entry_here place) a k
    step-from k top kinds shows w place =
        let given_before = gives w.before w.typed w.same in
        let zero-fact = fact 0 (omega arith) in
        let before : HasValues find dev w.before = values-from 1 w.before e w.same values-e in
        let held : HasValues find dev w.after = values-from 0 w.after w.before (λ n h. stays-before find dev f head.inputs sub outs (λ i m. (fact i m).sub) (λ i m. (fact i m).outputs) as_many 0 0 (omega arith) (omega arith) w.before w.after w.runs n h) before in
        let inv-before : holds find dev.table w.before high.invariant ≡ true = holds-same find dev.table w.before e (names_joined dev 0) high.invariant (level_fact dev f 0 (within 0 (omega arith))).invariant.names (λ n h. w.same n (joined-before dev 1 0 (omega arith) n h)) ∙ invariant-e in
        let inv-after = (keeps.operations c.op is.op w.before (record { typed = w.typed; properties = properties-hold 1 w.before w.typed before; invariant = inv-before }) (true_before w.before given_before)).results w.after w.runs in
        let linked = linked-after k kinds head.inputs sub outs e top w (vars-shown head.inputs (outs (last dev)) k top shows) zero-fact.sub inv-after held in
        let replied : replies dev c.op (map (parameter_of dev) (outs (last dev))) k ≡ map (λ x. number_as (declared_type dev.table x) (slice_index_or k (cell_of dev x) (pos 0))) (outs (last dev)) = alike-declared dev (outs (last dev)) (outs 0) (fact (last dev) (omega arith)).output_types k in
        let lower : map top (outs (last dev)) ≡ map (λ x. number_as (declared_type dev.table x) (slice_index_or k (cell_of dev x) (pos 0))) (outs (last dev)) =
        map-same (outs (last dev)) top (λ x. number_as (declared_type dev.table x) (slice_index_or k (cell_of dev x) (pos 0))) (λ n h. shows n (output-in n h) ∙ seen-cell dev n k dev.values (outs-there n h).0 ∙ scalar-shown dev n (output-plain n h) k) in
        let told : map w.after (outs 0) ≡ replies dev c.op (map (parameter_of dev) (outs (last dev))) k = w.gives ∙ lower ∙ sym replied in
        (map w.after high.vars, (w.before, w.after, given_before, w.runs, told, refl), (w.after, linked))
      where
        output-in : (n : ℕ) → among (outs (last dev)) n ≡ true → scope_here n ≡ true
        output-in n h =
            let i = is_constant (home_of dev n) || among head.inputs n || is_variable_of (last dev) (home_of dev n) in
            or-right i (among (outs (last dev)) n) h

        in-bodies : c.op < length low.bodies
        in-bodies = subst (λ n. c.op < n) (last_paired dev f) is.op

        output-plain : (n : ℕ) → among (outs (last dev)) n ≡ true → row_of (arrays_of dev) n ≡ None
        output-plain n h = (each-among (IsScalarName dev) (outs (last dev)) (each-at (IsB0Body dev) low.bodies c.op blank_body in-bodies b.bodies).outputs n h).0

    GoesOn : OpEntry → Type 0
    GoesOn entry = IsDone image (started entry c mem) × ((fuel : ℕ) → GoesWell image fuel (started entry c mem) (IsStep find dev c entry a))

    goes-on : (place : ℕ) → Stands image place (operation_code dev last_body) → GoesOn (entry_here place)
    unfolding GoesOn
    goes-on place stands =
        let run = body-run place stands in
        let w = climbed find dev f head.inputs sub outs (λ k m. (fact k m).sub) (λ k m. (fact k m).outputs) as_many e run.state carry-call typed-e run.runs in
        let P = IsStep find dev c (entry_here place) a in
        let step : P run.end.cells = step-from run.end.cells run.state run.kinds run.shows w place in
        ((run.steps, run.steps, run.end, (omega arith, run.returns)), λ fuel. done-well image (started (entry_here place) c mem) P run.steps run.end run.returns step fuel)

    entry-is : (entry : OpEntry) → IsEntry image c.op entry → entry_here (enter c.op is.op).start ≡ entry
    entry-is entry there = same_Some (entry_here (enter c.op is.op).start) entry (sym (enter c.op is.op).is ∙ there)

    goes-well : (entry : OpEntry) → IsEntry image c.op entry → IsDone image (started entry c mem) × ((fuel : ℕ) → GoesWell image fuel (started entry c mem) (IsStep find dev c entry a))
    unfolding GoesOn
    goes-well entry there = subst GoesOn (entry-is entry there) (goes-on (enter c.op is.op).start (enter c.op is.op).stands)

    ends-within : HasNoLoop last_body.sub → (entry : OpEntry) → IsEntry image c.op entry → CallEnds dev image c entry mem
    ends-within h entry there =
        let w = enter c.op is.op in
        subst (λ x. CallEnds dev image c x mem) (entry-is entry there) ((returns_end find dev image scope_here last_body.sub (length (operation_code dev last_body)) w.start start_cells e (body-run w.start w.stands)).1 h)

  calls : CallsGoWell find dev image
  calls a m c entry h = goes-well a m c h.linked.0 h.linked.1 h.call h.pre entry h.named

  pub image-follows : Follows find dev image
  image-follows = calls_decide find dev image operations opening calls

  pub image-ends : EndsWithoutLoops find dev image
  image-ends = record {
    opening = λ h. (returns_end find dev image first_scope low.init (length (init_code dev)) 0 zeros first_state init-run).1 h;
    session = λ fuel l m cs c outs entry h n.
        let w = linked_before find dev image opening calls fuel l m cs c outs n.begun n.calls n.done n.legal in
        ends-within w.0 m c w.1.0 w.1.1 n.call w.2 h entry n.named;
    local = λ a m c entry h k. ends-within a m c k.linked.0 k.linked.1 k.call k.pre h entry k.named;
  }
