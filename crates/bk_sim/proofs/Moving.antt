-- Where the flattened development is followed, the development is.
use Rattle.std.proofs.Common.{◌≡◌, ◌<◌, ℕ, zero, suc, ℤ, List, [], ◌∷◌, length, map, refl, sym, ◌∙◌, ap, subst, true, ◌&&◌, cond, nat_eq, arith, Some, None, Option}
use Rattle.std.specs.Prelude.{slice_index_or, slice_get, is_some, unwrap_or}
use Rattle.std.specs.Option.{option_map}
use Rattle.bk_val.specs.Value.{MathValue}
use Rattle.bk_val.specs.ValueType.{ValueType, bool_type, base_of, is_value_of, are_of_types}
use Rattle.bk_form.specs.Table.{VariableEntry, set_size, variable_type, lists_type, IsWellFormed}
use Rattle.bk_form.specs.Formula.{Formula, literal, truth_value, element}
use Rattle.bk_form.specs.Search.{Finder}
use Rattle.bk_form.specs.Environment.{State, at_state, IsTypedState}
use Rattle.bk_form.proofs.Members.{or-left, or-right}
use Rattle.bk_form.proofs.Valued.{base-of}
use Rattle.bk_gsl.specs.State.{holds, declared_type, among}
use Rattle.bk_form.specs.Predicates.{IsPredicate, AllHold, conjuncts, equation}
use Rattle.bk_gsl.proofs.States.{nat_eq-self}
use Rattle.bk_dev.specs.Development.{Head, Body, Level, Development, blank_body, level_at, body_at, last, inputs_of}
use Rattle.bk_form.specs.Each.{Each}
use Rattle.bk_dev.specs.Facts.{IsLiteral, IsValue, IsLink, LastIsFlat, IsLawful}
use Rattle.bk_dev.specs.Hypotheses.{value_equation, joining, joinings_of}
use Rattle.bk_dev.specs.Machine.{Abstract, HasValues, ShowsAbstract, Opens, Call, Gives, Pre, Steps, is_in_int, are_in_int, IsCall}
use Rattle.bk_dev.specs.Claims.{ValuesMeet}
use Rattle.bk_dev.specs.Flattened.{flattened}
use Rattle.bk_code.specs.declared.image.Image.{Image}
use Rattle.bk_code.specs.declared.image.Parameter.{Parameter}
use Rattle.bk_code.specs.Step.{Config}
use Rattle.bk_code.specs.Run.{End, Done, Trapped, OutOfFuel}
use Rattle.bk_code.specs.Session.{first_start, outputs_of}
use Rattle.bk_b0.specs.Kinds.{number_as}
use Rattle.bk_sim.specs.Shown.{shown}
use Rattle.bk_sim.specs.Shows.{Shows, Linked}
use Rattle.bk_sim.specs.Follows.{as_values, replies, started, IsGood, GoesWell, IsStep, HasOperations, OpensWell, CallsGoWell, Follows}
use Rattle.bk_form.proofs.Conjuncts.{parts-true, whole-true, true-append, true-first, true-second}
use Rattle.bk_dev.proofs.Climb.{flat-then, flat-if}
use Rattle.bk_sim.specs.Laws.{FollowedWhereFlattened}
use Rattle.bk_sim.proofs.Chain.{calls_decide}
use Rattle.bk_form.specs.Wider.{IsTypedRole}
use Rattle.bk_dev.proofs.Levels.{level_fact, body-at}
use Rattle.bk_dev.proofs.FlatLevels.{wider}
use Rattle.bk_dev.proofs.FlatMachines.{flattened_runs}
use Rattle.bk_gsl.proofs.WiderRuns.{state-narrower}
use Rattle.bk_form.proofs.Widening.{widening_means, variable-wider, variables_listed, value-same, type-listed}
use Rattle.bk_dev.proofs.FlatSame.{levels-many, level-is, body-is, maps-same, low-same, declared-same}
use Rattle.bk_sim.proofs.FlatShown.{kinds-down, kinds-up, shown-same}
use Rattle.bk_dev.proofs.InTable.{blank_head, vars-in, inputs-in, outputs-in, low-vars, cells-in-table}
use Rattle.bk_dev.proofs.Room.{flat-formed}

-- ---- ends
good-so : (image : Image) (fuel : ℕ) (start : Config) (P Q : List ℤ → Type 0) → ((m : List ℤ) → P m → Q m) → (end : End) (d : Config) → IsGood image fuel start P end d → IsGood image fuel start Q end d
good-so image fuel start P Q so (Done n) d h = so d.cells h
good-so image fuel start P Q so (Trapped kind place n) d h = h
good-so image fuel start P Q so OutOfFuel d h = h

well-so : (image : Image) (fuel : ℕ) (start : Config) (P Q : List ℤ → Type 0) → ((m : List ℤ) → P m → Q m) → GoesWell image fuel start P → GoesWell image fuel start Q
well-so image fuel start P Q so h = λ end d e. good-so image fuel start P Q so end d (h end d e)

listed-at : (vs : List VariableEntry) (n : ℕ) → n < length vs → (t : ValueType) × (option_map (λ v. v.of_type) (slice_get vs n) ≡ Some t)
listed-at [] n h = absurd (omega (arith, h))
listed-at (v ∷ vs) zero h = (v.of_type, refl)
listed-at (v ∷ vs) (suc n) h = listed-at vs n (omega (arith, h))

each-in : (P : Body → Type 0) (bs : List Body) → P blank_body → Each P bs → (o : ℕ) → P (slice_index_or bs o blank_body)
each-in P [] d h o = d
each-in P (b ∷ bs) d h zero = h.0
each-in P (b ∷ bs) d h (suc o) = each-in P bs d h.1 o

each-head : (P : Head → Type 0) (hs : List Head) → P blank_head → Each P hs → (o : ℕ) → P (slice_index_or hs o blank_head)
each-head P [] d h o = d
each-head P (b ∷ bs) d h zero = h.0
each-head P (b ∷ bs) d h (suc o) = each-head P bs d h.1 o

-- ---- two tables
module _ (find : Finder) (dev : Development) (f : IsLawful dev) (well : IsWellFormed (flattened dev).table) where
  abbrev old : ℕ
  old = length dev.table.variables

  abbrev flat : Development
  flat = flattened dev

  pub holds-both : (d e : State) → ((n : ℕ) (t : ValueType) → variable_type dev.table n ≡ Some t → d n ≡ e n) → (p : Formula) → IsPredicate dev.table p → holds find flat.table d p ≡ holds find dev.table e p
  holds-both d e same p h = ap (λ m. m.truth) (widening_means find (at_state dev.table e) flat.table d f.table (wider dev f well) same p (subst IsTypedRole (sym h) tt))

  -- base values for the copies
  abbrev pub filled : State → State
  filled e n = cond (is_some (variable_type dev.table n)) (e n) (base_of (declared_type flat.table n))

  pub filled-same : (e : State) (n : ℕ) (t : ValueType) → variable_type dev.table n ≡ Some t → filled e n ≡ e n
  filled-same e n t q = ap (λ o. cond (is_some o) (e n) (base_of (declared_type flat.table n))) q

  pub filled-typed : (e : State) → IsTypedState dev.table e → IsTypedState flat.table (filled e)
  filled-typed e h = record { typed = λ n t q. at n t q (variable_type dev.table n) refl }
    where
      at : (n : ℕ) (t : ValueType) → variable_type flat.table n ≡ Some t → (o : Option ValueType) → variable_type dev.table n ≡ o → is_value_of (set_size flat.table) t (cond (is_some o) (e n) (base_of (declared_type flat.table n))) ≡ true
      at n t q None r = subst (λ o. is_value_of (set_size flat.table) t (base_of (unwrap_or o bool_type)) ≡ true) (sym q) (base-of flat.table well t (type-listed flat.table well n t q))
      at n t q (Some u) r =
          let e' : Some t ≡ Some u = sym q ∙ variable-wider dev.table flat.table f.table (wider dev f well) n u r in
          let k : t ≡ u = cc in
          value-same dev.table flat.table f.table (wider dev f well) t (subst (λ x. lists_type dev.table x ≡ true) (sym k) (variables_listed dev.table flat.table f.table (wider dev f well) n u r)) (e n)
          ∙ h.typed n t (r ∙ ap Some (sym k))

  pub filled-old : (e : State) (n : ℕ) → n < old → filled e n ≡ e n
  filled-old e n h = let w = listed-at dev.table.variables n h in filled-same e n w.0 w.1

  typed-down : (e : State) → IsTypedState flat.table e → IsTypedState dev.table e
  typed-down e h = state-narrower dev.table flat.table f.table (wider dev f well) e h

  -- ---- values
  equation-both : (d e : State) (p : ℕ × Formula) → IsLiteral dev p.1 → d p.0 ≡ e p.0 → holds find flat.table d (value_equation p) ≡ holds find dev.table e (value_equation p)
  equation-both d e (n, literal z) l h = ap (λ v. Rattle.bk_form.specs.Operators.is_equal v (Rattle.bk_val.specs.Value.int z)) h
  equation-both d e (n, truth_value b) l h = ap (λ v. Rattle.bk_form.specs.Operators.is_equal v (Rattle.bk_val.specs.Value.bool b)) h
  equation-both d e (n, element s i) l h = ap (λ v. Rattle.bk_form.specs.Operators.is_equal v (Rattle.bk_val.specs.Value.elem s i)) h
  equation-both d e (n, p) l h = absurd l

  values-down : (d e : State) → ((n : ℕ) (t : ValueType) → variable_type dev.table n ≡ Some t → d n ≡ e n) → (ps : List (ℕ × Formula)) → Each (IsValue dev) ps → AllHold find (at_state flat.table d) (map value_equation ps) → AllHold find (at_state dev.table e) (map value_equation ps)
  values-down d e same [] v h = tt
  values-down d e same (p ∷ ps) v h = (sym (equation-both d e p v.0.is_literal (same p.0 v.0.of_type.0 v.0.of_type.1)) ∙ h.0, values-down d e same ps v.1 h.1)

  values-up : (d e : State) → ((n : ℕ) (t : ValueType) → variable_type dev.table n ≡ Some t → d n ≡ e n) → (ps : List (ℕ × Formula)) → Each (IsValue dev) ps → AllHold find (at_state dev.table e) (map value_equation ps) → AllHold find (at_state flat.table d) (map value_equation ps)
  values-up d e same [] v h = tt
  values-up d e same (p ∷ ps) v h = (equation-both d e p v.0.is_literal (same p.0 v.0.of_type.0 v.0.of_type.1) ∙ h.0, values-up d e same ps v.1 h.1)

  pub has-down : (e : State) → HasValues find flat e → HasValues find dev e
  has-down e h = values-down e e (λ n t q. refl) dev.values f.values h

  pub has-up : (e : State) → HasValues find dev e → HasValues find flat (filled e)
  has-up e h = values-up (filled e) e (filled-same e) dev.values f.values h

  -- ---- invariants and links
  links-down : (d e : State) → ((n : ℕ) (t : ValueType) → variable_type dev.table n ≡ Some t → d n ≡ e n) → (k : ℕ) (ls : List (ℕ × ℕ)) → Each (IsLink dev k) ls → AllHold find (at_state flat.table d) (map equation ls) → AllHold find (at_state dev.table e) (map equation ls)
  links-down d e same k [] w h = tt
  links-down d e same k (p ∷ ls) w h =
      let a = same p.0 w.0.alike.0 w.0.alike.1 in
      let b = same p.1 w.0.alike.0 w.0.alike.2 in
      ((λ i. Rattle.bk_form.specs.Operators.is_equal (sym a i) (sym b i)) ∙ h.0, links-down d e same k ls w.1 h.1)

  links-up : (d e : State) → ((n : ℕ) (t : ValueType) → variable_type dev.table n ≡ Some t → d n ≡ e n) → (k : ℕ) (ls : List (ℕ × ℕ)) → Each (IsLink dev k) ls → AllHold find (at_state dev.table e) (map equation ls) → AllHold find (at_state flat.table d) (map equation ls)
  links-up d e same k [] w h = tt
  links-up d e same k (p ∷ ls) w h =
      let a = same p.0 w.0.alike.0 w.0.alike.1 in
      let b = same p.1 w.0.alike.0 w.0.alike.2 in
      ((λ i. Rattle.bk_form.specs.Operators.is_equal (a i) (b i)) ∙ h.0, links-up d e same k ls w.1 h.1)

  joining-down : (d e : State) → ((n : ℕ) (t : ValueType) → variable_type dev.table n ≡ Some t → d n ≡ e n) → (k : ℕ) → k < length dev.levels → AllHold find (at_state flat.table d) (joining (level_at dev k)) → AllHold find (at_state dev.table e) (joining (level_at dev k))
  joining-down d e same k h a =
      let l = level_at dev k in
      let w = level_fact dev f k h in
      true-append find (at_state dev.table e) (conjuncts l.invariant) (map equation l.links)
      (parts-true find (at_state dev.table e) l.invariant (sym (holds-both d e same l.invariant w.invariant.is_predicate) ∙ whole-true find (at_state flat.table d) l.invariant (true-first find (at_state flat.table d) (conjuncts l.invariant) (map equation l.links) a)))
      (links-down d e same k l.links w.links (true-second find (at_state flat.table d) (conjuncts l.invariant) (map equation l.links) a))

  joining-up : (d e : State) → ((n : ℕ) (t : ValueType) → variable_type dev.table n ≡ Some t → d n ≡ e n) → (k : ℕ) → k < length dev.levels → AllHold find (at_state dev.table e) (joining (level_at dev k)) → AllHold find (at_state flat.table d) (joining (level_at dev k))
  joining-up d e same k h a =
      let l = level_at dev k in
      let w = level_fact dev f k h in
      true-append find (at_state flat.table d) (conjuncts l.invariant) (map equation l.links)
      (parts-true find (at_state flat.table d) l.invariant (holds-both d e same l.invariant w.invariant.is_predicate ∙ whole-true find (at_state dev.table e) l.invariant (true-first find (at_state dev.table e) (conjuncts l.invariant) (map equation l.links) a)))
      (links-up d e same k l.links w.links (true-second find (at_state dev.table e) (conjuncts l.invariant) (map equation l.links) a))

  many : length flat.levels ≡ length dev.levels
  many = levels-many old dev.levels

  joined-down : (e : State) → AllHold find (at_state flat.table e) (joinings_of flat (length flat.levels)) → AllHold find (at_state dev.table e) (joinings_of dev (length dev.levels))
  joined-down e h = flat-if find dev e joining (length dev.levels) dev.levels (λ j p q.
      let count = many in
      let there = flat-then find flat e joining (length flat.levels) flat.levels h j (omega (arith, count, q)) (omega (arith, count, q)) in
      joining-down e e (λ n t r. refl) j q (subst (λ l. AllHold find (at_state flat.table e) (joining l)) (level-is dev j).1 there))

  joined-up : (e : State) → AllHold find (at_state dev.table e) (joinings_of dev (length dev.levels)) → AllHold find (at_state flat.table (filled e)) (joinings_of flat (length flat.levels))
  joined-up e h = flat-if find flat (filled e) joining (length flat.levels) flat.levels (λ j p q.
      let count = many in
      let below : j < length dev.levels = omega (arith, count, q) in
      subst (λ l. AllHold find (at_state flat.table (filled e)) (joining l)) (sym (level-is dev j).1) (joining-up (filled e) e (filled-same e) j below (flat-then find dev e joining (length dev.levels) dev.levels h j below below)))

  -- ---- the constants' values meet the properties of the one where they do of the other

  pub meet-down : ValuesMeet find dev → ValuesMeet find flat
  meet-down m e t v =
      let h = m e (typed-down e t) (has-down e v) in
      flat-if find flat e (λ l. conjuncts l.properties) (length flat.levels) flat.levels (λ j p q.
      let count = many in
      let below : j < length dev.levels = omega (arith, count, q) in
      let here = flat-then find dev e (λ l. conjuncts l.properties) (length dev.levels) dev.levels h j below below in
      let w = level_fact dev f j below in
      subst (λ l. AllHold find (at_state flat.table e) (conjuncts l.properties)) (sym (level-is dev j).1) (parts-true find (at_state flat.table e) (level_at dev j).properties (holds-both e e (λ n t q. refl) (level_at dev j).properties w.properties ∙ whole-true find (at_state dev.table e) (level_at dev j).properties here)))

  -- ---- the abstract machine
  high-same : (level_at flat 0).vars ≡ (level_at dev 0).vars
  high-same = ap (λ (l : Level). l.vars) (level-is dev 0).1

  condition-same : (o : ℕ) → (body_at flat 0 o).condition ≡ (body_at dev 0 o).condition
  condition-same o = ap (λ (c : Body). c.condition) (body-is dev 0 o).1

  outputs-same : (o : ℕ) → (body_at flat 0 o).outputs ≡ (body_at dev 0 o).outputs
  outputs-same o = ap (λ (c : Body). c.outputs) (body-is dev 0 o).1

  shows-down : (e : State) (a : Abstract) → ShowsAbstract flat e a → ShowsAbstract dev e a
  shows-down e a h = sym (ap (map e) high-same) ∙ h

  opens-down : (a : Abstract) → Opens find flat a → Opens find dev a
  opens-down a h = (h.0, h.1, typed-down h.0 h.2, has-down h.0 h.3, flattened_runs.init find dev f 0 f.some_level h.0 h.1 h.4, shows-down h.1 a h.5)

  gives-down : (c : Call) (a : Abstract) (e : State) → Gives find flat c a e → Gives find dev c a e
  gives-down c a e g = record { typed = typed-down e g.typed; values = has-down e g.values; shown = shows-down e a g.shown; args = g.args }

  pub pre-up : (c : Call) → c.op < length dev.heads → (a : Abstract) → Pre find dev c a → Pre find flat c a
  pre-up c low a h e g =
      let w = body-at dev 0 dev.heads (level_at dev 0).bodies (level_at dev 0).bodies blank_head c.op low (level_fact dev f 0 f.some_level).bodies in
      ap (holds find flat.table e) (condition-same c.op) ∙ holds-both e e (λ n t q. refl) (body_at dev 0 c.op).condition w.condition ∙ h e (gives-down c a e g)

  steps-down : (c : Call) → c.op < length dev.heads → (a : Abstract) (us : List MathValue) (b : Abstract) → Steps find flat c a us b → Steps find dev c a us b
  steps-down c low a us b s = (
    s.0,
    s.1,
    gives-down c a s.0 s.2,
    flattened_runs.operations find dev f 0 f.some_level c.op low s.0 s.1 s.3,
    sym (ap (map s.1) (outputs-same c.op)) ∙ s.4,
    shows-down s.1 b s.5,
  )

  -- ---- cells
  module _ (b : LastIsFlat dev) where
    pub low-level : level_at flat (last flat) ≡ level_at dev (last dev)
    low-level = low-same dev f.some_level b.init b.bodies

    shown-list : (m : List ℤ) → map (shown flat m) (level_at dev (last dev)).vars ≡ map (shown dev m) (level_at dev (last dev)).vars
    shown-list m = maps-same (shown flat m) (shown dev m) (level_at dev (last dev)).vars (λ n q. shown-same dev f.some_level b.init b.bodies (low-vars dev f) n (low-vars dev f n q) m)

    cells-down : (m : List ℤ) (e : State) → Shows flat m e → Shows dev m e
    cells-down m e s = record {
      kinds = kinds-down dev f.some_level b.init b.bodies (low-vars dev f) (cells-in-table dev f) m s.kinds;
      variables = subst (λ (l : Level). map e l.vars ≡ map (shown flat m) l.vars) low-level s.variables ∙ shown-list m;
    }

    cells-up : (m : List ℤ) (e : State) → Shows dev m e → Shows flat m (filled e)
    cells-up m e s = record {
      kinds = kinds-up dev f.some_level b.init b.bodies (low-vars dev f) (cells-in-table dev f) m s.kinds;
      variables = subst (λ (l : Level). map (filled e) l.vars ≡ map (shown flat m) l.vars) (sym low-level)
          (maps-same (filled e) e (level_at dev (last dev)).vars (λ n q. filled-old e n (low-vars dev f n q)) ∙ s.variables ∙ sym (shown-list m));
    }

    linked-down : (a : Abstract) (m : List ℤ) → Linked find flat a m → Linked find dev a m
    linked-down a m h = (h.0, record { typed = typed-down h.0 h.1.typed; values = has-down h.0 h.1.values; abstract_state = shows-down h.0 a h.1.abstract_state; cells = cells-down m h.0 h.1.cells; joined = joined-down h.0 h.1.joined })

    pub linked-up : (a : Abstract) (m : List ℤ) → Linked find dev a m → Linked find flat a m
    linked-up a m h =
        let e = h.0 in (
          filled e,
          record {
            typed = filled-typed e h.1.typed;
            values = has-up e h.1.values;
            abstract_state = ap (map (filled e)) high-same ∙ maps-same (filled e) e (level_at dev 0).vars (λ n q. filled-old e n (vars-in dev f 0 f.some_level n q)) ∙ h.1.abstract_state;
            cells = cells-up m e h.1.cells;
            joined = joined-up e h.1.joined;
          },
        )

    -- ---- calls
    range-same : (vs : List MathValue) → are_in_int flat vs ≡ are_in_int dev vs
    range-same [] = refl
    range-same (v ∷ vs) = λ i. one v i && range-same vs i
      where
        one : (v : MathValue) → is_in_int flat v ≡ is_in_int dev v
        one (Rattle.bk_val.specs.Value.int z) = refl
        one v = refl

    abbrev InTable : List ℕ → Type 0
    InTable xs = (n : ℕ) → among xs n ≡ true → n < old

    declared : (n : ℕ) → n < old → declared_type flat.table n ≡ declared_type dev.table n
    declared n h = declared-same dev f.some_level b.init b.bodies n h

    inputs-there : (o : ℕ) → InTable (inputs_of dev o)
    inputs-there o = each-head (λ h. InTable h.inputs) dev.heads (λ n q. absurd (cc)) (inputs-in dev f dev.heads f.heads) o

    outputs-there : (o : ℕ) → InTable (body_at dev 0 o).outputs
    outputs-there o = each-in (λ c. InTable c.outputs) (level_at dev 0).bodies (λ n q. absurd (cc)) (outputs-in dev f 0 dev.heads (level_at dev 0).bodies (level_at dev 0).bodies (level_fact dev f 0 f.some_level).bodies) o

    pub call-up : (c : Call) → IsCall dev c → IsCall flat c
    call-up c h = record {
      op = h.op;
      types = ap (λ ts. are_of_types (set_size dev.table) ts c.args) (maps-same (declared_type flat.table) (declared_type dev.table) (inputs_of dev c.op) (λ n q. declared n (inputs-there c.op n q))) ∙ h.types;
      range = range-same c.args ∙ h.range;
    }

    as-same : (xs : List ℕ) → InTable xs → (zs : List ℤ) → as_values flat xs zs ≡ as_values dev xs zs
    as-same [] h zs = refl
    as-same (x ∷ xs) h [] = refl
    as-same (x ∷ xs) h (z ∷ zs) =
        let first = declared x (h x (or-left (nat_eq x x) (among xs x) (nat_eq-self x))) in
        let rest = as-same xs (λ n q. h n (or-right (nat_eq n x) (among xs n) q)) zs in
        λ i. number_as (first i) z ∷ rest i

    replies-same : (o : ℕ) (ps : List Parameter) (m : List ℤ) → replies flat o ps m ≡ replies dev o ps m
    replies-same o ps m = ap (λ xs. as_values flat xs (outputs_of ps m)) (outputs-same o) ∙ as-same (body_at dev 0 o).outputs (outputs-there o) (outputs_of ps m)

    module _ (image : Image) (h : Follows find flat image) where
      operations : HasOperations dev image
      operations o low =
          let w = h.operations o low in
          (w.0, w.1, w.2, w.3 ∙ ap length (outputs-same o))

      opening : OpensWell find dev image
      opening fuel = well-so image fuel (first_start image) (λ m. (a : Abstract) × Opens find flat a × Linked find flat a m) (λ m. (a : Abstract) × Opens find dev a × Linked find dev a m)
          (λ m w. (w.0, opens-down w.0 w.1, linked-down w.0 m w.2)) (h.opening fuel)

      calls : CallsGoWell find dev image
      calls a m c entry k =
          let is = k.call in
          let w = h.local a m c entry (record { linked = linked-up a m k.linked; call = call-up c is; pre = pre-up c is.op a k.pre; named = k.named }) in
          let so : (k : List ℤ) → IsStep find flat c entry a k → IsStep find dev c entry a k = λ k s. (s.0, subst (λ us. Steps find dev c a us s.0) (replies-same c.op entry.outputs k) (steps-down c is.op a (replies flat c.op entry.outputs k) s.0 s.1), linked-down s.0 k s.2) in
          (w.0, λ fuel. well-so image fuel (started entry c m) (IsStep find flat c entry a) (IsStep find dev c entry a) so (w.1 fuel))

      pub follows-down : Follows find dev image
      follows-down = calls_decide find dev image operations opening calls

pub followed_where_flattened : FollowedWhereFlattened
followed_where_flattened find dev f b image h = follows-down find dev f (flat-formed dev f.table) b image h
