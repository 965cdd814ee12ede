-- The boxes of all levels together give what each level carries: that the body above ends comes from the box of its own level, and that no local is read
-- after its scope comes from the facts of the development.
use Rattle.std.proofs.Common.{◌≡◌, ◌⊎◌, inl, inr, ◌<◌, ◌≤◌, ℕ, zero, suc, List, [], ◌∷◌, ◌++◌, length, map, take, refl, sym, ap, subst, Bool, true, false, not, cond, ◌||◌, arith, Some, None, Option}
use Rattle.std.specs.Prelude.{slice_index_or}
use Rattle.std.specs.List.{flat_map, filter}
use Rattle.std.proofs.lemmas.Bool.Decides.{nat_tests}
use Rattle.bk_form.specs.Table.{Table}
use Rattle.bk_form.specs.Formula.{Formula}
use Rattle.bk_form.specs.Replacement.{occurs}
use Rattle.bk_form.specs.Search.{Finder, IsSearch}
use Rattle.bk_form.specs.Environment.{State, IsTypedState, at_state}
use Rattle.bk_form.proofs.Members.{or-cases, or-left, or-right}
use Rattle.bk_gsl.specs.Substitution.{Substitution, pre}
use Rattle.bk_gsl.specs.State.{holds, among}
use Rattle.bk_gsl.specs.Run.{Runs, Ends}
use Rattle.bk_form.specs.Predicates.{IsPredicate, AllHold, conjuncts, equation}
use Rattle.bk_gsl.specs.Typed.{Types}
use Rattle.bk_dev.specs.declared.kind.Home.{Home}
use Rattle.bk_dev.specs.declared.kind.Home.TheVariants.{Constant, Input, Abstract, Concrete, Inner}
use Rattle.bk_dev.specs.Development.{Head, Body, Level, Development, level_at, body_of, body_at, is_implementing, is_implementation, is_btrue, whole}
use Rattle.bk_form.specs.Each.{Each}
use Rattle.bk_dev.specs.Facts.{AllAre, binders, is_constant, is_input, is_variable_of, is_variable_above, is_inner_of, home_of, names_own, names_joined, writes_own, IsLink, AreAlike, IsSubOf, IsBodyOf, IsLevelOf, IsLawful, IsFlatDevelopment, OnlyLastIsImplementation}
use Rattle.bk_dev.specs.Hypotheses.{properties_of, values_at, joining, joinings_of, conditions_of, input_ranges, init_hypotheses, unasserted_hypotheses}
use Rattle.bk_dev.specs.Claims.{beside, JoinsAt, CarriesFlat, IsBetweenCalls}
use Rattle.bk_gsl.specs.Apart.{AreApart, LocalsAreApart}
use Rattle.bk_wp.specs.Box.{box, diamond}
use Rattle.bk_gsl.specs.Flat.{IsFlat}
use Rattle.bk_wp.specs.Shapes.{HasNoLoop}
use Rattle.bk_wp.specs.Laws.{AllMeet, SomeMeets}
use Rattle.bk_wp.proofs.Binders.{diamond-means}
use Rattle.bk_wp.proofs.Reading.{diamond-reads}
use Rattle.bk_wp.proofs.Sound.{box-is-sound}
use Rattle.bk_form.proofs.Conjuncts.{true-append, true-first, true-second, parts-true, whole-true}
use Rattle.bk_dev.proofs.Agree.{unchanged}
use Rattle.bk_dev.proofs.Climb.{flat-then, flat-if, is_before, own-before, joined-before, inner-before}
use Rattle.bk_po.specs.Obligations.{joining_goal, conjunction}
use Rattle.bk_po.specs.Levels.{BoxesHold, AllClean}
use Rattle.bk_po.proofs.FlatParts.{no-loop}
use Rattle.bk_dev.proofs.Staying.{false-of, not-both, Within, binders-new, read-seen, stays-apart, ends-same, all-at}
use Rattle.bk_wp.proofs.Predicates.{diamond-predicate}
use Rattle.bk_po.proofs.Splitting.{conjunction-true}
use Rattle.bk_po.proofs.Predicates.{beside-alike}
use Rattle.bk_po.proofs.Joining.{joined_goal-predicate, LinkNames, joined_goal-names, beside-among}
use Rattle.bk_dev.proofs.Levels.{body-at, level_fact, head-at}
use Rattle.bk_form.proofs.Closed.{predicate-closed}

-- ---- homes: what is of level i or further down stands at no place that is before i
variable-not-before : (i : ℕ) (o : Option Home) → is_variable_of i o ≡ true → is_before i o ≡ false
variable-not-before i None h = absurd (cc)
variable-not-before i (Some Constant) h = absurd (cc)
variable-not-before i (Some Input) h = absurd (cc)
variable-not-before i (Some (Abstract j)) h = grind (arith, nat_tests)
variable-not-before i (Some (Concrete j)) h = grind (arith, nat_tests)
variable-not-before i (Some (Inner j)) h = absurd (cc)

inner-not-before : (i : ℕ) (o : Option Home) → is_inner_of i o ≡ true → is_before i o ≡ false
inner-not-before i None h = absurd (cc)
inner-not-before i (Some Constant) h = absurd (cc)
inner-not-before i (Some Input) h = absurd (cc)
inner-not-before i (Some (Abstract j)) h = absurd (cc)
inner-not-before i (Some (Concrete j)) h = absurd (cc)
inner-not-before i (Some (Inner j)) h = grind (arith, nat_tests)

-- what is inner is joined nowhere
inner-not-joined : (i k : ℕ) (o : Option Home) → is_inner_of i o ≡ true → (is_constant o || is_variable_of k o || is_variable_above k o) ≡ false
inner-not-joined i k None h = absurd (cc)
inner-not-joined i k (Some Constant) h = absurd (cc)
inner-not-joined i k (Some Input) h = absurd (cc)
inner-not-joined i k (Some (Abstract j)) h = absurd (cc)
inner-not-joined i k (Some (Concrete j)) h = absurd (cc)
inner-not-joined i zero (Some (Inner j)) h = refl
inner-not-joined i (suc k) (Some (Inner j)) h = refl

-- ---- one level below another
module _ (find : Finder) (law : IsSearch find) (dev : Development) (f : IsLawful dev) (only : OnlyLastIsImplementation dev) (j : ℕ) (below : suc j < length dev.levels) (inputs outs above : List ℕ) (ins : AllAre (λ n. is_input (home_of dev n)) inputs) (lowers : AllAre (λ n. is_inner_of (suc j) (home_of dev n)) outs) (uppers : AllAre (λ n. is_inner_of j (home_of dev n)) above) where
  abbrev home : ℕ → Option Home
  home n = home_of dev n

  within : (k : ℕ) (os : List ℕ) → Within (writes_own dev k os) (names_own dev k inputs os)
  within k os n h = elim (or-cases (is_variable_of k (home n)) (among os n) h) [
    | inl q ↦ or-left (is_constant (home n) || among inputs n || is_variable_of k (home n)) (among os n) (or-right (is_constant (home n) || among inputs n) (is_variable_of k (home n)) q)
    | inr q ↦ or-right (is_constant (home n) || among inputs n || is_variable_of k (home n)) (among os n) q
  ]

  less : j < suc j
  less = omega arith

  -- what the upper substitution may name, and what it binds, is before the lower level
  named-before : (n : ℕ) → names_own dev j inputs above n ≡ true → is_before (suc j) (home n) ≡ true
  named-before n h = own-before dev (suc j) j less inputs above ins uppers n h

  joined-above : (n : ℕ) → names_joined dev j n ≡ true → is_before (suc j) (home n) ≡ true
  joined-above n h = joined-before dev (suc j) j less n h

  module _ (s u : Substitution) (lower : IsSubOf dev (suc j) inputs outs s) (upper : IsSubOf dev j inputs above u) where
    bound-before : (n : ℕ) → among (binders u) n ≡ true → is_before (suc j) (home n) ≡ true
    bound-before n h = inner-before (suc j) j less (home n) (all-at (λ n. is_inner_of j (home_of dev n)) (binders u) upper.binds_inner n h)

    bound-not-before : (n : ℕ) → among (binders s) n ≡ true → is_before (suc j) (home n) ≡ false
    bound-not-before n h = inner-not-before (suc j) (home n) (all-at (λ n. is_inner_of (suc j) (home_of dev n)) (binders s) lower.binds_inner n h)

    -- the formula names what joins the levels, and the outputs of both
    abbrev JoinNames : Formula → Type 0
    JoinNames r = (n : ℕ) → occurs n r ≡ true → (names_joined dev (suc j) n ≡ true) ⊎ ((among outs n ≡ true) ⊎ (among above n ≡ true))

    upper-apart : (r : Formula) → JoinNames r → LocalsAreApart u r
    upper-apart r names = stays-apart (names_own dev j inputs above) (names_joined dev j) (writes_own dev j above) (within j above) u upper.stays
        (λ n h. inner-not-joined j j (home n) (all-at (λ n. is_inner_of j (home_of dev n)) (binders u) upper.binds_inner n h)) (λ n. occurs n r)
        (λ n h. false-of (occurs n r) (λ q. elim (names n q) [
          | inl y ↦ not-both (names_joined dev (suc j) n) y (inner-not-joined j (suc j) (home n) (all-at (λ n. is_inner_of j (home_of dev n)) (binders u) upper.binds_inner n h))
          | inr y ↦ elim y [
            | inl z ↦ not-both (is_before (suc j) (home n)) (bound-before n h) (inner-not-before (suc j) (home n) (all-at (λ n. is_inner_of (suc j) (home_of dev n)) outs lowers n z))
            | inr z ↦ not-both (names_own dev j inputs above n) (or-right (is_constant (home n) || among inputs n || is_variable_of j (home n)) (among above n) z) (binders-new (names_own dev j inputs above) (names_joined dev j) (writes_own dev j above) u upper.stays n h)
          ]
        ]))

    pub lower-apart : (r : Formula) → JoinNames r → LocalsAreApart s (diamond dev.table u r)
    lower-apart r names = stays-apart (names_own dev (suc j) inputs outs) (names_joined dev (suc j)) (writes_own dev (suc j) outs) (within (suc j) outs) s lower.stays
        (λ n h. inner-not-joined (suc j) (suc j) (home n) (all-at (λ n. is_inner_of (suc j) (home_of dev n)) (binders s) lower.binds_inner n h)) (λ n. occurs n (diamond dev.table u r))
        (λ n h. false-of (occurs n (diamond dev.table u r)) (λ q. elim (diamond-reads dev.table u r n q) [
          | inr y ↦ elim (or-cases (names_joined dev j n) (names_own dev j inputs above n) (read-seen (names_own dev j inputs above) (names_joined dev j) (writes_own dev j above) (within j above) u upper.stays n y)) [
            | inl z ↦ not-both (is_before (suc j) (home n)) (joined-above n z) (bound-not-before n h)
            | inr z ↦ not-both (is_before (suc j) (home n)) (named-before n z) (bound-not-before n h)
          ]
          | inl x ↦ elim (names n x) [
            | inl y ↦ not-both (names_joined dev (suc j) n) y (inner-not-joined (suc j) (suc j) (home n) (all-at (λ n. is_inner_of (suc j) (home_of dev n)) (binders s) lower.binds_inner n h))
            | inr y ↦ elim y [
              | inl z ↦ not-both (names_own dev (suc j) inputs outs n) (or-right (is_constant (home n) || among inputs n || is_variable_of (suc j) (home n)) (among outs n) z) (binders-new (names_own dev (suc j) inputs outs) (names_joined dev (suc j)) (writes_own dev (suc j) outs) s lower.stays n h)
              | inr z ↦ not-both (is_before (suc j) (home n)) (inner-before (suc j) j less (home n) (all-at (λ n. is_inner_of j (home_of dev n)) above uppers n z)) (bound-not-before n h)
            ]
          ]
        ]))

    -- from each result of the lower substitution the upper one ends, where it ends from the start
    ends-there : (e g : State) → Runs find dev.table s e g → Ends find dev.table u e → Ends find dev.table u g
    ends-there e g r q = ends-same find dev.table (λ n. not (is_before (suc j) (home n))) (names_own dev j inputs above) (names_joined dev j) (writes_own dev j above) (within j above) u upper.stays
        (λ n o. false-of (names_own dev j inputs above n) (λ k. not-both (not (is_before (suc j) (home n))) o (ap not (named-before n k))))
        (λ n o. false-of (names_joined dev j n) (λ k. not-both (not (is_before (suc j) (home n))) o (ap not (joined-above n k))))
        (λ n o. false-of (among (binders u) n) (λ k. not-both (not (is_before (suc j) (home n))) o (ap not (bound-before n k))))
        e g (λ n o. unchanged find dev.table (names_own dev (suc j) inputs outs) (names_joined dev (suc j)) (writes_own dev (suc j) outs) s lower.stays e g r n (untouched n o)) q
      where
        untouched : (n : ℕ) → not (is_before (suc j) (home n)) ≡ false → writes_own dev (suc j) outs n ≡ false
        untouched n o = false-of (writes_own dev (suc j) outs n) (λ k. elim (or-cases (is_variable_of (suc j) (home n)) (among outs n) k) [
          | inl y ↦ not-both (not (is_before (suc j) (home n))) (ap not (variable-not-before (suc j) (home n) y)) o
          | inr y ↦ not-both (not (is_before (suc j) (home n))) (ap not (inner-not-before (suc j) (home n) (all-at (λ n. is_inner_of (suc j) (home_of dev n)) outs lowers n y))) o
        ])

    pub upper-no-loop : IsFlat u → HasNoLoop u
    upper-no-loop flat = no-loop (level_at dev j).kind (only j below) u upper.loops flat

    -- the box on the diamond, with the upper substitution ending from the start, is what the lower level carries
    carried-by : (r : Formula) → IsPredicate dev.table r → JoinNames r → (w : Substitution) → IsFlat w → Types dev.table w → ((later : ℕ → Bool) → AreApart later s → AreApart later w) → ((e g : State) → Runs find dev.table w e g → Runs find dev.table s e g) → IsFlat u → (e : State) → IsTypedState dev.table e →
        holds find dev.table e (box dev.table w (diamond dev.table u r)) ≡ true → Ends find dev.table u e → Ends find dev.table w e × ((g : State) → Runs find dev.table w e g → (h : State) × Runs find dev.table u g h × (holds find dev.table h r ≡ true))
    carried-by r p names w flat types apart runs upper_flat e t h q =
        let none = upper-no-loop upper_flat in
        let d = diamond-predicate dev.table f.table u r upper.types none p in
        let m = box-is-sound find law dev.table f.table w flat types (diamond dev.table u r) (predicate-closed dev.table (diamond dev.table u r) d) (apart (λ n. occurs n (diamond dev.table u r)) (lower-apart r names)) e t h in
        (m.0, λ g x. by_case g (runs e g x) ((diamond-means find law dev.table f.table u none upper.types r p (upper-apart r names) g).0 (m.1 g x)))
      where
        by_case : (g : State) → Runs find dev.table s e g → SomeMeets find dev.table u r g → (h : State) × Runs find dev.table u g h × (holds find dev.table h r ≡ true)
        by_case g x (inl never) = absurd (never (ends-there e g x q))
        by_case g x (inr y) = y

-- ---- an outermost precondition
module _ (find : Finder) (table : Table) (b : Body) where
  pub whole-types : IsPredicate table b.condition → Types table b.sub → Types table (whole b)
  whole-types p w = elim (is_btrue b.condition) as (λ x. Types table (cond x b.sub (pre b.condition b.sub))) [ true ↦ w | false ↦ (p, w) ]

  pub whole-flat : IsFlat b.sub → IsFlat (whole b)
  whole-flat w = elim (is_btrue b.condition) as (λ x. IsFlat (cond x b.sub (pre b.condition b.sub))) [ true ↦ w | false ↦ w ]

  pub whole-apart : (later : ℕ → Bool) → AreApart later b.sub → AreApart later (whole b)
  whole-apart later w = elim (is_btrue b.condition) as (λ x. AreApart later (cond x b.sub (pre b.condition b.sub))) [ true ↦ w | false ↦ w ]

  whole-runs : (e g : State) → Runs find table (whole b) e g → Runs find table b.sub e g
  whole-runs e g = elim (is_btrue b.condition) as (λ x. Runs find table (cond x b.sub (pre b.condition b.sub)) e g → Runs find table b.sub e g) [ true ↦ λ h. h | false ↦ λ h. h ]

  whole-ends : (e : State) → Ends find table (whole b) e → Ends find table b.sub e
  whole-ends e = elim (is_btrue b.condition) as (λ x. Ends find table (cond x b.sub (pre b.condition b.sub)) e → Ends find table b.sub e) [ true ↦ λ h. h | false ↦ λ h. h.1 ]

-- ---- all levels
module _ (find : Finder) (law : IsSearch find) (dev : Development) (f : IsLawful dev) (only : OnlyLastIsImplementation dev) (flat : IsFlatDevelopment dev) (boxes : BoxesHold find dev) where
  abbrev no_head : Head
  no_head = record { name = []; inputs = []; outputs = 0 }

  abbrev pub head : ℕ → Head
  head o = slice_index_or dev.heads o no_head

  pub level : (k : ℕ) → k < length dev.levels → IsLevelOf dev k (level_at dev k)
  level k h = level_fact dev f k h

  pub body : (k : ℕ) → k < length dev.levels → (o : ℕ) → o < length dev.heads → IsBodyOf dev k (head o) (body_at dev 0 o) (body_at dev k o)
  body k h o l = body-at dev k dev.heads (level_at dev 0).bodies (level_at dev k).bodies no_head o l (level k h).bodies

  pub inputs-at : (o : ℕ) → AllAre (λ n. is_input (home_of dev n)) (head o).inputs
  inputs-at o = (head-at dev dev.heads f.heads o no_head (record { inputs = tt; distinct = tt })).inputs

  -- ---- the joining goal
  link-alike : (k : ℕ) (ls : List (ℕ × ℕ)) → Each (IsLink dev k) ls → Each (λ p. AreAlike dev.table p.0 p.1) ls
  link-alike k [] h = tt
  link-alike k (l ∷ ls) h = (h.0.alike, link-alike k ls h.1)

  link-joined : (j : ℕ) (ls : List (ℕ × ℕ)) → Each (IsLink dev (suc j)) ls → (n : ℕ) → LinkNames n ls → names_joined dev (suc j) n ≡ true
  link-joined j [] h n q = absurd q
  link-joined j (l ∷ ls) h n (inl (inl q)) = or-left (is_constant (home_of dev n) || is_variable_of (suc j) (home_of dev n)) (is_variable_of j (home_of dev n)) (or-right (is_constant (home_of dev n)) (is_variable_of (suc j) (home_of dev n)) (subst (λ m. is_variable_of (suc j) (home_of dev m) ≡ true) (sym q) h.0.below))
  link-joined j (l ∷ ls) h n (inl (inr q)) =
      let e : j ≡ h.0.above.0 = let k : suc j ≡ suc h.0.above.0 = h.0.above.1 in omega (arith, k) in
      or-right (is_constant (home_of dev n) || is_variable_of (suc j) (home_of dev n)) (is_variable_of j (home_of dev n)) (subst (λ m. is_variable_of j (home_of dev m) ≡ true) (sym q) (subst (λ i. is_variable_of i (home_of dev l.1) ≡ true) (sym e) h.0.above.2))
  link-joined j (l ∷ ls) h n (inr q) = link-joined j ls h.1 n q

  pub goal-names : (j : ℕ) → suc j < length dev.levels → (outs above : List ℕ) (n : ℕ) → occurs n (joining_goal dev (suc j) outs above) ≡ true → (names_joined dev (suc j) n ≡ true) ⊎ ((among outs n ≡ true) ⊎ (among above n ≡ true))
  goal-names j h outs above n q = elim (joined_goal-names (level_at dev (suc j)) outs above n q) [
    | inl y ↦ inl ((level (suc j) h).invariant.names.visible_only n y)
    | inr y ↦ elim y [
      | inl z ↦ inl (link-joined j (level_at dev (suc j)).links (level (suc j) h).links n z)
      | inr z ↦ inr (beside-among outs above n z)
    ]
  ]

  pub goal-predicate : (j : ℕ) → suc j < length dev.levels → (outs above : List ℕ) → Each (λ p. AreAlike dev.table p.0 p.1) (beside outs above) → IsPredicate dev.table (joining_goal dev (suc j) outs above)
  goal-predicate j h outs above alike = joined_goal-predicate dev.table (level_at dev (suc j)) outs above (level (suc j) h).invariant.is_predicate (link-alike (suc j) (level_at dev (suc j)).links (level (suc j) h).links) alike

  joins : (k : ℕ) (outputs above : List ℕ) (g : State) → holds find dev.table g (joining_goal dev k outputs above) ≡ true → JoinsAt find dev k outputs above g
  joins k outputs above g h =
      let l = level_at dev k in
      let w = conjunction-true find dev.table g (l.invariant ∷ conjunction (map equation l.links) ∷ conjunction (map equation (beside outputs above)) ∷ []) h in
      true-append find (at_state dev.table g) (joining l) (map equation (beside outputs above))
      (true-append find (at_state dev.table g) (conjuncts l.invariant) (map equation l.links) (parts-true find (at_state dev.table g) l.invariant w.0) (conjunction-true find dev.table g (map equation l.links) w.1.0))
      (conjunction-true find dev.table g (map equation (beside outputs above)) w.1.1.0)

  -- ---- the hypotheses of the level above
  fewer : (F : Level → List Formula) (e : State) (m n : ℕ) → m ≤ n → AllHold find (at_state dev.table e) (flat_map F (take n dev.levels)) → AllHold find (at_state dev.table e) (flat_map F (take m dev.levels))
  fewer F e m n p h = flat-if find dev e F m dev.levels (λ i q r. flat-then find dev e F n dev.levels h i (omega (arith, p, q)) r)

  not-last : (k : ℕ) → suc k < length dev.levels → is_implementation (level_at dev k) ≡ false
  not-last k h = only k h

  no-values : (k : ℕ) → is_implementation (level_at dev k) ≡ false → (e : State) → AllHold find (at_state dev.table e) (values_at dev k)
  no-values k h e = subst (λ x. AllHold find (at_state dev.table e) (cond x (Rattle.bk_dev.specs.Hypotheses.size_equations dev ++ map Rattle.bk_dev.specs.Hypotheses.value_equation dev.values) [])) (sym h) tt

  no-ranges : (k o : ℕ) → is_implementation (level_at dev k) ≡ false → (e : State) → AllHold find (at_state dev.table e) (input_ranges dev k o)
  no-ranges k o h e = subst (λ x. AllHold find (at_state dev.table e) (cond x (map (Rattle.bk_dev.specs.Hypotheses.in_machine_range dev) (Rattle.std.specs.List.filter (λ x. Rattle.bk_dev.specs.Hypotheses.is_number (Rattle.bk_form.specs.Table.variable_type dev.table x)) (Rattle.bk_dev.specs.Development.inputs_of dev o))) [])) (sym h) tt

  init-weaker : (k : ℕ) → suc k < length dev.levels → (e : State) → AllHold find (at_state dev.table e) (init_hypotheses dev (suc k)) → AllHold find (at_state dev.table e) (init_hypotheses dev k)
  init-weaker k h e t =
      let all = true-first find (at_state dev.table e) (properties_of dev (suc (suc k))) (values_at dev (suc k)) t in
      true-append find (at_state dev.table e) (properties_of dev (suc k)) (values_at dev k) (fewer (λ l. conjuncts l.properties) e (suc k) (suc (suc k)) (omega arith) all) (no-values k (not-last k h) e)

  pub record Parts (k o : ℕ) (e : State) : Type 0 where
    begins : AllHold find (at_state dev.table e) (init_hypotheses dev k)
    joined : AllHold find (at_state dev.table e) (joinings_of dev (suc k))
    conditioned : AllHold find (at_state dev.table e) (conditions_of dev k o)

  parts : (k o : ℕ) (e : State) → AllHold find (at_state dev.table e) (unasserted_hypotheses dev k o) → Parts k o e
  parts k o e h =
      let table = dev.table in
      let before = init_hypotheses dev k ++ joinings_of dev (suc k) in
      let unranged = true-first find (at_state table e) (before ++ conditions_of dev k o) (input_ranges dev k o) h in
      let first = true-first find (at_state table e) before (conditions_of dev k o) unranged in
      record { begins = true-first find (at_state table e) (init_hypotheses dev k) (joinings_of dev (suc k)) first; joined = true-second find (at_state table e) (init_hypotheses dev k) (joinings_of dev (suc k)) first; conditioned = true-second find (at_state table e) before (conditions_of dev k o) unranged }

  weaker : (k : ℕ) → suc k < length dev.levels → (o : ℕ) (e : State) → AllHold find (at_state dev.table e) (unasserted_hypotheses dev (suc k) o) → AllHold find (at_state dev.table e) (unasserted_hypotheses dev k o)
  weaker k h o e t =
      let p = parts (suc k) o e t in
      let table = dev.table in
      let joined = fewer joining e (suc k) (suc (suc k)) (omega arith) p.joined in
      let conditioned = fewer (λ l. conjuncts (body_of l o).condition) e k (suc k) (omega arith) p.conditioned in
      let first = true-append find (at_state table e) (init_hypotheses dev k) (joinings_of dev (suc k)) (init-weaker k h e p.begins) joined in
      let more = true-append find (at_state table e) (init_hypotheses dev k ++ joinings_of dev (suc k)) (conditions_of dev k o) first conditioned in
      true-append find (at_state table e) (init_hypotheses dev k ++ joinings_of dev (suc k) ++ conditions_of dev k o) (input_ranges dev k o) more (no-ranges k o (not-last k h) e)

  -- ---- what the machine's own boxes say
  pub machine-apart : (inputs outs : List ℕ) (s : Substitution) → IsSubOf dev 0 inputs outs s → LocalsAreApart s (level_at dev 0).invariant
  machine-apart inputs outs s m =
      stays-apart (names_own dev 0 inputs outs) (names_joined dev 0) (writes_own dev 0 outs)
      (λ n h. elim (or-cases (is_variable_of 0 (home_of dev n)) (among outs n) h) [
        | inl q ↦ or-left (is_constant (home_of dev n) || among inputs n || is_variable_of 0 (home_of dev n)) (among outs n) (or-right (is_constant (home_of dev n) || among inputs n) (is_variable_of 0 (home_of dev n)) q)
        | inr q ↦ or-right (is_constant (home_of dev n) || among inputs n || is_variable_of 0 (home_of dev n)) (among outs n) q
      ]) s m.stays
      (λ n h. inner-not-joined 0 0 (home_of dev n) (all-at (λ n. is_inner_of 0 (home_of dev n)) (binders s) m.binds_inner n h)) (λ n. occurs n (level_at dev 0).invariant)
      (λ n h. false-of (occurs n (level_at dev 0).invariant) (λ q. not-both (names_joined dev 0 n) ((level 0 f.some_level).invariant.names.visible_only n q) (inner-not-joined 0 0 (home_of dev n) (all-at (λ n. is_inner_of 0 (home_of dev n)) (binders s) m.binds_inner n h))))

  pub machine-init : (e : State) → IsTypedState dev.table e → AllHold find (at_state dev.table e) (init_hypotheses dev 0) → AllMeet find dev.table (level_at dev 0).init (level_at dev 0).invariant e
  machine-init e t h = let l = level 0 f.some_level in
      box-is-sound find law dev.table f.table (level_at dev 0).init (flat.init 0 f.some_level) l.init.types (level_at dev 0).invariant (predicate-closed dev.table (level_at dev 0).invariant l.invariant.is_predicate) (machine-apart [] [] (level_at dev 0).init l.init) e t (boxes.inits 0 f.some_level e t h)

  pub machine-operation : (o : ℕ) → o < length dev.heads → (e : State) → IsBetweenCalls find dev e → holds find dev.table e (body_at dev 0 o).condition ≡ true → AllMeet find dev.table (body_at dev 0 o).sub (level_at dev 0).invariant e
  machine-operation o m e s c = let b = body 0 f.some_level o m in
      box-is-sound find law dev.table f.table (body_at dev 0 o).sub (flat.bodies 0 f.some_level o m) b.sub.types (level_at dev 0).invariant (predicate-closed dev.table (level_at dev 0).invariant (level 0 f.some_level).invariant.is_predicate) (machine-apart (head o).inputs (body_at dev 0 o).outputs (body_at dev 0 o).sub b.sub) e s.typed (boxes.machine o m e s c)

  -- ---- below it: the levels from the machine down, each ending by its own box
  abbrev AnsweredBy : ℕ → Substitution → List ℕ → List ℕ → State → Type 0
  AnsweredBy k upper outputs above g = (h : State) × Runs find dev.table upper g h × (holds find dev.table h (joining_goal dev k outputs above) ≡ true)

  lower-init : (j : ℕ) → suc j < length dev.levels → (e : State) → IsTypedState dev.table e → AllHold find (at_state dev.table e) (init_hypotheses dev (suc j)) → Ends find dev.table (level_at dev j).init e →
      Ends find dev.table (level_at dev (suc j)).init e × ((g : State) → Runs find dev.table (level_at dev (suc j)).init e g → AnsweredBy (suc j) (level_at dev j).init [] [] g)
  lower-init j h e t hyps ends = let upper : j < length dev.levels = omega (arith, h) in
      let s = (level_at dev (suc j)).init in
      carried-by find law dev f only j h [] [] [] tt tt tt s (level_at dev j).init (level (suc j) h).init (level j upper).init (joining_goal dev (suc j) [] []) (goal-predicate j h [] [] tt) (goal-names j h [] [])
      s (flat.init (suc j) h) (level (suc j) h).init.types (λ later a. a) (λ x y r. r) (flat.init j upper) e t (boxes.inits (suc j) h e t hyps) ends

  lower-operation : (j : ℕ) → suc j < length dev.levels → (o : ℕ) → o < length dev.heads → (e : State) → IsTypedState dev.table e → AllHold find (at_state dev.table e) (unasserted_hypotheses dev (suc j) o) → Ends find dev.table (body_at dev j o).sub e →
      Ends find dev.table (whole (body_at dev (suc j) o)) e × ((g : State) → Runs find dev.table (whole (body_at dev (suc j) o)) e g → AnsweredBy (suc j) (body_at dev j o).sub (body_at dev (suc j) o).outputs (body_at dev j o).outputs g)
  lower-operation j h o m e t hyps ends =
      let upper : j < length dev.levels = omega (arith, h) in
      let b = body (suc j) h o m in
      let u = body j upper o m in
      let low = body_at dev (suc j) o in
      let high = body_at dev j o in
      carried-by find law dev f only j h (head o).inputs low.outputs high.outputs (inputs-at o) b.outputs u.outputs low.sub high.sub b.sub u.sub (joining_goal dev (suc j) low.outputs high.outputs)
      (goal-predicate j h low.outputs high.outputs (beside-alike dev.table low.outputs high.outputs (body_at dev 0 o).outputs b.output_types u.output_types)) (goal-names j h low.outputs high.outputs)
      (whole low) (whole-flat find dev.table low (flat.bodies (suc j) h o m)) (whole-types find dev.table low b.condition b.sub.types) (whole-apart find dev.table low) (whole-runs find dev.table low) (flat.bodies j upper o m) e t (boxes.operations j h o m e t hyps) ends

  init-ends : (k : ℕ) → suc k < length dev.levels → (e : State) → IsTypedState dev.table e → AllHold find (at_state dev.table e) (init_hypotheses dev k) → Ends find dev.table (level_at dev k).init e
  init-ends zero h e t hyps = (machine-init e t hyps).0
  init-ends (suc k) h e t hyps = let there : suc k < length dev.levels = omega (arith, h) in (lower-init k there e t hyps (init-ends k there e t (init-weaker k there e hyps))).0

  -- from the hypotheses of the level below
  operation-ends : (k : ℕ) → suc k < length dev.levels → (o : ℕ) → o < length dev.heads → (e : State) → IsTypedState dev.table e → AllHold find (at_state dev.table e) (unasserted_hypotheses dev (suc k) o) → Ends find dev.table (body_at dev k o).sub e
  operation-ends zero h o m e t hyps =
      let p = parts 1 o e hyps in
      let first : 0 < length dev.levels = f.some_level in
      let all = true-first find (at_state dev.table e) (properties_of dev 2) (values_at dev 1) p.begins in
      let properties = fewer (λ l. conjuncts l.properties) e 1 2 (omega arith) all in
      let joined = flat-then find dev e joining 2 dev.levels p.joined 0 (omega arith) first in
      let invariant = whole-true find (at_state dev.table e) (level_at dev 0).invariant (true-first find (at_state dev.table e) (conjuncts (level_at dev 0).invariant) (map equation (level_at dev 0).links) joined) in
      let condition = whole-true find (at_state dev.table e) (body_at dev 0 o).condition (flat-then find dev e (λ l. conjuncts (body_of l o).condition) 1 dev.levels p.conditioned 0 (omega arith) first) in
      (machine-operation o m e (record { typed = t; properties = properties; invariant = invariant }) condition).0
  operation-ends (suc k) h o m e t hyps =
      let there : suc k < length dev.levels = omega (arith, h) in
      let w = weaker (suc k) h o e hyps in
      whole-ends find dev.table (body_at dev (suc k) o) e (lower-operation k there o m e t w (operation-ends k there o m e t w)).0

  pub each-carries : AllClean find dev → (j : ℕ) → suc j < length dev.levels → CarriesFlat find dev j
  each-carries clean j h = record {
    init = λ e t hyps.
        let w = lower-init j h e t hyps (init-ends j h e t (init-weaker j h e hyps)) in
        record { ends = w.0; clean = clean.inits (suc j) h e t hyps; results = λ g r. let x = w.1 g r in (x.0, x.1, joins (suc j) [] [] x.0 x.2) };
    operations = λ o m e t hyps.
        let w = lower-operation j h o m e t hyps (operation-ends j h o m e t hyps) in
        record { ends = w.0; clean = clean.operations j h o m e t hyps; results = λ g r. let x = w.1 g r in (x.0, x.1, joins (suc j) (body_at dev (suc j) o).outputs (body_at dev j o).outputs x.0 x.2) };
  }
