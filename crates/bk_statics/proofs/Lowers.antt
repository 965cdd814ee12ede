-- Without faults the operations of a component below a machine are those of the machine's headers.
use Rattle.std.proofs.Common.{◌≡◌, ℕ, zero, suc, ◌+◌, ◌-◌, ◌<◌, ◌≤◌, List, [], ◌∷◌, ◌++◌, length, refl, sym, ◌∙◌, ap, subst, Bool, true, false, cond, ◌&&◌, arith, nat_eq}
use Rattle.std.specs.Prelude.{Option, None, Some, ℤ, slice_get, slice_index_or}
use Rattle.std.specs.Str.{bytes_eq}
use Rattle.std.proofs.lemmas.Slice.Eq.{bytes_eq-Decides}
use Rattle.bk_form.specs.Each.{Each}
use Rattle.bk_form.specs.Table.{variable_type}
use Rattle.bk_gsl.specs.State.{among}
use Rattle.bk_dev.specs.declared.kind.Home.{Home}
use Rattle.bk_dev.specs.Development.{Head, Body, Development, blank_body, body_at, level_at}
use Rattle.bk_dev.specs.Facts.{MayStandIn, is_input, home_of, AreAlike, AllAlike, IsBodyOf, EachBody, IsHeadOf, IsLawful}
use Rattle.bk_dev.proofs.FlatLevels.{passes-within}
use Rattle.bk_dev.proofs.Staying.{all-at}
use Rattle.bk_dev.proofs.Levels.{level_fact}
use Rattle.bk_raw.specs.declared.term.RawName.{RawName}
use Rattle.bk_raw.specs.Trees.ComponentTree.{RawOperation}
use Rattle.bk_raw.specs.Meaning.Names.{Names}
use Rattle.bk_raw.specs.Meaning.Binders.{is_text, twice}
use Rattle.bk_raw.proofs.Filled.{and-both}
use Rattle.bk_raw.proofs.RulesFit.{none-left, none-right}
use Rattle.bk_statics.specs.Components.{Component, is_machine, initialisation, inner_body, set_names, abstract_names, operation_names}
use Rattle.bk_statics.specs.Typings.{Typing, interval, variable_named}
use Rattle.bk_statics.specs.Binders.{binder_count, texts}
use Rattle.bk_statics.specs.Ways.{Way, way_from, same_as, or_no_way, way_at, assigned_ways, ways, ways_by}
use Rattle.bk_statics.specs.SubFaults.{declared_faults, sub_faults}
use Rattle.bk_statics.specs.Above.{stem, text_of, known, names_at_level, globals_of, upper_of, inputs_named, outputs_named}
use Rattle.bk_statics.specs.Plan.{carried, declared_texts, input_count, is_headed, Headed, Placed, Plan, plan, headed_by, lower_headed, other_headed, machine_heads, machine_headed, operation_named, fresh, output_count, placed, operations_of, scope, body_scope}
use Rattle.bk_statics.specs.LevelOf.{types_at, made, body_made, bodies_made, level_made, variable_ways, all_input_ways, lower_output_ways, output_ways, all_output_ways, all_binder_ways, all_ways}
use Rattle.bk_statics.specs.ClauseFaults.{clause_faults, input_faults}
use Rattle.bk_statics.specs.NameFaults.{named_texts, taken, level_texts, variable_texts, header_twice, name_faults}
use Rattle.bk_statics.specs.OperationFaults.{unless, shape_faults, bodies_shape, same_texts, is_same_header, heads_as, header_faults, missing_faults, lower_faults, missing_init, operation_faults}
use Rattle.bk_statics.specs.StaticFaults.{writes, outputs_of, init_faults, body_faults, all_body_faults, static_faults}
use Rattle.bk_statics.specs.ValueFaults.{value_faults_of}
use Rattle.bk_statics.specs.LevelLaws.{body_count, IsIn, IsReady, LowersAreRight}
use Rattle.bk_statics.proofs.Counted.{length-join, new-count}
use Rattle.bk_statics.proofs.Scopes.{far_of, by-count, variable-count, lower-count, all-count}
use Rattle.bk_statics.proofs.Stands.{stands, low-type, get-left, get-right, type-below}
use Rattle.bk_statics.proofs.Shapes.{sub-shaped}
use Rattle.bk_statics.proofs.Links.{rounds-same, none-past}
use Rattle.bk_statics.proofs.Parts.{lower-typed, inner-shape}
use Rattle.bk_statics.proofs.NewBodies.{new-bodies}
use Rattle.bk_statics.proofs.Paired.{texts-same, ArePaired, names_by, by-level, by-input, paired, paired-length, twice-front, twice-behind, inputs-alone, inputs-seen, unless-then, found-in, headers-all, shapes-all, twice-all, others-none}

cond-false : {A : Type 0} (b : Bool) (x y : A) → b ≡ false → cond b x y ≡ y
cond-false true x y e = absurd (cc)
cond-false false x y e = refl

join-none : {A : Type 0} (xs : List A) → xs ++ [] ≡ xs
join-none [] = refl
join-none (x ∷ xs) = ap (λ l. x ∷ l) (join-none xs)

module _ (int_max : ℤ) (higher : Development) (comp : Component) (ready : IsReady higher) (lawful : IsLawful higher) (below : is_machine comp.kind ≡ false) (none : static_faults int_max higher comp ≡ []) where
  abbrev p : Plan
  p = plan higher comp

  abbrev new : Development
  new = made int_max higher comp (plan higher comp)

  abbrev typing : Typing
  typing = types_at int_max higher comp (plan higher comp)

  abbrev base : ℕ
  base = length higher.table.variables

  abbrev top : ℕ
  top = p.binders_at + (binder_count (initialisation comp) + body_count p.headed)

  abbrev far : ℕ
  far = far_of higher comp

  abbrev ws : List Way
  ws = all_ways p comp

  abbrev lowers : ℕ → List Head → List Headed
  lowers k hs = lower_headed far higher k hs comp.operations

  -- ---- outputs have the types of the machine's
  lower-alike : (names : Names) (n : ℕ) (xs : List RawName) (ms : List ℕ) → ArePaired names xs ms → AllAlike higher.table ms ms → base ≤ n → n + length xs ≤ base + length ws
      → ((j : ℕ) → j < length xs → slice_get ws ((n - base) + j) ≡ slice_get (lower_output_ways names xs) j) → AllAlike new.table (interval n (length xs)) ms
  lower-alike names n [] [] q a h k f = tt
  lower-alike names n [] (m ∷ ms) q a h k f = absurd q
  lower-alike names n (x ∷ xs) [] q a h k f = absurd q
  lower-alike names n (x ∷ xs) (m ∷ ms) q a h k f =
      let alike = a.0 in
      let t = alike.0 in
      let st = stands int_max higher comp ready.table in
      let low = type-below higher.table m t alike.1 in
      let at : n - base ≡ (n - base) + 0 = omega arith in
      let there : slice_get ws (n - base) ≡ Some (same_as m) = ap (slice_get ws) at ∙ (f 0 (omega arith) ∙ ap (λ o. Some (way_from o)) q.0) in
      let same = rounds-same int_max (length ws) base ws (known higher) n m (omega arith) h (omega arith) low (ap or_no_way there) (none-past higher n h) in (
        (t, st.settled.types n t (same ∙ alike.1), st.settled.types m t (low-type int_max higher comp ready.table m low ∙ alike.1)),
        lower-alike names (suc n) xs ms q.1 a.1 (omega arith) (omega arith) (λ j l. (let e : (suc n - base) + j ≡ (n - base) + suc j = omega arith in ap (slice_get ws) e ∙ f (suc j) (omega arith))),
      )

  -- the ways reach as far as all outputs
  ways-long : p.binders_at ≤ base + length ws
  ways-long =
      let all = all-count higher comp ∙ new-count p comp in
      omega arith

  -- ---- what is asked of the operations
  abbrev Agree : ℕ → List Head → Type 0
  Agree k hs = (o : RawOperation) → IsIn o comp.operations → heads_as higher k hs o ≡ true

  abbrev WaysFrom : ℕ → List Placed → Type 0
  WaysFrom n os = (j : ℕ) → j < length (all_output_ways comp.kind p os) → slice_get ws ((n - base) + j) ≡ slice_get (all_output_ways comp.kind p os) j

  each-lower : (twice-none : header_twice comp.operations ≡ []) (shapes : bodies_shape comp.kind comp.operations ≡ []) (k n b : ℕ) (hs : List Head) (ms : List Body)
      → p.outputs_at ≤ n → n + output_count (lowers k hs) ≤ p.binders_at → p.binders_at ≤ b → b + body_count (lowers k hs) ≤ top
      → Agree k hs → missing_faults comp.at (texts (operation_names comp.operations)) hs ≡ [] → Each (IsHeadOf higher) hs → EachBody higher 0 hs ms ms → ((j : ℕ) → slice_index_or ms j blank_body ≡ body_at higher 0 (k + j))
      → all_body_faults int_max higher comp typing p (placed n b (lowers k hs)) ≡ [] → WaysFrom n (placed n b (lowers k hs))
      → EachBody new p.level hs ms (bodies_made int_max typing p (placed n b (lowers k hs)))
  each-lower twice-none shapes k n b [] [] h2 h3 h4 h5 agree missing heads bodies at faults from = tt
  each-lower twice-none shapes k n b [] (m ∷ ms) h2 h3 h4 h5 agree missing heads bodies at faults from = absurd bodies
  each-lower twice-none shapes k n b (h ∷ hs) [] h2 h3 h4 h5 agree missing heads bodies at faults from = absurd bodies
  each-lower twice-none shapes k n b (h ∷ hs) (m ∷ ms) h2 h3 h4 h5 agree missing heads bodies at faults from =
      let names = texts (operation_names comp.operations) in
      let o = operation_named h.name comp.operations in
      let ins = inputs_named higher.table h.inputs in
      let outs = outputs_named higher k in
      let q : Placed = record { headed = headed_by far ins outs o; outputs_at = n; binders_at = b } in
      let c = length o.outputs in
      let rest = placed (n + c) (b + binder_count o.body) (lowers (suc k) hs) in
      let there = unless-then (is_text names h.name) comp.at (missing_faults comp.at names hs) missing in
      let found = found-in h.name comp.operations there.0 in
      let named : bytes_eq h.name o.name.text ≡ true = (bytes_eq-Decides h.name o.name.text).1 (sym ((bytes_eq-Decides o.name.text h.name).0 found.1)) in
      let agreed = and-both (cond (bytes_eq h.name o.name.text) (is_same_header higher k h o) true) (heads_as higher (suc k) hs o) (agree o found.0) in
      let header : is_same_header higher k h o ≡ true = sym (ap (λ t. cond t (is_same_header higher k h o) true) named) ∙ agreed.0 in
      let both = and-both (same_texts (named_texts ins) (texts o.inputs)) (same_texts (named_texts outs) (texts o.outputs)) header in
      let tw = twice-all comp.operations twice-none o found.0 in
      let tb = twice-behind [] o.outputs o.inputs tw in
      let ins-so = by-input higher.table h.inputs in
      let ins-paired : ArePaired ins o.inputs h.inputs = subst (λ ns. ArePaired ns o.inputs h.inputs) (sym ins-so) (paired (text_of higher.table) h.inputs o.inputs (ap named_texts (sym ins-so) ∙ texts-same (named_texts ins) (texts o.inputs) both.0) tb.0 tb.1) in
      let zero-more : k + 0 ≡ k = omega arith in
      let body-so : m ≡ body_at higher 0 k = at 0 ∙ ap (body_at higher 0) zero-more in
      let outs-so : outs ≡ names_by (λ v. stem 0 (text_of higher.table v)) m.outputs = ap (λ (x : Body). names_at_level 0 higher.table x.outputs) (sym body-so) ∙ by-level 0 higher.table m.outputs in
      let outs-paired : ArePaired outs o.outputs m.outputs = subst (λ ns. ArePaired ns o.outputs m.outputs) (sym outs-so) (paired (λ v. stem 0 (text_of higher.table v)) m.outputs o.outputs (ap named_texts (sym outs-so) ∙ texts-same (named_texts outs) (texts o.outputs) both.1) [] (twice-front [] o.outputs o.inputs tw)) in
      let later = all_body_faults int_max higher comp typing p rest in
      let own = none-left (body_faults int_max higher comp typing p q) later faults in
      let declared = declared_faults typing n o.outputs ++ sub_faults int_max typing p.upper (body_scope p q) (writes int_max higher comp p (outputs_of q)) b o.body in
      let inputs-none = none-left (input_faults typing q.headed.inputs o.inputs) declared own in
      let mine = output_ways comp.kind p q in
      let others = all_output_ways comp.kind p rest in
      let mine-so : mine ≡ lower_output_ways outs o.outputs = cond-false (is_machine comp.kind) (assigned_ways (body_scope p q) b o.body n o.outputs) (lower_output_ways outs o.outputs) below in
      let mine-count : length mine ≡ c = ap length mine-so ∙ lower-count outs o.outputs in
      let joined-count = length-join mine others in
      let long = ways-long in
      let alike = lower-alike outs n o.outputs m.outputs outs-paired bodies.0.output_types (omega arith) (omega arith) (λ j l. from j (omega arith) ∙ (get-left mine others j (omega arith) ∙ ap (λ w. slice_get w j) mine-so)) in (
        new-bodies int_max higher comp ready none h m q (record {
          within = record { outputs = h2; all_outputs = omega arith; binders = h4; all_binders = omega arith };
          placed = record {
            outputs = omega arith;
            binders = omega arith;
            of = inputs-alone new.table far ins o.inputs;
            typed_inputs = lower-typed typing far ins o.inputs inputs-none;
            seen = inputs-seen (among h.inputs) far ins o.inputs h.inputs ins-paired (λ v e. e);
            below = λ v e. (let inside = passes-within higher.homes is_input refl v (all-at (λ x. is_input (home_of higher x)) h.inputs heads.0.inputs v e) in let so = ready.homes in omega arith);
          };
          counted = paired-length outs o.outputs m.outputs outs-paired ∙ bodies.0.as_many_outputs;
          alike = alike;
          no_faults = own;
          no_shapes = shapes-all comp.kind comp.operations shapes o found.0;
        }),
        each-lower twice-none shapes (suc k) (n + c) (b + binder_count o.body) hs ms (omega arith) (omega arith) (omega arith) (omega arith)
            (λ r i. (and-both (cond (bytes_eq h.name r.name.text) (is_same_header higher k h r) true) (heads_as higher (suc k) hs r) (agree r i)).1) there.1 heads.1 bodies.1
            (λ j. (let e : k + suc j ≡ suc k + j = omega arith in at (suc j) ∙ ap (body_at higher 0) e))
            (none-right (body_faults int_max higher comp typing p q) later faults)
            (λ j l. (let e : ((n + c) - base) + j ≡ (n - base) + (c + j) = omega arith in
            let f : (c + j) - length mine ≡ j = omega arith in
            ap (slice_get ws) e ∙ (from (c + j) (omega arith) ∙ (get-right mine others (c + j) (omega arith) ∙ ap (slice_get others) f)))),
      )

  -- ---- the component
  pub headed-so : header_faults higher comp.operations ≡ [] → p.headed ≡ lowers 0 higher.heads
  headed-so h =
      cond-false (is_machine comp.kind) (machine_headed p.inputs_at comp.operations) (lowers 0 higher.heads ++ other_headed far higher.heads comp.operations) below
      ∙ (ap (λ l. lowers 0 higher.heads ++ l) (others-none higher far comp.operations h) ∙ join-none (lowers 0 higher.heads))

  pub heads-so : p.heads ≡ higher.heads
  heads-so = cond-false (is_machine comp.kind) (machine_heads p.inputs_at comp.operations) higher.heads below

  abbrev first : ℕ
  first = p.binders_at + binder_count (initialisation comp)

  -- the ways of outputs stand behind those of constants and variables
  ways-from : WaysFrom p.outputs_at (placed p.outputs_at first p.headed)
  ways-from j l =
      let os = placed p.outputs_at first p.headed in
      let w0 = ways_by p.globals comp.properties comp.constants in
      let w1 = variable_ways (p.upper ++ p.globals) comp.invariant (fresh p.upper comp.variables) 0 p.variables in
      let w2 = cond (is_machine comp.kind) (all_input_ways p os) [] in
      let w3 = all_output_ways comp.kind p os in
      let w4 = ways (scope p) p.binders_at (initialisation comp) ++ all_binder_ways p os in
      let c0 = by-count p.globals comp.properties comp.constants in
      let c1 = variable-count (p.upper ++ p.globals) comp.invariant (fresh p.upper comp.variables) 0 p.variables in
      let c2 : length w2 ≡ 0 = ap length (cond-false (is_machine comp.kind) (all_input_ways p os) [] below) in
      let no-inputs = cond-false (is_machine comp.kind) (input_count comp.operations) 0 below in
      let i0 = (p.outputs_at - base) + j in
      let i1 = i0 - length w0 in
      let i2 = i1 - length w1 in
      let i3 : i2 - length w2 ≡ j = omega arith in
      get-right w0 (w1 ++ (w2 ++ (w3 ++ w4))) i0 (omega arith) ∙ (get-right w1 (w2 ++ (w3 ++ w4)) i1 (omega arith) ∙ (get-right w2 (w3 ++ w4) i2 (omega arith) ∙ (ap (slice_get (w3 ++ w4)) i3 ∙ get-left w3 w4 j l)))

  -- inputs and outputs of one operation differ
  pub twice-none : name_faults higher comp ≡ [] → header_twice comp.operations ≡ []
  twice-none h =
      let a = taken (level_texts higher.levels) (comp.name ∷ []) in
      let b = twice (named_texts (globals_of higher)) comp.declared in
      let c = taken (variable_texts 0 higher higher.levels) (set_names comp.sets ++ comp.constants) in
      let d = taken (declared_texts (carried higher (upper_of higher))) (abstract_names comp.variables) in
      let e = twice [] (operation_names comp.operations) in
      let f = header_twice comp.operations in
      none-right e f (none-right d (e ++ f) (none-right c (d ++ (e ++ f)) (none-right b (c ++ (d ++ (e ++ f))) (none-right a (b ++ (c ++ (d ++ (e ++ f)))) h))))

  each-shape : bodies_shape comp.kind comp.operations ≡ [] → (k n b : ℕ) (hs : List Head) → missing_faults comp.at (texts (operation_names comp.operations)) hs ≡ [] → Each (λ (m : Body). MayStandIn comp.kind m.sub) (bodies_made int_max typing p (placed n b (lowers k hs)))
  each-shape shapes k n b [] missing = tt
  each-shape shapes k n b (h ∷ hs) missing =
      let names = texts (operation_names comp.operations) in
      let o = operation_named h.name comp.operations in
      let q : Placed = record { headed = headed_by far (inputs_named higher.table h.inputs) (outputs_named higher k) o; outputs_at = n; binders_at = b } in
      let there = unless-then (is_text names h.name) comp.at (missing_faults comp.at names hs) missing in
      let found = found-in h.name comp.operations there.0 in
      let own = inner-shape comp.kind false o.body (shapes-all comp.kind comp.operations shapes o found.0) in
      ((sub-shaped comp.kind int_max typing p.upper (inner_body o.body) false (body_scope p q) b own).may, each-shape shapes (suc k) (n + length o.outputs) (b + binder_count o.body) hs there.1)

  pub lower-right : EachBody new p.level higher.heads (level_at higher 0).bodies (bodies_made int_max typing p (operations_of p comp)) × Each (λ (m : Body). MayStandIn comp.kind m.sub) (bodies_made int_max typing p (operations_of p comp))
  lower-right =
      let clauses = clause_faults int_max typing p comp in
      let operations = operation_faults higher comp p in
      let begun = init_faults int_max higher comp typing p in
      let bodies = all_body_faults int_max higher comp typing p (operations_of p comp) in
      let values = value_faults_of int_max higher typing p comp in
      let missing = missing_init comp.at comp.init p.variables in
      let start = shape_faults comp.kind false (initialisation comp) in
      let shapes = bodies_shape comp.kind comp.operations in
      let lower = lower_faults (is_machine comp.kind) higher comp in
      let names-none = none-left (name_faults higher comp) (clauses ++ (operations ++ (begun ++ (bodies ++ values)))) none in
      let e1 = none-right clauses (operations ++ (begun ++ (bodies ++ values))) (none-right (name_faults higher comp) (clauses ++ (operations ++ (begun ++ (bodies ++ values)))) none) in
      let operations-none = none-left operations (begun ++ (bodies ++ values)) e1 in
      let bodies-none = none-left bodies values (none-right begun (bodies ++ values) (none-right operations (begun ++ (bodies ++ values)) e1)) in
      let after-start = none-right start (shapes ++ lower) (none-right missing (start ++ (shapes ++ lower)) operations-none) in
      let shapes-none = none-left shapes lower after-start in
      let lower-so : lower ≡ header_faults higher comp.operations ++ missing_faults comp.at (texts (operation_names comp.operations)) higher.heads = ap (λ t. lower_faults t higher comp) below in
      let lower-none = sym lower-so ∙ none-right shapes lower after-start in
      let headers-none = none-left (header_faults higher comp.operations) (missing_faults comp.at (texts (operation_names comp.operations)) higher.heads) lower-none in
      let missing-none = none-right (header_faults higher comp.operations) (missing_faults comp.at (texts (operation_names comp.operations)) higher.heads) lower-none in
      let so = headed-so headers-none in
      let count = ap output_count so in
      let bound = ap body_count so in
      let machine = level_fact higher lawful 0 lawful.some_level in
      let agree : Agree 0 higher.heads = λ r i. (and-both (is_headed higher.heads r.name.text) (heads_as higher 0 higher.heads r) (headers-all higher comp.operations headers-none r i)).1 in
      let right = each-lower (twice-none names-none) shapes-none 0 p.outputs_at first higher.heads (level_at higher 0).bodies (omega arith) (omega arith) (omega arith) (omega arith) agree missing-none lawful.heads machine.bodies (λ j. (let e : j ≡ 0 + j = omega arith in ap (body_at higher 0) e))
      (subst (λ hs. all_body_faults int_max higher comp typing p (placed p.outputs_at first hs) ≡ []) so bodies-none) (subst (λ hs. WaysFrom p.outputs_at (placed p.outputs_at first hs)) so ways-from) in (
        subst (λ hs. EachBody new p.level higher.heads (level_at higher 0).bodies (bodies_made int_max typing p (placed p.outputs_at first hs))) (sym so) right,
        subst (λ hs. Each (λ (m : Body). MayStandIn comp.kind m.sub) (bodies_made int_max typing p (placed p.outputs_at first hs))) (sym so) (each-shape shapes-none 0 p.outputs_at first higher.heads missing-none),
      )

pub lowers-right : LowersAreRight
lowers-right int_max higher comp ready lawful below none =
    let right = lower-right int_max higher comp ready lawful below none in
    record { heads = heads-so int_max higher comp ready lawful below none; bodies = right.0; shapes = right.1 }
