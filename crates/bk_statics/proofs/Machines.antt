-- Without faults the operations of a machine are those of its headers.
use Rattle.std.proofs.Common.{◌≡◌, ℕ, zero, suc, ◌+◌, ◌<◌, ◌≤◌, List, [], ◌∷◌, ◌++◌, length, refl, sym, ◌∙◌, ap, subst, Bool, true, false, cond, arith}
use Rattle.std.specs.Prelude.{Option, None, Some, ℤ}
use Rattle.std.specs.List.{flat_map}
use Rattle.bk_val.specs.ValueType.{ValueType}
use Rattle.bk_form.specs.Each.{Each}
use Rattle.bk_form.specs.Table.{Table}
use Rattle.bk_gsl.specs.State.{among}
use Rattle.bk_dev.specs.declared.kind.Home.{Home}
use Rattle.bk_dev.specs.declared.kind.Home.TheVariants.{Input}
use Rattle.bk_dev.specs.Development.{Head, Body, Development}
use Rattle.bk_dev.specs.Facts.{MayStandIn, AllAre, AreDistinct, is_input, home_of, AreAlike, AllAlike, EachBody, IsHeadOf}
use Rattle.bk_raw.specs.declared.term.RawName.{RawName}
use Rattle.bk_raw.specs.Trees.ComponentTree.{RawOperation}
use Rattle.bk_raw.specs.Meaning.Outcome.{no_type}
use Rattle.bk_raw.specs.Meaning.Binders.{has_type}
use Rattle.bk_raw.proofs.RulesFit.{none-left, none-right, some-fault}
use Rattle.bk_raw.specs.Errors.Faults.{Fault, without_type}
use Rattle.bk_statics.specs.Components.{Component, is_machine, initialisation, inner_body}
use Rattle.bk_statics.specs.Settled.{AreOf, AreSeen, IsSettled}
use Rattle.bk_statics.specs.Typings.{Typing, interval, numbered}
use Rattle.bk_statics.specs.Binders.{binder_count}
use Rattle.bk_statics.specs.SubFaults.{declared_faults, sub_faults}
use Rattle.bk_statics.specs.Plan.{Headed, Placed, Plan, plan, plan_headed, machine_headed, machine_heads, lower_headed, other_headed, input_count, output_count, placed, sizes, other_sizes, operations_of, body_scope}
use Rattle.bk_statics.specs.LevelOf.{types_at, made, body_made, bodies_made, level_made}
use Rattle.bk_statics.specs.ClauseFaults.{clause_faults, input_faults}
use Rattle.bk_statics.specs.NameFaults.{name_faults}
use Rattle.bk_statics.specs.OperationFaults.{shape_faults, bodies_shape, lower_faults, missing_init, operation_faults}
use Rattle.bk_statics.specs.StaticFaults.{writes, outputs_of, init_faults, body_faults, all_body_faults, static_faults}
use Rattle.bk_statics.specs.ValueFaults.{value_faults_of}
use Rattle.bk_statics.specs.LevelLaws.{body_count, IsReady, MachinesAreRight}
use Rattle.bk_statics.proofs.Intervals.{interval-join, interval-distinct}
use Rattle.bk_statics.proofs.SubStays.{among-interval, interval-has}
use Rattle.bk_statics.proofs.Stands.{stands}
use Rattle.bk_statics.proofs.InnerHomes.{input-home}
use Rattle.bk_statics.proofs.Shapes.{sub-shaped}
use Rattle.bk_statics.proofs.Parts.{machine-typed, inner-shape}
use Rattle.bk_statics.proofs.NewBodies.{new-bodies}

-- ---- names with numbers
numbered-alone : (table : Table) (n : ℕ) (xs : List RawName) → AreOf table (numbered n xs)
numbered-alone table n [] = tt
numbered-alone table n (x ∷ xs) = (tt, numbered-alone table (suc n) xs)

numbered-seen : (v : ℕ → Bool) (n : ℕ) (xs : List RawName) → ((m : ℕ) → n ≤ m → m < n + length xs → v m ≡ true) → AreSeen v (numbered n xs)
numbered-seen v n [] f = tt
numbered-seen v n (x ∷ xs) f = (f n (omega arith) (omega arith), numbered-seen v (suc n) xs (λ m a b. f m (omega arith) (omega arith)))

-- ---- outputs have types
module _ (table : Table) (typing : Typing) (settled : IsSettled table typing) where
  has-it : (c : Bool) (at : ℕ) (fs : List Fault) → cond c [] (no_type at) ++ fs ≡ [] → (c ≡ true) × (fs ≡ [])
  has-it true at fs h = (refl, h)
  has-it false at fs h = some-fault (without_type at) fs h

  alike-itself : (o : Option ValueType) (n : ℕ) → typing n ≡ o → has_type o ≡ true → AreAlike table n n
  alike-itself None n e h = absurd (cc)
  alike-itself (Some t) n e h = (t, settled.types n t e, settled.types n t e)

  pub outputs-alike : (n : ℕ) (xs : List RawName) → declared_faults typing n xs ≡ [] → AllAlike table (interval n (length xs)) (interval n (length xs))
  outputs-alike n [] h = tt
  outputs-alike n (x ∷ xs) h = let k = has-it (has_type (typing n)) x.at (declared_faults typing (suc n) xs) h in (alike-itself (typing n) n refl k.0, outputs-alike (suc n) xs k.1)

-- ---- the machine's plan
cond-true : {A : Type 0} (b : Bool) (x y : A) → b ≡ true → cond b x y ≡ x
cond-true true x y e = refl
cond-true false x y e = absurd (cc)

headed-at : (higher : Development) (comp : Component) (n far : ℕ) → is_machine comp.kind ≡ true → plan_headed higher comp n far ≡ machine_headed n comp.operations
headed-at higher comp n far m = cond-true (is_machine comp.kind) (machine_headed n comp.operations) (lower_headed far higher 0 higher.heads comp.operations ++ other_headed far higher.heads comp.operations) m

inputs-interval : (n : ℕ) (os : List RawOperation) → flat_map (λ h. h.inputs) (machine_heads n os) ≡ interval n (input_count os)
inputs-interval n [] = refl
inputs-interval n (o ∷ os) = ap (λ l. interval n (length o.inputs) ++ l) (inputs-interval (n + length o.inputs) os) ∙ interval-join n (length o.inputs) (input_count os)

module _ (int_max : ℤ) (higher : Development) (comp : Component) (ready : IsReady higher) (machine : is_machine comp.kind ≡ true) (none : static_faults int_max higher comp ≡ []) where
  abbrev p : Plan
  p = plan higher comp

  abbrev new : Development
  new = made int_max higher comp (plan higher comp)

  abbrev typing : Typing
  typing = types_at int_max higher comp (plan higher comp)

  abbrev top : ℕ
  top = p.binders_at + (binder_count (initialisation comp) + body_count p.headed)

  -- ---- headers
  input-is : (o : Option Home) → o ≡ Some Input → is_input o ≡ true
  input-is o e = ap is_input e

  all-inputs : (n k : ℕ) → p.inputs_at ≤ n → n + k ≤ p.inputs_at + input_count comp.operations → AllAre (λ m. is_input (home_of new m)) (interval n k)
  all-inputs n zero a b = tt
  all-inputs n (suc k) a b = (input-is (home_of new n) (input-home int_max higher comp ready.homes machine n a (omega arith)), all-inputs (suc n) k (omega arith) (omega arith))

  each-head : (i : ℕ) (os : List RawOperation) → p.inputs_at ≤ i → i + input_count os ≤ p.inputs_at + input_count comp.operations → Each (IsHeadOf new) (machine_heads i os)
  each-head i [] a b = tt
  each-head i (o ∷ os) a b = (
    record { inputs = all-inputs i (length o.inputs) a (omega arith); distinct = interval-distinct i (length o.inputs) },
    each-head (i + length o.inputs) os (omega arith) (omega arith),
  )

  -- ---- bodies
  abbrev placed_at : ℕ → ℕ → ℕ → RawOperation → Placed
  placed_at i n b o = record { headed = record { operation = o; inputs = numbered i o.inputs; machine_outputs = [] }; outputs_at = n; binders_at = b }

  each-body : (i n b : ℕ) (os : List RawOperation) → p.inputs_at ≤ i → i + input_count os ≤ p.outputs_at → p.outputs_at ≤ n → n + output_count (machine_headed i os) ≤ p.binders_at → p.binders_at ≤ b → b + body_count (machine_headed i os) ≤ top
      → all_body_faults int_max higher comp typing p (placed n b (machine_headed i os)) ≡ [] → bodies_shape comp.kind os ≡ []
      → EachBody new p.level (machine_heads i os) (bodies_made int_max typing p (placed n b (machine_headed i os))) (bodies_made int_max typing p (placed n b (machine_headed i os)))
  each-body i n b [] h0 h1 h2 h3 h4 h5 faults shape = tt
  each-body i n b (o ∷ os) h0 h1 h2 h3 h4 h5 faults shape =
      let h = placed_at i n b o in
      let later = all_body_faults int_max higher comp typing p (placed (n + length o.outputs) (b + binder_count o.body) (machine_headed (i + length o.inputs) os)) in
      let own = none-left (body_faults int_max higher comp typing p h) later faults in
      let inputs = input_faults typing (numbered i o.inputs) o.inputs in
      let outputs = declared_faults typing n o.outputs in
      let body = sub_faults int_max typing p.upper (body_scope p h) (writes int_max higher comp p (outputs_of h)) b o.body in
      let st = stands int_max higher comp ready.table in (
        new-bodies int_max higher comp ready none (record { name = o.name.text; inputs = interval i (length o.inputs); outputs = length o.outputs }) (body_made int_max typing p h) h (record {
          within = record { outputs = h2; all_outputs = omega arith; binders = h4; all_binders = omega arith };
          placed = record {
            outputs = omega arith;
            binders = omega arith;
            of = numbered-alone new.table i o.inputs;
            typed_inputs = machine-typed typing i o.inputs (none-left inputs (outputs ++ body) own);
            seen = numbered-seen (among (interval i (length o.inputs))) i o.inputs (λ m a c. interval-has i (length o.inputs) m a c);
            below = λ m e. (let r = (among-interval i (length o.inputs) m e).1 in omega arith);
          };
          counted = refl;
          alike = outputs-alike new.table typing st.settled n o.outputs (none-left outputs body (none-right inputs (outputs ++ body) own));
          no_faults = own;
          no_shapes = none-left (shape_faults comp.kind false o.body) (bodies_shape comp.kind os) shape;
        }),
        each-body (i + length o.inputs) (n + length o.outputs) (b + binder_count o.body) os (omega arith) (omega arith) (omega arith) (omega arith) (omega arith) (omega arith)
            (none-right (body_faults int_max higher comp typing p h) later faults) (none-right (shape_faults comp.kind false o.body) (bodies_shape comp.kind os) shape),
      )

  each-shape : (i n b : ℕ) (os : List RawOperation) → bodies_shape comp.kind os ≡ [] → Each (λ (m : Body). MayStandIn comp.kind m.sub) (bodies_made int_max typing p (placed n b (machine_headed i os)))
  each-shape i n b [] shape = tt
  each-shape i n b (o ∷ os) shape =
      let own = inner-shape comp.kind false o.body (none-left (shape_faults comp.kind false o.body) (bodies_shape comp.kind os) shape) in (
        (sub-shaped comp.kind int_max typing p.upper (inner_body o.body) false (body_scope p (placed_at i n b o)) b own).may,
        each-shape (i + length o.inputs) (n + length o.outputs) (b + binder_count o.body) os (none-right (shape_faults comp.kind false o.body) (bodies_shape comp.kind os) shape),
      )

  -- ---- the machine
  headed-so : p.headed ≡ machine_headed p.inputs_at comp.operations
  headed-so = headed-at higher comp p.inputs_at (p.outputs_at + (binder_count (initialisation comp) + (sizes higher.heads comp.operations + other_sizes higher.heads comp.operations))) machine

  heads-so : p.heads ≡ machine_heads p.inputs_at comp.operations
  heads-so = cond-true (is_machine comp.kind) (machine_heads p.inputs_at comp.operations) higher.heads machine

  inputs-so : cond (is_machine comp.kind) (input_count comp.operations) 0 ≡ input_count comp.operations
  inputs-so = cond-true (is_machine comp.kind) (input_count comp.operations) 0 machine

  pub right-heads : Each (IsHeadOf new) p.heads
  right-heads = subst (Each (IsHeadOf new)) (sym heads-so) (each-head p.inputs_at comp.operations (omega arith) (omega arith))

  pub right-inputs : AreDistinct (flat_map (λ h. h.inputs) p.heads)
  right-inputs = subst (λ hs. AreDistinct (flat_map (λ h. h.inputs) hs)) (sym heads-so) (subst AreDistinct (sym (inputs-interval p.inputs_at comp.operations)) (interval-distinct p.inputs_at (input_count comp.operations)))

  pub right-bodies : EachBody new p.level p.heads (bodies_made int_max typing p (operations_of p comp)) (bodies_made int_max typing p (operations_of p comp))
  right-bodies =
      let first = p.binders_at + binder_count (initialisation comp) in
      let clauses = clause_faults int_max typing p comp in
      let operations = operation_faults higher comp p in
      let begun = init_faults int_max higher comp typing p in
      let bodies = all_body_faults int_max higher comp typing p (operations_of p comp) in
      let values = value_faults_of int_max higher typing p comp in
      let missing = missing_init comp.at comp.init p.variables in
      let start = shape_faults comp.kind false (initialisation comp) in
      let shapes = bodies_shape comp.kind comp.operations in
      let lower = lower_faults (is_machine comp.kind) higher comp in
      let e1 = none-right clauses (operations ++ (begun ++ (bodies ++ values))) (none-right (name_faults higher comp) (clauses ++ (operations ++ (begun ++ (bodies ++ values)))) none) in
      let operations-none = none-left operations (begun ++ (bodies ++ values)) e1 in
      let bodies-none = none-left bodies values (none-right begun (bodies ++ values) (none-right operations (begun ++ (bodies ++ values)) e1)) in
      let shapes-none = none-left shapes lower (none-right start (shapes ++ lower) (none-right missing (start ++ (shapes ++ lower)) operations-none)) in
      let count = ap output_count headed-so in
      let bound = ap body_count headed-so in
      let many = inputs-so in
      let made-so = each-body p.inputs_at p.outputs_at first comp.operations (omega arith) (omega arith) (omega arith) (omega arith) (omega arith) (omega arith) (subst (λ hs. all_body_faults int_max higher comp typing p (placed p.outputs_at first hs) ≡ []) headed-so bodies-none) shapes-none in
      subst (λ hs. EachBody new p.level p.heads (bodies_made int_max typing p (placed p.outputs_at first hs)) (bodies_made int_max typing p (placed p.outputs_at first hs))) (sym headed-so)
      (subst (λ heads. EachBody new p.level heads (bodies_made int_max typing p (placed p.outputs_at first (machine_headed p.inputs_at comp.operations))) (bodies_made int_max typing p (placed p.outputs_at first (machine_headed p.inputs_at comp.operations)))) (sym heads-so) made-so)

pub machine-shapes : (int_max : ℤ) (higher : Development) (comp : Component) → IsReady higher → is_machine comp.kind ≡ true → static_faults int_max higher comp ≡ [] → Each (λ (m : Body). MayStandIn comp.kind m.sub) (level_made int_max (types_at int_max higher comp (plan higher comp)) (plan higher comp) comp).bodies
machine-shapes int_max higher comp ready machine none =
    let p = plan higher comp in
    let typing = types_at int_max higher comp p in
    let first = p.binders_at + binder_count (initialisation comp) in
    let clauses = clause_faults int_max typing p comp in
    let operations = operation_faults higher comp p in
    let after = init_faults int_max higher comp typing p ++ (all_body_faults int_max higher comp typing p (operations_of p comp) ++ value_faults_of int_max higher typing p comp) in
    let operations-none = none-left operations after (none-right clauses (operations ++ after) (none-right (name_faults higher comp) (clauses ++ (operations ++ after)) none)) in
    let missing = missing_init comp.at comp.init p.variables in
    let start = shape_faults comp.kind false (initialisation comp) in
    let shapes = bodies_shape comp.kind comp.operations in
    let lower = lower_faults (is_machine comp.kind) higher comp in
    let shapes-none = none-left shapes lower (none-right start (shapes ++ lower) (none-right missing (start ++ (shapes ++ lower)) operations-none)) in
    subst (λ hs. Each (λ (m : Body). MayStandIn comp.kind m.sub) (bodies_made int_max typing p (placed p.outputs_at first hs))) (sym (headed-so int_max higher comp ready machine none)) (each-shape int_max higher comp ready machine none p.inputs_at p.outputs_at first comp.operations shapes-none)

pub machines-right : MachinesAreRight
machines-right int_max higher comp ready machine none = record {
  heads = right-heads int_max higher comp ready machine none;
  own_inputs = right-inputs int_max higher comp ready machine none;
  bodies = right-bodies int_max higher comp ready machine none;
}
