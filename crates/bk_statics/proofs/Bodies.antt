-- Without faults the body of an operation types, and names and writes what it may.
use Rattle.std.proofs.Common.{◌≡◌, ◌⊎◌, inl, inr, ℕ, ◌<◌, List, [], ◌∷◌, ◌++◌, length, refl, ◌∙◌, ap, Bool, true, false, ◌||◌, arith, nat_eq}
use Rattle.std.specs.Prelude.{Option, None, Some, ℤ}
use Rattle.std.proofs.lemmas.Bool.Decides.{nat_tests}
use Rattle.bk_form.specs.Role.{bind}
use Rattle.bk_gsl.specs.State.{among}
use Rattle.bk_dev.specs.declared.kind.Home.{Home}
use Rattle.bk_dev.specs.declared.kind.Home.TheVariants.{Constant, Input, Abstract, Concrete, Inner}
use Rattle.bk_dev.specs.Facts.{is_constant, is_variable_of, home_of, names_own, names_joined}
use Rattle.bk_raw.specs.Meaning.Names.{Names}
use Rattle.bk_raw.specs.Meaning.Binders.{has_type}
use Rattle.bk_raw.specs.Meaning.Speaking.{AreTyped}
use Rattle.bk_statics.specs.Settled.{AreSeen, IsBelow}
use Rattle.bk_statics.specs.Typings.{Typing, typed}
use Rattle.bk_statics.specs.SubFaults.{declared_faults, sub_faults}
use Rattle.bk_raw.proofs.RulesFit.{none-left, none-right}
use Rattle.bk_statics.proofs.SubStays.{among-interval, interval-has, seen-more, seen-join}
use Rattle.bk_statics.proofs.SubTypes.{inner-typed, elaborated-types}
use Rattle.bk_statics.proofs.SubMay.{elaborated-stays}
use Rattle.bk_statics.specs.Components.{Component}
use Rattle.bk_raw.specs.Meaning.ScopeReading.{set_names}
use Rattle.bk_statics.specs.Above.{constants_from, globals_of}
use Rattle.bk_statics.specs.Plan.{Placed, entries_of, plan, level_names, scope, invariant_scope, body_scope}
use Rattle.bk_statics.specs.LevelOf.{types_at, made}
use Rattle.bk_statics.specs.ClauseFaults.{constant_faults, variable_faults, clause_faults, stated_faults, all_stated_faults, entry_faults, input_faults, set_faults}
use Rattle.bk_statics.specs.StaticFaults.{writes, body_faults, outputs_of}
use Rattle.bk_statics.specs.LevelLaws.{IsReady, IsPlaced, BodyRight}
use Rattle.bk_statics.proofs.Listed.{variable-entry}
use Rattle.bk_statics.proofs.WaysOf.{numbered-of}
use Rattle.bk_statics.proofs.Stands.{split-at, low-type, stands, scope-stands, upper-stands, of-bind}
use Rattle.bk_statics.proofs.Homes.{IsInside, variable-home, inside-home, IsHomeOf}
use Rattle.bk_statics.proofs.Starts.{seen-declared, seen-numbered, typed-declared, typed-new, typed-sets, typed-constants, typed-all, entry-typed}
use Rattle.bk_statics.proofs.States.{globals-seen, upper-seen}
use Rattle.bk_dev.specs.Development.{Development}

pub scope-typed : (int_max : ℤ) (higher : Development) (comp : Component) → IsReady higher → clause_faults int_max (types_at int_max higher comp (plan higher comp)) (plan higher comp) comp ≡ [] → AreTyped (typed (types_at int_max higher comp (plan higher comp)) (scope (plan higher comp)))
scope-typed int_max higher comp ready all-said =
    let p = plan higher comp in
    let old = higher in
    let typing = types_at int_max higher comp p in
    let base = length old.table.variables in
    let more = stated_faults int_max typing p.globals comp.properties ++ (stated_faults int_max typing (invariant_scope p) comp.invariant ++ (all_stated_faults int_max typing (invariant_scope p) comp.assertions ++ entry_faults int_max typing p.globals comp.values)) in
    let vars = variable_faults typing comp.name.at comp.variables p.variables_at p.variables in
    let said = none-right (set_faults comp.sets) (constant_faults typing p.constants_at comp.constants ++ (vars ++ more)) all-said in
    let constants-none = none-left (constant_faults typing p.constants_at comp.constants) (vars ++ more) said in
    let vars-none = none-left vars more (none-right (constant_faults typing p.constants_at comp.constants) (vars ++ more) said) in
    let old-typed : (m : ℕ) → m < base → has_type (typing m) ≡ true = λ m h. ap has_type (low-type int_max higher comp ready.table m h ∙ variable-entry old.table m) ∙ entry-typed old.table.variables m h in
    typed-all typing (level_names p) p.globals (typed-declared typing comp.name.at comp.variables p.variables_at p.variables vars-none)
    (typed-new typing base comp.constants (set_names (length old.table.sets) (entries_of comp.sets) ++ globals_of old) constants-none
    (typed-all typing (set_names (length old.table.sets) (entries_of comp.sets)) (globals_of old) (typed-sets typing (length old.table.sets) (entries_of comp.sets))
    (typed-all typing (set_names 0 old.table.sets) (constants_from 0 old.homes old.table.variables) (typed-sets typing 0 old.table.sets) (typed-constants typing 0 old.homes old.table.variables (λ m a b. old-typed m (omega arith))))))

pub typed-bind : (typing : Typing) (a b : Names) → AreTyped (typed typing a) → AreTyped (typed typing b) → AreTyped (typed typing (bind a b))
typed-bind typing [] b h k = k
typed-bind typing (n ∷ ns) b h k = typed-bind typing ns (n ∷ b) h.1 (h.0, k)

seen-bind : (v : ℕ → Bool) (a b : Names) → AreSeen v a → AreSeen v b → AreSeen v (bind a b)
seen-bind v [] b h k = k
seen-bind v (n ∷ ns) b h k = seen-bind v ns (n ∷ b) h.1 (h.0, k)

abbrev own_in : ℕ → Bool → Bool → Option Home → Bool
own_in k i j o = is_constant o || i || is_variable_of k o || j

third-own : (a i b j : Bool) → b ≡ true → (a || i || b || j) ≡ true
third-own true i b j h = refl
third-own false true b j h = refl
third-own false false true j h = refl
third-own false false false j h = absurd (cc)

own-variable : (k : ℕ) (i j : Bool) (o : Option Home) → IsHomeOf k o → own_in k i j o ≡ true
own-variable k i j (Some (Abstract m)) h = let s : m ≡ k = h in third-own false i (nat_eq m k) j (grind (arith, nat_tests))
own-variable k i j (Some (Concrete m)) h = let s : m ≡ k = h in third-own false i (nat_eq m k) j (grind (arith, nat_tests))
own-variable k i j None h = absurd h
own-variable k i j (Some Constant) h = absurd h
own-variable k i j (Some Input) h = absurd h
own-variable k i j (Some (Inner m)) h = absurd h

own-input : (k : ℕ) (i j : Bool) (o : Option Home) → i ≡ true → own_in k i j o ≡ true
own-input k true j o h = third (is_constant o) (is_variable_of k o) j
  where
    third : (b c d : Bool) → (b || true || c || d) ≡ true
    third true c d = refl
    third false c d = refl
own-input k false j o h = absurd (cc)

own-output : (k : ℕ) (i j : Bool) (o : Option Home) → j ≡ true → own_in k i j o ≡ true
own-output k i true o h = three (is_constant o) i (is_variable_of k o)
  where
    three : (a b c : Bool) → (a || b || c || true) ≡ true
    three true b c = refl
    three false true c = refl
    three false false true = refl
    three false false false = refl
own-output k i false o h = absurd (cc)

either-own : (i j : Bool) → (i || false || j) ≡ true → (i ≡ true) ⊎ (j ≡ true)
either-own true j e = inl refl
either-own false j e = inr e

inside-own : (k : ℕ) (i j : Bool) (o : Option Home) → IsInside o → own_in k i j o ≡ true → (i ≡ true) ⊎ (j ≡ true)
inside-own k i j None h e = either-own i j e
inside-own k i j (Some Input) h e = either-own i j e
inside-own k i j (Some (Inner m)) h e = either-own i j e
inside-own k i j (Some Constant) h e = absurd h
inside-own k i j (Some (Abstract m)) h e = absurd h
inside-own k i j (Some (Concrete m)) h e = absurd h

pub bodies-right : (int_max : ℤ) (higher : Development) (comp : Component) → IsReady higher → clause_faults int_max (types_at int_max higher comp (plan higher comp)) (plan higher comp) comp ≡ [] → (inputs : List ℕ) (o : Placed) → IsPlaced int_max higher comp inputs o → body_faults int_max higher comp (types_at int_max higher comp (plan higher comp)) (plan higher comp) o ≡ [] → BodyRight int_max higher comp inputs o
bodies-right int_max higher comp ready said inputs o placed none =
    let p = plan higher comp in
    let new = made int_max higher comp p in
    let typing = types_at int_max higher comp p in
    let xs = o.headed.operation.outputs in
    let outs = outputs_of o in
    let st = stands int_max higher comp ready.table in
    let visible : ℕ → Bool = names_own new p.level inputs outs in
    let inner = bind o.headed.inputs (scope p) in
    let body = sub_faults int_max typing p.upper (body_scope p o) (writes int_max higher comp p outs) o.binders_at o.headed.operation.body in
    let declared = declared_faults typing o.outputs_at xs in
    let rest = none-right (input_faults typing o.headed.inputs o.headed.operation.inputs) (declared ++ body) none in
    let clean = none-right declared body rest in
    let of = numbered-of new.table o.outputs_at xs inner (of-bind new.table o.headed.inputs (scope p) placed.of (scope-stands int_max higher comp ready.table.counted)) in
    let types = inner-typed int_max new.table typing st.settled o.outputs_at xs inner (none-left declared body rest) (typed-bind typing o.headed.inputs (scope p) placed.typed_inputs (scope-typed int_max higher comp ready said)) in
    let by : (n : ℕ) (h : Option Home) → home_of new n ≡ h → own_in p.level (among inputs n) (among outs n) h ≡ true → visible n ≡ true = λ n h e t. ap (own_in p.level (among inputs n) (among outs n)) e ∙ t in
    let scope-seen = seen-join visible (level_names p) p.globals
    (seen-declared visible p.variables_at p.variables (λ m a b. own-variable p.level (among inputs m) (among outs m) (home_of new m) (variable-home int_max higher comp ready.homes m a b)))
    (globals-seen int_max higher comp ready.homes visible (λ n e. by n (Some Constant) e refl)) in
    let inputs-seen = seen-more (among inputs) visible o.headed.inputs (λ n h. own-input p.level (among inputs n) (among outs n) (home_of new n) h) placed.seen in
    let seen = seen-numbered visible o.outputs_at xs inner (λ m a b. own-output p.level (among inputs m) (among outs m) (home_of new m) (interval-has o.outputs_at (length xs) m a b)) (seen-bind visible o.headed.inputs (scope p) inputs-seen scope-seen) in
    let far = placed.outputs in
    let behind = placed.binders in
    let low : IsBelow o.binders_at visible = λ m h. split-at (m < o.binders_at) m p.inputs_at (λ a. omega arith) (λ a. elim (inside-own p.level (among inputs m) (among outs m) (home_of new m) (inside-home int_max higher comp ready.homes m a) h) [ inl i ↦ placed.below m i | inr j ↦ (let r = (among-interval o.outputs_at (length xs) m j).1 in omega arith) ]) in
    record {
      types = elaborated-types int_max new.table typing st.settled p.upper (upper-stands int_max higher comp) o.headed.operation.body (body_scope p o) (writes int_max higher comp p outs) o.binders_at of types clean;
      stays = elaborated-stays int_max new.table typing st.settled p.upper (upper-stands int_max higher comp) (names_joined new p.level) (upper-seen int_max higher comp ready) o.headed.operation.body (body_scope p o) visible (writes int_max higher comp p outs) o.binders_at of types seen low clean;
    }
