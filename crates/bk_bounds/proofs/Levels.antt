-- How a development grows with each component that is accepted below it.
use Rattle.std.proofs.Common.{◌≡◌, ℕ, suc, ◌+◌, ◌*◌, ◌<◌, ◌≤◌, List, [], ◌∷◌, ◌++◌, length, refl, sym, ◌∙◌, ap, subst, Bool, true, false, cond, All, arith}
use Rattle.std.specs.Prelude.{Option, None, ℤ, nat_lt}
use Rattle.std.proofs.lemmas.Bool.Decides.{nat_tests}
use Rattle.std.proofs.lemmas.List.Elements.{All-nil, All-cons, All-append}
use Rattle.bk_limits.specs.declared.TheConstants.{MOST_COMPONENTS, MOST_NAMES, MOST_TOKENS}
use Rattle.bk_form.specs.Table.{Table}
use Rattle.bk_dev.specs.Development.{Level, Development, level_at, last, blank_level}
use Rattle.bk_dev.specs.Facts.{home_of}
use Rattle.bk_raw.specs.declared.component.ClauseWord.TheVariants.{Sets, Constants}
use Rattle.bk_raw.specs.Trees.ComponentTree.{RawSet, RawOperation, RawClause, RawComponent}
use Rattle.bk_raw.specs.Meaning.Names.{Names}
use Rattle.bk_raw.specs.Meaning.Binders.{is_text, twice}
use Rattle.bk_raw.proofs.RulesFit.{none-left, none-right}
use Rattle.bk_statics.specs.Components.{WrittenVariable, Component, component_of, is_machine, initialisation, sets_in, names_in, if_clause, listed, variables_of_clause, variables_of, set_names, variable_names, abstract_names, operation_names, declared_by, all_declared_by}
use Rattle.bk_statics.specs.DeclaredNames.{term_names, sub_names, if_there, sum_of, operation_count, declared_count, declares_too_many}
use Rattle.bk_statics.specs.Binders.{binder_count}
use Rattle.bk_statics.specs.Typings.{Typing}
use Rattle.bk_statics.specs.Above.{above_of, names_at_level, globals_of, upper_of, is_concrete}
use Rattle.bk_statics.specs.Plan.{entries_of, carried_one, number_in, carried, declared_texts, own_one, own, all_declared, input_count, Headed, Placed, placed, output_count, Plan, plan, operations_of}
use Rattle.bk_statics.specs.LevelOf.{entries_from, types_at, new_texts, bodies_made, level_made, made}
use Rattle.bk_statics.specs.ClauseFaults.{clause_faults}
use Rattle.bk_statics.specs.NameFaults.{named_texts, taken, level_texts, variable_texts, header_twice, name_faults}
use Rattle.bk_statics.specs.OperationFaults.{missing_init, shape_faults, bodies_shape, lower_faults, operation_faults}
use Rattle.bk_statics.specs.StaticFaults.{init_faults, all_body_faults, static_faults}
use Rattle.bk_statics.specs.ValueFaults.{value_faults_of}
use Rattle.bk_statics.specs.Executable.{executable_faults}
use Rattle.bk_statics.specs.Verdict.{accepted, verdict_of}
use Rattle.bk_statics.specs.LevelLaws.{body_count}
use Rattle.bk_statics.proofs.Counted.{length-join, entries-count, new-count}
use Rattle.bk_statics.proofs.NewBodies.{interval-length}
use Rattle.bk_statics.proofs.NewLevel.{index-last}
use Rattle.bk_statics.proofs.Scopes.{far_of}
use Rattle.bk_statics.proofs.Verdicts.{answer-right}
use Rattle.bk_bounds.proofs.Sizes.{all_sizes, bound_in}
use Rattle.bk_bounds.proofs.Operations.{AreNamedApart, Fit, fits}

-- n components, one below the other, with what they bind being few, come to a development no larger than this
pub record Grown (n : ℕ) (dev : Development) : Type 0 where
  pub sets : length dev.table.sets ≤ MOST_NAMES * n
  pub variables : length dev.table.variables ≤ 1404000 * n
  pub last : length (upper_of dev) ≤ MOST_NAMES * n
  pub heads : AreNamedApart dev.heads
  pub bodies : All (λ (l : Level). length l.bodies ≤ length dev.heads) dev.levels

pub none-grown : Grown 0 (above_of None)
none-grown = record { sets = omega arith; variables = omega arith; last = omega arith; heads = tt; bodies = All-nil (λ (l : Level). length l.bodies ≤ 0) }

-- ---- names that are declared
sets-declared : (ss : List RawSet) → length ss ≤ length (set_names ss)
sets-declared [] = omega arith
sets-declared (s ∷ ss) = let r = sets-declared ss in let e = length-join s.elements (set_names ss) in omega arith

variables-declared : (vs : List WrittenVariable) → length (variable_names vs) ≡ length vs
variables-declared [] = refl
variables-declared (v ∷ vs) = ap suc (variables-declared vs)

-- sets, constants and variables are declared
parts-declared : (cs : List RawClause) → length (listed Sets sets_in cs) + (length (listed Constants names_in cs) + length (variables_of cs)) ≤ length (all_declared_by cs)
parts-declared [] = omega arith
parts-declared (c ∷ cs) =
    let ss = if_clause Sets sets_in c in
    let xs = if_clause Constants names_in c in
    let vs = variables_of_clause c in
    let r = parts-declared cs in
    let all-sets = length-join ss (listed Sets sets_in cs) in
    let all-constants = length-join xs (listed Constants names_in cs) in
    let all-variables = length-join vs (variables_of cs) in
    let of-sets = sets-declared ss in
    let of-variables = variables-declared vs in
    let own-two = length-join xs (variable_names vs) in
    let own-three = length-join (set_names ss) (xs ++ variable_names vs) in
    let all = length-join (declared_by c) (all_declared_by cs) in
    omega arith

inputs-declared : (os : List RawOperation) → input_count os ≤ sum_of operation_count os
inputs-declared [] = omega arith
inputs-declared (o ∷ os) = let r = inputs-declared os in omega arith

not-past : (m n : ℕ) → nat_lt m n ≡ false → n ≤ m
not-past m n h = grind (arith, nat_tests)

-- a component within the limit declares few names, inputs among them
names-few : (comp : Component) → declares_too_many comp ≡ false → length comp.declared + input_count comp.operations ≤ MOST_NAMES
names-few comp h = sums (length comp.declared) (if_there term_names comp.properties) (if_there term_names comp.invariant) (sum_of term_names comp.assertions) (if_there sub_names comp.init) (sum_of operation_count comp.operations) (input_count comp.operations) (not-past MOST_NAMES (declared_count comp) h) (inputs-declared comp.operations)
  where
    sums : (d p i a s o k : ℕ) → d + (p + (i + (a + (s + o)))) ≤ MOST_NAMES → k ≤ o → d + k ≤ MOST_NAMES
    sums d p i a s o k h l = omega arith

-- ---- the level's variables
with-one : {A : Type 0} (b : Bool) (x : A) (xs : List A) (k : ℕ) → length xs ≤ k → length (cond b (x ∷ xs) xs) ≤ suc k
with-one true x xs k h = omega arith
with-one false x xs k h = omega arith

but-one : {A : Type 0} (b : Bool) (x : A) (xs : List A) (k : ℕ) → length xs ≤ k → length (cond b xs (x ∷ xs)) ≤ suc k
but-one true x xs k h = omega arith
but-one false x xs k h = omega arith

carried-few : (dev : Development) (ns : Names) → length (carried dev ns) ≤ length ns
carried-few dev [] = omega arith
carried-few dev (n ∷ ns) = with-one (is_concrete (home_of dev (number_in n))) (carried_one n) (carried dev ns) (length ns) (carried-few dev ns)

own-few : (before : List (List ℕ)) (upper : Names) (vs : List WrittenVariable) → length (own before upper vs) ≤ length vs
own-few before upper [] = omega arith
own-few before upper (v ∷ vs) = but-one (is_text before v.name.text) (own_one upper v) (own before upper vs) (length vs) (own-few before upper vs)

-- a level has no more variables than the one above it and its component together
variables-few : (dev : Development) (upper : Names) (vs : List WrittenVariable) → length (all_declared dev upper vs) ≤ length upper + length vs
variables-few dev upper vs =
    let before = declared_texts (carried dev upper) in
    let a = carried-few dev upper in
    let b = own-few before upper vs in
    let e = length-join (carried dev upper) (own before upper vs) in
    omega arith

-- ---- lengths
entries-length : (ss : List RawSet) → length (entries_of ss) ≡ length ss
entries-length [] = refl
entries-length (s ∷ ss) = ap suc (entries-length ss)

names-length : (k : ℕ) (table : Table) (ns : List ℕ) → length (names_at_level k table ns) ≡ length ns
names-length k table [] = refl
names-length k table (n ∷ ns) = ap suc (names-length k table ns)

placed-length : (n b : ℕ) (hs : List Headed) → length (placed n b hs) ≡ length hs
placed-length n b [] = refl
placed-length n b (h ∷ hs) = ap suc (placed-length (n + length h.operation.outputs) (b + binder_count h.operation.body) hs)

bodies-length : (int_max : ℤ) (typing : Typing) (p : Plan) (os : List Placed) → length (bodies_made int_max typing p os) ≡ length os
bodies-length int_max typing p [] = refl
bodies-length int_max typing p (o ∷ os) = ap suc (bodies-length int_max typing p os)

-- a level's inputs are those of its operations, or none
inputs-few : (b : Bool) (k : ℕ) → cond b k 0 ≤ k
inputs-few true k = omega arith
inputs-few false k = omega arith

-- ---- one level more
-- the last level is the new one
last-vars : (int_max : ℤ) (higher : Development) (comp : Component) → length (upper_of (made int_max higher comp (plan higher comp))) ≡ length (plan higher comp).variables
last-vars int_max higher comp =
    let p = plan higher comp in
    let new = made int_max higher comp p in
    let l = level_made int_max (types_at int_max higher comp p) p comp in
    let long : length new.levels ≡ length higher.levels + 1 = length-join higher.levels (l ∷ []) in
    let last-so : last new ≡ length higher.levels = omega arith in
    let there : level_at new (last new) ≡ l = ap (level_at new) last-so ∙ index-last higher.levels l blank_level in
    names-length (last new) new.table (level_at new (last new)).vars ∙ (ap (λ (m : Level). length m.vars) there ∙ interval-length p.variables_at (length p.variables))

-- no name of an operation stands twice
once : (higher : Development) (comp : Component) → name_faults higher comp ≡ [] → twice [] (operation_names comp.operations) ≡ []
once higher comp h =
    let a = taken (level_texts higher.levels) (comp.name ∷ []) in
    let b = twice (named_texts (globals_of higher)) comp.declared in
    let c = taken (variable_texts 0 higher higher.levels) (set_names comp.sets ++ comp.constants) in
    let d = taken (declared_texts (carried higher (upper_of higher))) (abstract_names comp.variables) in
    let e = twice [] (operation_names comp.operations) in
    let f = header_twice comp.operations in
    none-left e f (none-right d (e ++ f) (none-right c (d ++ (e ++ f)) (none-right b (c ++ (d ++ (e ++ f))) (none-right a (b ++ (c ++ (d ++ (e ++ f)))) h))))

-- the operations have the machine's headers, below the machine
headers-none : (higher : Development) (comp : Component) → operation_faults higher comp (plan higher comp) ≡ [] → lower_faults (is_machine comp.kind) higher comp ≡ []
headers-none higher comp h =
    let a = missing_init comp.at comp.init (plan higher comp).variables in
    let b = shape_faults comp.kind false (initialisation comp) in
    let c = bodies_shape comp.kind comp.operations in
    let d = lower_faults (is_machine comp.kind) higher comp in
    none-right c d (none-right b (c ++ d) (none-right a (b ++ (c ++ d)) h))

new-fits : (int_max : ℤ) (higher : Development) (comp : Component) → (is_machine comp.kind ≡ true → higher.levels ≡ []) → static_faults int_max higher comp ≡ [] → AreNamedApart higher.heads → All (λ (l : Level). length l.bodies ≤ length higher.heads) higher.levels
    → Fit higher.levels comp.operations (plan higher comp).heads (plan higher comp).headed
new-fits int_max higher comp first none apart above =
    let p = plan higher comp in
    let typing = types_at int_max higher comp p in
    let names = name_faults higher comp in
    let clauses = clause_faults int_max typing p comp in
    let operations = operation_faults higher comp p in
    let rest = init_faults int_max higher comp typing p ++ (all_body_faults int_max higher comp typing p (operations_of p comp) ++ value_faults_of int_max higher typing p comp) in
    let names-none = none-left names (clauses ++ (operations ++ rest)) none in
    let operations-none = none-left operations rest (none-right clauses (operations ++ rest) (none-right names (clauses ++ (operations ++ rest)) none)) in
    fits (is_machine comp.kind) p.inputs_at (far_of higher comp) higher comp first apart above (once higher comp names-none) (headers-none higher comp operations-none)

-- at most so many entries more
entries-few : (n v m x d i k o b c u w s y a : ℕ) → n < MOST_COMPONENTS → m ≡ v + k → k ≡ x + (d + (i + (o + (c + b)))) → v ≤ 1404000 * n → u ≤ MOST_NAMES * n → d ≤ u + w → s + (x + w) ≤ y → y + i ≤ MOST_NAMES → o + b ≤ a → c + a ≤ MOST_TOKENS → m ≤ 1404000 * suc n
entries-few n v m x d i k o b c u w s y a h0 h1 h2 h3 h4 h5 h6 h7 h8 h9 = omega arith

grows : (n : ℕ) (int_max : ℤ) (higher : Development) (comp : Component) → n < MOST_COMPONENTS → (is_machine comp.kind ≡ true → higher.levels ≡ []) → declares_too_many comp ≡ false → length comp.sets + (length comp.constants + length comp.variables) ≤ length comp.declared → bound_in comp ≤ MOST_TOKENS → static_faults int_max higher comp ≡ [] → Grown n higher
    → Grown (suc n) (made int_max higher comp (plan higher comp))
grows n int_max higher comp low first few declared bound none g =
    let p = plan higher comp in
    let typing = types_at int_max higher comp p in
    let l = level_made int_max typing p comp in
    let base = length higher.table.variables in
    let total = names-few comp few in
    let fit = new-fits int_max higher comp first none g.heads g.bodies in
    let vars = variables-few higher (upper_of higher) comp.variables in
    let ins = inputs-few (is_machine comp.kind) (input_count comp.operations) in
    let old-sets = g.sets in
    let old-last = g.last in
    let sets-long = length-join higher.table.sets (entries_of comp.sets) in
    let sets-new = entries-length comp.sets in
    let long = length-join higher.table.variables (entries_from typing base (new_texts p comp)) in
    let entries = entries-count typing base (new_texts p comp) in
    let last-so = last-vars int_max higher comp in
    let many : length l.bodies ≡ length p.headed = bodies-length int_max typing p (operations_of p comp) ∙ placed-length p.outputs_at (p.binders_at + binder_count (initialisation comp)) p.headed in
    let as-many = fit.as_many in
    record {
      sets = omega arith;
      variables = entries-few n base (length (higher.table.variables ++ entries_from typing base (new_texts p comp))) (length comp.constants) (length p.variables) (cond (is_machine comp.kind) (input_count comp.operations) 0) (length (new_texts p comp)) (output_count p.headed) (body_count p.headed) (binder_count (initialisation comp)) (length (upper_of higher)) (length comp.variables) (length comp.sets) (length comp.declared) (all_sizes comp.operations)
          low (omega arith) (new-count p comp) g.variables g.last vars declared (omega arith) fit.few bound;
      last = omega arith;
      heads = fit.apart;
      bodies = All-append (λ (m : Level). length m.bodies ≤ length p.heads) higher.levels (l ∷ []) fit.above (All-cons (λ (m : Level). length m.bodies ≤ length p.heads) l [] (omega arith) (All-nil (λ (m : Level). length m.bodies ≤ length p.heads)));
    }

-- with each component that is accepted, of which the machine stands below none
pub level-grows : (n : ℕ) (int_max : ℤ) (above : Option Development) (written : RawComponent) (dev : Development) → n < MOST_COMPONENTS → (is_machine (component_of written).kind ≡ true → above ≡ None) → verdict_of int_max above written ≡ accepted dev → bound_in (component_of written) ≤ MOST_TOKENS → Grown n (above_of above) → Grown (suc n) dev
level-grows n int_max above written dev low first e bound g =
    let comp = component_of written in
    let higher = above_of above in
    let right = answer-right.right int_max higher comp dev e in
    let none = none-left (static_faults int_max higher comp) (executable_faults int_max higher comp) right.1 in
    subst (Grown (suc n)) (sym right.2) (grows n int_max higher comp low (λ k. ap (λ (o : Option Development). (above_of o).levels) (first k)) right.0 (parts-declared written.clauses) bound none g)
